use Rattle.std.proofs.lemmas.Result.{err_from_is_err_and}
use Rattle.gix_object_commit.specs.Views.{parts_of}
use Rattle.gix_object_commit.proofs.Owning.{owning_actors, owning_tree}
use Rattle.gix_object_commit.proofs.commit.CommitRef.to_owned.Goals as goal

pub returns-in_err-tree-clause-refused : goal.returns-in_err-tree-clause-refused
returns-in_err-tree-clause-refused c =
    let p = err_from_is_err_and c.from_residual.result c.from_residual.ensures.1 in
    let fault = c.in_err-tree.ensures.refused in
    rw (p.1, p.2) (owning_tree (parts_of c.args.self.now) _ fault.0 fault.1)

pub returns-in_err-author-clause-refused : goal.returns-in_err-author-clause-refused
returns-in_err-author-clause-refused c =
    let p = err_from_is_err_and c.from_residual-in_err-author.result c.from_residual-in_err-author.ensures.1 in
    let parents = rw c.as_slice.ensures at c.in_ok-parents.ensures.own in
    rw (p.1, p.2) (owning_actors (parts_of c.args.self.now) c.in_ok-tree.tree c.in_ok-tree.ensures.own _ c.in_ok-parents.parents.items parents c.in_err-author.ensures.refused)
