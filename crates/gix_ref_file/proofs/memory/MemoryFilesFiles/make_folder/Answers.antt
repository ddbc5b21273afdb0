use Rattle.std.proofs.Common.{◌≡◌, ◌∙◌, ap, true, ◌&&◌, rules}
use Rattle.std.specs.Prelude.{is_none}
use Rattle.gix_ref_file.specs.Tree.{node_at}
use Rattle.gix_ref_file.specs.Changes.{may_hold_file}
use Rattle.gix_ref_file.proofs.Rooted.{rooted_made}
use Rattle.gix_ref_file.proofs.Histories.{makes}
use Rattle.gix_ref_file.proofs.memory.MemoryFilesFiles.make_folder.Goals as goal

pub returns-clause-change : goal.returns-clause-change
returns-clause-change c honest =
    let tree = c.args.self.now.nodes in
    let path = c.args.path.now in
    let may : may_hold_file tree path ≡ true = search rules in
    let none : is_none (node_at tree path) ≡ true = search rules in
    makes _ _ _ _ (ap (λ b. b && may_hold_file tree path) none ∙ may) c.in_ok-put.ensures.ok

pub returns-clause-honest : goal.returns-clause-honest
returns-clause-honest c honest = rooted_made _ _ _ _ (returns-clause-change c honest) honest
