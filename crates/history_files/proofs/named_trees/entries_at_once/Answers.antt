use Rattle.std.proofs.Common.{subst, sym}
use Rattle.history_files.specs.NamedTrees.{CanFollowEach}
use Rattle.history_files.proofs.NamesKept.{kept_on}
use Rattle.history_files.proofs.named_trees.entries_at_once.Goals as goal

pub returns-clause-found : goal.returns-clause-found
returns-clause-found g c = λ paths are.
    let own = c.args.trees.now in
    c.follow_each.ensures.found paths (subst (λ split. CanFollowEach (g.S.Lookup.table c.args.store.now) paths split own.answers) (sym c.as_slice.ensures.value) are)

pub returns-clause-refused : goal.returns-clause-refused
returns-clause-refused g c = λ paths are.
    let own = c.args.trees.now in
    c.follow_each.ensures.refused paths (subst (λ split. CanFollowEach (g.S.Lookup.table c.args.store.now) paths split own.answers) (sym c.as_slice.ensures.value) are)

pub returns-clause-kept : goal.returns-clause-kept
returns-clause-kept g c = λ honest paths are.
    let own = c.args.trees.now in
    kept_on (g.S.Lookup.table c.args.store.now) paths own.paths.items own.answers c.follow_each.new.self are c.follow_each.ensures.names c.follow_each.result (c.follow_each.ensures.kept honest are.kept)
