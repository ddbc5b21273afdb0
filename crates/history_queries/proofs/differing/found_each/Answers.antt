use Rattle.std.proofs.Common.{subst, sym}
use Rattle.gix_hash.specs.Id.{id_of}
use Rattle.gix_object_lookup.specs.Table.{Table}
use Rattle.history_files.specs.NamedTrees.{AreNamed}
use Rattle.history_repository.proofs.Tables.{holds_known, root_of, tables_same}
use Rattle.history_repository.proofs.ReadingFaults.{read_told}
use Rattle.history_queries.proofs.differing.found_each.Goals as goal

pub returns : goal.returns
returns g c = λ r below paths stands at named.
    let own = c.args.repository.now in
    let before = subst (λ (t : Table). AreNamed t paths c.args.trees.now) (sym (tables_same _ _ own r stands)) named in (
      c.in_ok-entries_at_once.ensures.found paths before (holds_known _ _ own r stands) r.kind below (root_of _ _ own r stands (id_of c.args.tree.now) below at),
      subst (λ (t : Table). AreNamed t paths c.entries_at_once.new.trees) (tables_same _ _ own r stands) (c.in_ok-entries_at_once.ensures.kept (holds_known _ _ own r stands) paths before),
    )

pub returns-in_err-entries_at_once : goal.returns-in_err-entries_at_once
returns-in_err-entries_at_once g c = λ r below paths stands at named.
    let own = c.args.repository.now in
    let before = subst (λ (t : Table). AreNamed t paths c.args.trees.now) (sym (tables_same _ _ own r stands)) named in
    read_told g.F.Files.reading_may_fail _ c.from_residual.result c.in_err-entries_at_once.field-0.0 c.from_residual.ensures.1
    (c.in_err-entries_at_once.ensures.refused paths before (holds_known _ _ own r stands) r.kind below (root_of _ _ own r stands (id_of c.args.tree.now) below at))
