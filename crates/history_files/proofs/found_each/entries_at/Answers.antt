use Rattle.std.proofs.Common.{◌∙◌, ap, map, sym, subst}
use Rattle.gix_hash.specs.Id.{id_of}
use Rattle.history_files.specs.Reading.{OwnFault, told_entry}
use Rattle.history_files.proofs.SeveralPaths.{each_told, own_at}
use Rattle.history_files.proofs.found_each.entries_at.Goals as goal

pub returns-in_ok-found_among-in-Ok-clause-found : goal.returns-in_ok-found_among-in-Ok-clause-found
returns-in_ok-found_among-in-Ok-clause-found g c = λ honest kind files is.
    c.in_ok-found_among-in-Ok.ensures ∙ ap (map told_entry) c.as_slice.ensures.value
    ∙ each_told (g.S.Lookup.table c.args.store.now) kind (g.S.Lookup.is_honest c.args.store.now) honest files (id_of c.args.root.now) is c.args.paths.now c.in-Ok.entries.items c.in-Ok.ensures.told

pub returns-in-Err-clause-refused : goal.returns-in-Err-clause-refused
returns-in-Err-clause-refused g c = λ honest kind files is.
    subst (OwnFault (g.S.Lookup.may_fail c.args.store.now)) (sym c.read_error.ensures)
    (own_at (g.S.Lookup.table c.args.store.now) kind (g.S.Lookup.is_honest c.args.store.now) honest files (id_of c.args.root.now) is (g.S.Lookup.may_fail c.args.store.now) c.args.root.now c.args.paths.now c.in-Err.error c.in-Err.ensures.refused)
