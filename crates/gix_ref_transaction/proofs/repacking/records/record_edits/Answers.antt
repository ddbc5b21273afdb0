use Rattle.std.proofs.Common.{[], refl, ap, map, option_map}
use Rattle.std.proofs.lemmas.Result.{err_from_is_err_and}
use Rattle.gix_ref_transaction.specs.Resolving.{ChangeFault, PackFault, SomeChangeFault}
use Rattle.gix_ref_transaction.proofs.Unresolved.{one_off, is_among, by_reason}
use Rattle.gix_ref_lock.specs.RecordEdits.{line_in}
use Rattle.gix_ref_transaction.specs.Modes.{objects_in}
use Rattle.gix_ref_transaction.proofs.RecordLines.{said_none, said_more, all_said}
use Rattle.gix_ref_transaction.proofs.repacking.records.record_edits.Goals as goal

pub edits-init : goal.edits-init
edits-init g c = record {
  said = λ honest told. said_none (option_map g.O.Lookup.table (objects_in c.args.packed_refs.now)) c.args.edits.now (map line_in c.new-lines.result.items) (ap (map line_in) c.new-lines.ensures.items);
  split = ([], refl);
}

pub edits-preserved : goal.edits-preserved
edits-preserved g c = record {
  said = λ honest told.
      let added = c.in_ok-add_record_edit.ensures.said honest told in
      said_more (option_map g.O.Lookup.table (objects_in c.args.packed_refs.now)) c.args.edits.now c.edits.rest.now c.in-Some.others.now c.in-Some.edit.now (map line_in c.edits.lines.items) (map line_in c.add_record_edit.new.lines.items) added.0
      c.in-Some.ensures.cases.0 (c.edits.invariant.said honest told) added.1 added.2;
  split = one_off c.args.edits.now c.edits.rest.now c.in-Some.others.now c.in-Some.edit.now c.in-Some.ensures.cases.0 c.edits.invariant.split;
}

pub returns-clause-said : goal.returns-clause-said
returns-clause-said g c = λ honest told.
    all_said (option_map g.O.Lookup.table (objects_in c.args.packed_refs.now)) c.args.edits.now c.edits.rest.now (map line_in c.edits.lines.items) c.in_default.ensures.cases (c.edits.invariant.said honest told)

pub returns-in_err-add_record_edit-clause-resolves : goal.returns-in_err-add_record_edit-clause-resolves
returns-in_err-add_record_edit-clause-resolves g c = λ honest told.
    let why = PackFault g.F.Files.reading_may_fail g.O.Lookup.may_fail g.O.Lookup.table (objects_in c.args.packed_refs.now) in
    let edit = c.in-Some.edit.now in
    let among = is_among c.args.edits.now c.edits.rest.now c.in-Some.others.now edit c.in-Some.ensures.cases.0 c.edits.invariant.split in
    let p = err_from_is_err_and c.from_residual.result c.from_residual.ensures.1 in
    rw (p.1, p.2) (by_reason (ChangeFault why edit.change) (SomeChangeFault why c.args.edits.now) c.in_err-add_record_edit.field-0.0 (λ e fault. (edit, among, fault)) (c.in_err-add_record_edit.ensures.resolves honest told))
