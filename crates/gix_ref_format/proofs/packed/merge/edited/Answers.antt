use Rattle.std.proofs.Common.{◌∙◌, ◌++◌, ap, map, None}
use Rattle.std.proofs.lemmas.Result.{IfOk-weaker}
use Rattle.gix_ref_format.specs.Packed.{record_of}
use Rattle.gix_ref_format.specs.PackedKept.{records_left}
use Rattle.gix_ref_format.specs.Edited.{lines_of, standing, own_line}
use Rattle.gix_ref_format.proofs.EditLemmas.{edited_is}
use Rattle.gix_ref_format.proofs.packed.merge.edited.Goals as goal

pub returns : goal.returns
returns c =
    IfOk-weaker c.one_of_each_name.result _ _
    (λ after is. edited_is (records_left c.args.records) c.args.edits.now c.add_records.new.lines.items c.in_ok-lines.lines.items (map record_of after.items)
    (c.in_ok-add_records.ensures ∙ ap (λ l. lines_of l ++ map own_line (records_left c.args.records)) (c.in_ok-extend_from_slice.ensures.items ∙ ap (λ l. l ++ c.args.edits.now) c.new-lines.ensures.items))
    c.in_ok-lines.ensures (is ∙ ap (λ l. standing None (lines_of l)) c.as_slice.ensures.value))
    c.one_of_each_name.ensures
