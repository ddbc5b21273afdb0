use Rattle.std.proofs.Common.{◌∙◌, ◌++◌, [], ap, sym, None}
use Rattle.std.proofs.lemmas.Result.{IfOk-weaker}
use Rattle.std.proofs.lemmas.List.{append-nil}
use Rattle.gix_ref_format.specs.Packed.{record_of}
use Rattle.std.specs.Prelude.{map}
use Rattle.gix_ref_format.specs.Edited.{lines_of, standing}
use Rattle.gix_ref_format.proofs.EditLemmas.{edited_is}
use Rattle.gix_ref_format.proofs.packed.merge.written.Goals as goal

pub returns : goal.returns
returns c =
    IfOk-weaker c.one_of_each_name.result _ _
    (λ after is. edited_is [] c.args.edits.now c.extend_from_slice.new.self.items c.in_ok-lines.lines.items (map record_of after.items)
    (ap lines_of (c.in_ok-extend_from_slice.ensures.items ∙ ap (λ l. l ++ c.args.edits.now) c.new-lines.ensures.items) ∙ sym (append-nil (lines_of c.args.edits.now)))
    c.in_ok-lines.ensures (is ∙ ap (λ l. standing None (lines_of l)) c.as_slice.ensures.value))
    c.one_of_each_name.ensures
