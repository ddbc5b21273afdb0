use Rattle.std.proofs.Common.{◌∙◌, ◌++◌, List, ap, subst, sym}
use Rattle.gix_ref_format.specs.Edited.{Arranges, Rises, lines_of}
use Rattle.gix_ref_format.specs.PackedBuffer.{entry_records}
use Rattle.gix_ref_format.specs.PackedText.{AllStand, IsMerged}
use Rattle.gix_ref_format.specs.Written.{header_text}
use Rattle.gix_ref_format.specs.declared.packed.buffer.Entry.{Entry}
use Rattle.gix_ref_format.specs.declared.packed.edit.Edit.{Edit}
use Rattle.gix_ref_format.proofs.MergeLemmas.{text_is_edited}
use Rattle.gix_ref_format.proofs.packed.buffer.Buffer.copied_text.Goals as goal

pub returns : goal.returns
returns c =
    let entries = c.args.self.now.entries.items in
    let rest = entry_records c.in_ok-rest.rest.entries.now in
    let edits = c.args.edits.now in
    let lines = c.in_ok-lines.lines.items in
    let header = c.write_header.new.out.items in
    let new = c.copy_lines.new.text.items in
    let arranges = subst (λ (es : List Edit). Arranges (lines_of es) (lines_of lines)) (c.in_ok-extend_from_slice.ensures.items ∙ ap (λ l. l ++ edits) c.new-lines.ensures.items) c.in_ok-lines.ensures in
    let rises = subst (λ (es : List Edit). Rises (lines_of es)) (sym c.deref-2.ensures.value) arranges.rises in
    let stand = subst (λ (es : List Entry). AllStand (entry_records es)) (c.deref.ensures.value ∙ sym c.run.ensures) c.entries_can_stand.ensures in
    let merged = subst (λ (es : List Edit). IsMerged (entry_records entries) (lines_of es) rest header new) c.deref-2.ensures.value
    (subst (λ (es : List Entry). IsMerged (entry_records es) (lines_of c.deref-2.result.now) rest header new) c.run.ensures (c.in_ok-rest.ensures rises stand)) in
    text_is_edited c.args.kind (entry_records entries) rest edits lines header new c.extend_from_slice-2.new.self.items arranges merged
    (c.in_ok-write_header.ensures ∙ ap (λ l. l ++ header_text) c.new-text.ensures.items) (c.in_ok-extend_from_slice-2.ensures.items ∙ ap (λ t. new ++ t) c.in_ok-rest.rest.lines)
