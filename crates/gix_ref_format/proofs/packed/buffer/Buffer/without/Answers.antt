use Rattle.std.proofs.Common.{◌∙◌, List, ℕ, ap, refl, subst, sym}
use Rattle.std.specs.List.{filter}
use Rattle.gix_ref_format.specs.Packed.{Record}
use Rattle.gix_ref_format.specs.PackedBuffer.{entry_records}
use Rattle.gix_ref_format.specs.PackedText.{AllStand, IsWritten}
use Rattle.gix_ref_format.specs.Written.{AllHaveKind}
use Rattle.gix_ref_format.specs.declared.packed.buffer.Entry.{Entry}
use Rattle.gix_ref_format.proofs.RunLemmas.{is_other, written_keeps}
use Rattle.gix_ref_format.proofs.packed.buffer.Buffer.without.Goals as goal

pub invariant_of-result : goal.invariant_of-result
invariant_of-result c =
    let records = entry_records c.args.self.entries.items in
    record {
      in_order = c.entries_without-entries.ensures.order c.args.self.in_order;
      written = λ is.
          subst (λ (rs : List Record). IsWritten rs c.args.bytes.items) (ap (λ name. filter (is_other name) records) (c.to_path.ensures ∙ sym c.to_path-2.ensures) ∙ sym c.entries_without-entries.ensures.others)
          (subst (λ (text : List ℕ). IsWritten (filter (is_other c.to_path.result.now) records) text) c.deref.ensures.value (c.if-not-has_become.ensures refl));
    }

pub returns-clause-kept : goal.returns-clause-kept
returns-clause-kept c =
    let records = entry_records c.args.self.entries.items in
    let entries = c.entries_without-entries.result.items in
    let bytes = c.args.bytes.items in
    let written = subst (λ (rs : List Record). IsWritten rs bytes) (ap (λ name. filter (is_other name) records) (c.to_path.ensures ∙ sym c.to_path-2.ensures) ∙ sym c.entries_without-entries.ensures.others)
    (subst (λ (text : List ℕ). IsWritten (filter (is_other c.to_path.result.now) records) text) c.deref.ensures.value (c.if-not-has_become.ensures refl)) in
    written_keeps c.args.kind (entry_records entries) bytes (subst (λ (es : List Entry). AllStand (entry_records es)) c.deref-3.ensures.value c.entries_can_stand.ensures)
    (subst (λ (es : List Entry). AllHaveKind c.args.kind (entry_records es)) c.deref-2.ensures.value (c.if-not-have_kind.ensures refl)) written
