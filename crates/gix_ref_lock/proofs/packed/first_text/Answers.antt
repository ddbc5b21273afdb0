use Rattle.std.proofs.Common.{◌≡◌, ◌∙◌, ap, subst, map, Some, List}
use Rattle.std.proofs.lemmas.Result.{IfOk-weaker}
use Rattle.gix_ref_format.specs.Packed.{record_of, packed_records}
use Rattle.gix_ref_format.specs.declared.packed.Reference.{Reference}
use Rattle.gix_ref_format.specs.Written.{packed_text, AllHaveKind}
use Rattle.gix_ref_lock.proofs.packed.first_text.Goals as goal

pub returns : goal.returns
returns c =
    IfOk-weaker c.packed_text.result _ _
    (λ text is. record {
      after = map record_of c.in_ok-records.records.items;
      edited = c.in_ok-records.ensures;
      is = is ∙ ap (λ rs. packed_text (map record_of rs)) c.as_slice-2.ensures.value;
      reads = λ all. ap (packed_records c.args.kind) (is ∙ ap (λ rs. packed_text (map record_of rs)) c.as_slice-2.ensures.value)
          ∙ subst (λ (rs : List Reference). AllHaveKind c.args.kind (map record_of rs) → packed_records c.args.kind (packed_text (map record_of rs)) ≡ Some (map record_of rs))
          c.as_slice.ensures.value c.written_records_are_read.ensures all;
    })
    c.packed_text.ensures
