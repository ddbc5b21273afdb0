use Rattle.std.proofs.Common.{◌≡◌, refl, sym, ap, ◌∙◌, Option, Some, None}
use Rattle.std.specs.Prelude.{is_some, option_map}
use Rattle.gix_ref_format.specs.Packed.{record_of}
use Rattle.gix_ref_format.specs.declared.packed.Reference.{Reference}
use Rattle.gix_ref_format.specs.Lookup.{packed_key, packed_hit}
use Rattle.gix_ref_store.specs.Finds.{records_in}
use Rattle.gix_ref_transaction.proofs.RecordLines.{none_hit}
use Rattle.gix_ref_transaction.proofs.repacking.records.has_record.Goals as goal

pub returns-in-None : goal.returns-in-None
returns-in-None c = sym (ap (λ p. is_some (packed_hit (records_in p) c.args.name.now)) c.in-None.is ∙ none_hit (packed_key c.args.name.now))

pub returns-in-Some : goal.returns-in-Some
returns-in-Some c =
    c.is_some.ensures ∙ sym (mapped c.try_find_full_name.result) ∙ ap is_some c.try_find_full_name.ensures
    ∙ ap (λ name. is_some (packed_hit (records_in (Some c.in-Some.records)) name)) c.as_ref.ensures
    ∙ sym (ap (λ p. is_some (packed_hit (records_in p) c.args.name.now)) c.in-Some.is)
  where
    mapped : (found : Option Reference) → is_some (option_map record_of found) ≡ is_some found
    mapped None = refl
    mapped (Some reference) = refl
