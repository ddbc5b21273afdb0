-- Texts of files that name no target.
use Rattle.std.proofs.Common.{◌≡◌, ◌∙◌, ap, ℕ, cond, List, Option, Some, None, option_map}
use Rattle.gix_hash.specs.declared.kind.Kind.{Kind}
use Rattle.gix_object_lines.specs.NameTest.{is_full_name}
use Rattle.gix_ref_name.specs.Targets.{Points, ToObject, ToName}
use Rattle.gix_ref_format.specs.Loose.{loose_target, is_symbolic, referent, leading_id, LooseFault}
use Rattle.gix_ref_format.specs.declared.loose.Error.TheVariants.{Parse, RefnameValidation}
use Rattle.gix_ref_store.specs.RefStates.{RefState, Faulty, InFile, loose_state, text_fault}

module _ (kind : Kind) (text : List ℕ) where
  abbrev named : Option Points
  named = cond (is_full_name (referent text)) (Some (ToName (referent text))) None

  pub no_id : LooseFault kind text Parse → loose_state text (loose_target kind text) ≡ Faulty (InFile Parse)
  no_id (plain, none) =
      ap (λ b. loose_state text (cond b named (option_map ToObject (leading_id kind text)))) plain
      ∙ ap (λ o. loose_state text (option_map ToObject o)) none
      ∙ ap (λ b. Faulty (InFile (cond b RefnameValidation Parse))) plain

  pub no_name : LooseFault kind text RefnameValidation → loose_state text (loose_target kind text) ≡ Faulty (InFile RefnameValidation)
  no_name (symbolic, none) =
      ap (λ b. loose_state text (cond b named (option_map ToObject (leading_id kind text)))) symbolic
      ∙ ap (λ b. loose_state text (cond b (Some (ToName (referent text))) None)) none
      ∙ ap (λ b. Faulty (InFile (cond b RefnameValidation Parse))) symbolic
