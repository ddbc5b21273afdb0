-- A tag that was read is in the format.
use Rattle.std.proofs.Common.{◌≡◌, ◌∙◌, ap, refl, sym, subst, ℕ, ◌≤◌, List, [], ◌∷◌, ◌++◌, length, length-append, append_assoc, Option, Some, None, inl, inr, arith}
use Rattle.std.specs.Prelude.{codes, ◌⊎◌}
use Rattle.gix_hash.specs.declared.kind.Kind as hash
use Rattle.gix_object_lines.specs.Person.{Person}
use Rattle.gix_object_signature.specs.Armor.{BeginsArmor}
use Rattle.gix_object_signature.specs.declared.format.Format.{Format}
use Rattle.gix_object_signature.specs.declared.format.Format.TheVariants.{OpenPgp, X509, Ssh}
use Rattle.gix_object_tag.specs.Format.{TellsWhen, IsWholeBody, IsInFormat}
use Rattle.gix_object_tag.specs.Signature.{IsArmored, IsSigned, IsUnsigned}
use Rattle.gix_object_tag.specs.Tag.{Parts, SpellsTagger, SpellsRest, Nothing, Body, SpellsTag}

-- ---- bodies

no_armor : (signature : List ℕ) (format : Format) → [] ≡ signature → BeginsArmor signature format → ⊥
no_armor signature OpenPgp none (inl begins) = let clash : ◌≡◌ {A = List ℕ} [] (codes "-----BEGIN PGP SIGNATURE-----" ++ begins.0) = none ∙ begins.1 in cc
no_armor signature OpenPgp none (inr begins) = let clash : ◌≡◌ {A = List ℕ} [] (codes "-----BEGIN PGP MESSAGE-----" ++ begins.0) = none ∙ begins.1 in cc
no_armor signature X509 none begins = let clash : ◌≡◌ {A = List ℕ} [] (codes "-----BEGIN SIGNED MESSAGE-----" ++ begins.0) = none ∙ begins.1 in cc
no_armor signature Ssh none begins = let clash : ◌≡◌ {A = List ℕ} [] (codes "-----BEGIN SSH SIGNATURE-----" ++ begins.0) = none ∙ begins.1 in cc

nothing_unsigned : IsUnsigned []
nothing_unsigned [] signature is = no_armor signature is.format is.spelled is.armor
nothing_unsigned (byte ∷ front) signature is = let clash : ◌≡◌ {A = List ℕ} [] (byte ∷ (front ++ signature)) = is.spelled in cc

-- an armor inside the signature is one of the body
inside : (body front signature : List ℕ) → IsSigned body front signature → (other rest : List ℕ) → IsArmored signature other rest → length other ≤ 0
inside body front signature is other rest armored = by_start armored.line_begins
  where
    by_start : (other ≡ []) ⊎ ((before : List ℕ) × (other ≡ before ++ 10 ∷ [])) → length other ≤ 0
    by_start (inl none) = omega (arith, ap length none)
    by_start (inr (before, ends)) =
        let last = is.last (front ++ other) rest (record {
          spelled = is.armored.spelled ∙ ap (λ t. front ++ t) armored.spelled ∙ sym (append_assoc front other rest);
          line_begins = inr (front ++ before, ap (λ t. front ++ t) ends ∙ sym (append_assoc front before (10 ∷ [])));
          format = armored.format;
          armor = armored.armor;
        }) in
        omega (arith, last, length-append front other)

alone : (body front signature : List ℕ) → IsSigned body front signature → IsSigned signature [] signature
alone body front signature is = record {
  armored = record { spelled = refl; line_begins = inl refl; format = is.armored.format; armor = is.armored.armor };
  last = inside body front signature is;
}

whole_body : (input message : List ℕ) (signature : Option (List ℕ)) → SpellsRest input message signature → IsWholeBody message signature
whole_body input message None (Nothing end empty unsigned) = subst IsUnsigned (sym empty) nothing_unsigned
whole_body input message (Some signature) (Nothing end empty unsigned) = absurd cc
whole_body input message None (Body body spelled is) = subst IsUnsigned is.0 is.1
whole_body input message (Some signature) (Body body spelled (front, signed, ends)) = alone body front signature signed

-- ---- taggers

tells_when : (input : List ℕ) (tagger : Option Person) (after : List ℕ) → SpellsTagger input tagger after → TellsWhen tagger
tells_when input None after is = tt
tells_when input (Some tagger) after is = is.actor.time_told

pub read_in_format : (kind : hash.Kind) (input : List ℕ) (parts : Parts) → SpellsTag kind input parts → IsInFormat kind parts
read_in_format kind input parts is = record {
  target = is.target.hex;
  tagger = tells_when is.after_name parts.tagger is.after_tagger is.tagger;
  body = whole_body is.after_tagger parts.message parts.signature is.rest;
}
