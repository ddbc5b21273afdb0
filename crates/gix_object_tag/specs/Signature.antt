-- Where a signature begins in a text: at the last line that an armor begins (git-tag, `--sign`;
-- gitformat-signature, "Tag signatures").
use Rattle.std.specs.Prelude.{ℕ, ⊤, ◌≡◌, ◌≤◌, ◌⊎◌, List, [], ◌∷◌, ◌++◌, length, Option, None, Some}
use Rattle.gix_object_lines.specs.PartialName.{EndsWith}
use Rattle.bstr.specs.BStr.{bstr_bytes}
use Rattle.gix_object_signature.specs.Armor.{BeginsArmor, BeginsNoArmor}
use Rattle.gix_object_signature.specs.declared.format.Format.{Format}
use Rattle.gix_object_signature.specs.declared.format.SignatureRef.{SignatureRef}
use Rattle.gix_object_signature.specs.declared.signed.SignedData.{SignedData}

-- after the front a line begins, and an armor begins that line
pub record IsArmored (text front signature : List ℕ) : Type 0 where
  pub spelled : text ≡ front ++ signature
  pub line_begins : (front ≡ []) ⊎ EndsWith (10 ∷ []) front
  pub format : Format
  pub armor : BeginsArmor signature format

-- the last of the text's armors begins its signature
pub record IsSigned (text front signature : List ℕ) : Type 0 where
  pub armored : IsArmored text front signature
  pub last : (other rest : List ℕ) → IsArmored text other rest → length other ≤ length front

abbrev pub IsUnsigned : List ℕ → Type 0
IsUnsigned text = (front signature : List ℕ) → ¬ IsArmored text front signature

-- ---- a tag's signature, if it has one

-- no armor begins it
abbrev pub IsBare : Option (List ℕ) → Type 0
IsBare text = (signature : List ℕ) → text ≡ Some signature → BeginsNoArmor signature

-- it is this signature, in the format of its armor
pub record IsSignatureOf (text : Option (List ℕ)) (found : SignatureRef) : Type 0 where
  pub signature : text ≡ Some (bstr_bytes found.signature)
  pub format : BeginsArmor (bstr_bytes found.signature) found.format

-- the signature ends the input and is this one, what it signs is all before it; or there is none
abbrev pub IsSignedBy : List ℕ → Option (List ℕ) → Option (SignatureRef × SignedData) → Type 0
IsSignedBy input None None = ⊤
IsSignedBy input None (Some found) = ⊥
IsSignedBy input (Some signature) None = ⊥
IsSignedBy input (Some signature) (Some (found, signed)) =
    IsSignatureOf (Some signature) found × (input ≡ bstr_bytes signed.before ++ signature)
    × (bstr_bytes signed.behind ≡ [])
