-- What the views, displays and errors of the crate show.
use Rattle.std.specs.Prelude.{ℕ, ◌≡◌, ◌≢◌, List, length, Option, None, Any, ◌++◌, codes}
use Rattle.gix_hash.specs.declared.id_view.view.oid.{oid}
use Rattle.gix_hash.specs.declared.object_id.decode.Error.{Error}
use Rattle.gix_hash.specs.declared.object_id.decode.Error.TheVariants.{InvalidHexEncodingLength, Invalid}
use Rattle.gix_hash.specs.declared.id_view.Error as id_view
use Rattle.gix_hash.specs.declared.id_view.Error.TheVariants.{InvalidByteSliceLength}
use Rattle.gix_hash.specs.Kind.{byte_len, hex_len, kind_of_byte_len, variant_name}
use Rattle.gix_hash.specs.Id.{Id, digits_of}
use Rattle.gix_hash.specs.Spelling.{IsHexOf, hex_text}

-- the id that a view shows
abbrev pub viewed_id : oid → Id
viewed_id v =
    record { kind = kind_of_byte_len (length v.bytes.now); digits = digits_of v.bytes.now }

-- the bytes of an id: as many as its kind has, and its digits two to a byte
pub record IsBytesOf (bytes : List ℕ) (id : Id) : Type 0 where
  pub whole : length bytes ≡ byte_len id.kind
  pub digits : digits_of bytes ≡ id.digits

-- the text is an id's digits in full, in any letter case
pub record IsHexOfId (text : List ℕ) (id : Id) : Type 0 where
  pub whole : length text ≡ hex_len id.kind
  pub spelled : IsHexOf text id.digits

-- why a text is no id, its characters read by `value`: its length comes before its characters
abbrev pub IsFaultOf : (ℕ → Option ℕ) → List ℕ → Error → Type 0
IsFaultOf value text (InvalidHexEncodingLength n) = (n ≡ length text) × (n ≢ 40) × (n ≢ 64)
IsFaultOf value text Invalid =
    ((length text ≢ 40) → length text ≡ 64) × Any (λ c. value c ≡ None) text

-- bytes whose number is no id's; the error holds that number
abbrev pub IsWrongLength : List ℕ → id_view.Error → Type 0
IsWrongLength bytes (InvalidByteSliceLength n) = (n ≡ length bytes) × (n ≢ 20) × (n ≢ 32)

-- what `{:?}` prints of an id
abbrev pub debug_text : Id → List ℕ
debug_text id = variant_name id.kind ++ codes "(" ++ hex_text id.digits ++ codes ")"
