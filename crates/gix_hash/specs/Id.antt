-- An object id as contracts see it: a kind and the list of its hexadecimal digits, each 0 to 15
-- (Git's glossary, "object name").
use Rattle.std.specs.Prelude.{ℕ, ◌+◌, ◌*◌, ◌/◌, ◌%◌, List, [], ◌∷◌, replicate}
use Rattle.gix_hash.specs.declared.kind.Kind.{Kind}
use Rattle.gix_hash.specs.declared.kind.Kind.TheVariants as kinds
use Rattle.gix_hash.specs.declared.object_id.ObjectId.{ObjectId}
use Rattle.gix_hash.specs.declared.object_id.ObjectId.TheVariants.{Sha1, Sha256}
use Rattle.gix_hash.specs.Kind.{hex_len}

-- an id: its kind, and its digits
pub record Id : Type 0 where
  pub kind : Kind
  pub digits : List ℕ

-- the digits of some bytes, two for each, the high one first
abbrev pub digits_of : List ℕ → List ℕ
digits_of [] = []
digits_of (byte ∷ rest) = byte / 16 ∷ byte % 16 ∷ digits_of rest

-- the bytes of an even number of digits
abbrev pub bytes_from : List ℕ → List ℕ
bytes_from [] = []
bytes_from (a ∷ []) = []
bytes_from (a ∷ b ∷ rest) = (a * 16 + b) ∷ bytes_from rest

-- the digest that an id is, as a tree's entry holds it
abbrev pub raw_bytes : Id → List ℕ
raw_bytes id = bytes_from id.digits

-- the id that a value is
abbrev pub id_of : ObjectId → Id
id_of (Sha1 bytes) = record { kind = kinds.Sha1; digits = digits_of bytes }
id_of (Sha256 bytes) = record { kind = kinds.Sha256; digits = digits_of bytes }

-- the id whose digits are all zero
abbrev pub null_id : Kind → Id
null_id kind = record { kind = kind; digits = replicate (hex_len kind) 0 }

-- the bytes that a value keeps
abbrev pub bytes_of : ObjectId → List ℕ
bytes_of (Sha1 bytes) = bytes
bytes_of (Sha256 bytes) = bytes
