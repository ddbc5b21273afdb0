-- The two hash functions of Git's object names, and how long their digests are (FIPS 180-4, section
-- 1; Git's "hash-function-transition": object names are the hexadecimal digits of a digest).
use Rattle.std.specs.Prelude.{ℕ, List, ◌∷◌, [], codes, Option, Some, None, ◌==◌, if◌then◌else◌, nat_le}
use Rattle.gix_hash.specs.declared.kind.Kind.{Kind}
use Rattle.gix_hash.specs.declared.kind.Kind.TheVariants.{Sha1, Sha256}

-- how many bytes a digest has
abbrev pub byte_len : Kind → ℕ
byte_len Sha1 = 20
byte_len Sha256 = 32

-- how many hexadecimal digits a digest has
abbrev pub hex_len : Kind → ℕ
hex_len Sha1 = 40
hex_len Sha256 = 64

-- the number of a kind in Git's files of format version 2
abbrev pub kind_number : Kind → ℕ
kind_number Sha1 = 1
kind_number Sha256 = 2

-- the name of a kind in Git's configuration (`extensions.objectFormat`)
abbrev pub kind_name : Kind → List ℕ
kind_name Sha1 = codes "sha1"
kind_name Sha256 = codes "sha256"

-- the texts that name a kind
abbrev pub names_of : Kind → List (List ℕ)
names_of Sha1 = codes "sha1" ∷ codes "SHA1" ∷ codes "SHA-1" ∷ []
names_of Sha256 = codes "sha256" ∷ codes "SHA256" ∷ codes "SHA-256" ∷ []

-- the smallest kind whose ids have so many digits, if any has
abbrev pub kind_for_digits : ℕ → Option Kind
kind_for_digits n = if nat_le n 40 then Some Sha1 else if nat_le n 64 then Some Sha256 else None

-- the kind of a digest of 20 or 32 bytes
abbrev pub kind_of_byte_len : ℕ → Kind
kind_of_byte_len n = if n == 20 then Sha1 else Sha256

-- the name of a kind in this crate
abbrev pub variant_name : Kind → List ℕ
variant_name Sha1 = codes "Sha1"
variant_name Sha256 = codes "Sha256"
