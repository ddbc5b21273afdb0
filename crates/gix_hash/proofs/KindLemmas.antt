-- The two kinds and their lengths.
use Rattle.std.proofs.Common.{◌≡◌, ◌*◌, refl, arith}
use Rattle.gix_hash.specs.declared.kind.Kind.{Kind}
use Rattle.gix_hash.specs.declared.kind.Kind.TheVariants.{Sha1, Sha256}
use Rattle.gix_hash.specs.Kind.{byte_len, hex_len}

-- a kind is found by its length
pub byte_len-injective : (a b : Kind) → byte_len a ≡ byte_len b → a ≡ b
byte_len-injective Sha1 Sha1 e = refl
byte_len-injective Sha1 Sha256 e = absurd (omega arith)
byte_len-injective Sha256 Sha1 e = absurd (omega arith)
byte_len-injective Sha256 Sha256 e = refl

pub hex_len-injective : (a b : Kind) → hex_len a ≡ hex_len b → a ≡ b
hex_len-injective Sha1 Sha1 e = refl
hex_len-injective Sha1 Sha256 e = absurd (omega arith)
hex_len-injective Sha256 Sha1 e = absurd (omega arith)
hex_len-injective Sha256 Sha256 e = refl

pub hex_len-byte_len : (a : Kind) → hex_len a ≡ 2 * byte_len a
hex_len-byte_len Sha1 = refl
hex_len-byte_len Sha256 = refl
