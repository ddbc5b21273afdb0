-- How the code keeps an id: digits two to a byte. No contract speaks of it.
use Rattle.std.specs.Prelude.{ℕ, ◌≡◌, ◌+◌, ◌*◌, ◌/◌, ◌%◌, List, [], ◌∷◌}
use Rattle.std.proofs.Common.{refl, ap, arith}
use Rattle.gix_hash.specs.declared.kind.Kind.{Kind}
use Rattle.gix_hash.specs.declared.kind.Kind.TheVariants as kinds
use Rattle.gix_hash.specs.declared.object_id.ObjectId.{ObjectId}
use Rattle.gix_hash.specs.declared.object_id.ObjectId.TheVariants.{Sha1, Sha256}
use Rattle.gix_hash.specs.Id.{Id, id_of, digits_of, bytes_from}

-- the value of a kind with these digits
abbrev pub packed : Kind → List ℕ → ObjectId
packed kinds.Sha1 digits = Sha1 (bytes_from digits)
packed kinds.Sha256 digits = Sha256 (bytes_from digits)

-- the value that is an id
abbrev pub object_id_of : Id → ObjectId
object_id_of id = packed id.kind id.digits

-- the bytes of bytes' digits are those bytes
pub bytes_from-digits_of : (xs : List ℕ) → bytes_from (digits_of xs) ≡ xs
bytes_from-digits_of [] = refl
bytes_from-digits_of (x ∷ xs) =
    let same : x / 16 * 16 + x % 16 ≡ x = omega arith in
    let rest = bytes_from-digits_of xs in
    cc

-- a value is found by its id
pub object_id_of-id_of : (id : ObjectId) → object_id_of (id_of id) ≡ id
object_id_of-id_of (Sha1 bytes) = ap (λ (xs : List ℕ). Sha1 xs) (bytes_from-digits_of bytes)
object_id_of-id_of (Sha256 bytes) = ap (λ (xs : List ℕ). Sha256 xs) (bytes_from-digits_of bytes)
