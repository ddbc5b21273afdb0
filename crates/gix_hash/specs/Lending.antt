-- What an id is after the borrow of its bytes ends.
use Rattle.std.specs.Prelude.{ℕ, List}
use Rattle.std.specs.Borrow.{Lends, MutBor, Fml, Array, u8}
use Rattle.gix_hash.specs.declared.object_id.ObjectId.{ObjectId}
use Rattle.gix_hash.specs.declared.object_id.ObjectId.TheVariants.{Sha1, Sha256}
use Rattle.gix_hash.specs.contracts.object_id.ObjectId.{the_row}

-- the id of the same kind with these bytes
abbrev pub with_bytes : ObjectId → List ℕ → ObjectId
with_bytes (Sha1 _) bytes = Sha1 bytes
with_bytes (Sha256 _) bytes = Sha256 bytes

-- the id keeps its kind, and gets the bytes that the borrow leaves
abbrev pub LendsBytes : MutBor ObjectId → MutBor (List ℕ) → Fml
LendsBytes id bytes = Lends the_row (Array u8 0) id bytes (with_bytes id.now)
