-- What a transaction of `packed-refs` holds.
use Rattle.std.specs.Prelude.{ℕ, ◌≡◌, ⊤, false, List, Option, Some, None, IsSome}
use Rattle.gix_hash.specs.declared.kind.Kind.{Kind}
use Rattle.gix_ref_file.specs.Tree.{Tree, node_at, bytes_of}
use Rattle.gix_ref_format.specs.Packed.{packed_records}
use Rattle.gix_ref_lock.specs.Locks.{lock_of, IsTaken}
use Rattle.gix_ref_lock.specs.declared.packed.Transaction.{Transaction}

-- the place of the file, and the path of its lock
abbrev pub place_of : Transaction → List ℕ
place_of t = t.lock.place.items

abbrev pub lock_path_of : Transaction → List ℕ
lock_path_of t = t.lock.path.items

-- the bytes of `packed-refs`, if it exists, are of records
abbrev pub IsRead : Kind → Option (List ℕ) → Type 0
IsRead kind None = ⊤
IsRead kind (Some text) = IsSome (packed_records kind text)

-- the file of packed records at this place is read
abbrev pub IsReadAt : Kind → List ℕ → Tree → Type 0
IsReadAt kind place tree = IsRead kind (bytes_of (node_at tree place))

-- The transaction is of the file at this place, and holds its lock, which is empty.
pub record IsBegun (kind : Kind) (place : List ℕ) (old new : Tree) (t : Transaction) : Type 0 where
  pub here : place_of t ≡ place
  pub of_kind : t.kind ≡ kind
  pub taken : IsTaken (lock_of place) old new
  pub unwritten : t.is_written ≡ false

-- The transaction holds the same lock, of the same records.
pub record IsSame (old new : Transaction) : Type 0 where
  pub lock : new.lock ≡ old.lock
  pub buffer : new.buffer ≡ old.buffer
  pub kind : new.kind ≡ old.kind
