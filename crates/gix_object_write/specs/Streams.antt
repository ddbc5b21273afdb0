-- Objects whose content is read from a stream: `left` are its bytes, if they are known.
use Rattle.std.specs.Prelude.{ℕ, ◌≡◌, ◌≤◌, List, length, Option, Result, Err}
use Rattle.std.specs.Io.KnownBytes.{Consumes}
use Rattle.gix_hash.specs.Id.{Id}
use Rattle.gix_hash.specs.Pieces.{GivesFewer}
use Rattle.gix_hash.specs.declared.object_id.ObjectId.{ObjectId}
use Rattle.gix_object_lookup.specs.Table.{Table}
use Rattle.gix_object_lines.specs.declared.kind.Kind.{Kind}
use Rattle.gix_object_write.specs.Keeping.{Keeps, IsAsBefore}
use Rattle.gix_object_write.specs.declared.write.Error.{Error}
use Rattle.gix_object_write.specs.declared.write.Error.TheVariants.{Failed, Read, Memory}

-- these are the stream's next bytes, as many as this
pub record IsNext (left left_after : Option (List ℕ)) (size : ℕ) (content : List ℕ) : Type 0 where
  pub count : length content ≡ size
  pub read : Consumes left left_after content

-- the stream gave at most so many bytes
abbrev pub GivesAtMost : Option (List ℕ) → Option (List ℕ) → ℕ → Type 0
GivesAtMost left left_after size =
    (bytes : List ℕ) × (length bytes ≤ size) × Consumes left left_after bytes

-- why so many bytes aren't read
abbrev pub UnreadFault : Option (List ℕ) → Option (List ℕ) → ℕ → Error → Type 0
UnreadFault left left_after size Failed = ⊥
UnreadFault left left_after size Read = GivesFewer left left_after size
UnreadFault left left_after size Memory = GivesAtMost left left_after size

-- the stream's next bytes are an object's content, which is handed to the store under its id; or
-- they aren't read, and the store is as before
pub data KeepsNext (left left_after : Option (List ℕ)) (size : ℕ) (kind : Kind) (id : List ℕ → Id)
    (honest may_refuse : Type 0) (old new : Table) (result : Result ObjectId Error) : Type 0 where
  Handed : (content : List ℕ) → IsNext left left_after size content
      → Keeps ⊥ honest may_refuse old new (id content)
      (record { kind = kind; content = content }) result
      → KeepsNext left left_after size kind id honest may_refuse old new result
  Unread : (error : Error) → result ≡ Err error → UnreadFault left left_after size error
      → (honest → IsAsBefore old new)
      → KeepsNext left left_after size kind id honest may_refuse old new result
