-- What a store holds after an object was handed to it.
use Rattle.std.specs.Prelude.{◌≡◌, ◌≢◌, ◌⊎◌, Some, Result, Ok, Err}
use Rattle.gix_hash.specs.Id.{Id, id_of}
use Rattle.gix_hash.specs.declared.object_id.ObjectId.{ObjectId}
use Rattle.gix_object_lookup.specs.Table.{Object, Table}
use Rattle.gix_object_lines.specs.declared.write.Error as write
use Rattle.gix_object_lines.specs.declared.write.Error.TheVariants.{Writer, Header, TagName, Filename}
use Rattle.gix_object_write.specs.declared.write.Error.{Error}
use Rattle.gix_object_write.specs.declared.write.Error.TheVariants.{Failed, Read, Memory}

-- the object is stored under the id, and every other id has what it had
pub record Puts (old new : Table) (id : Id) (object : Object) : Type 0 where
  pub stands : new id ≡ Some object
  pub others : (other : Id) → other ≢ id → new other ≡ old other

-- each id has what it had
abbrev pub IsAsBefore : Table → Table → Type 0
IsAsBefore old new = (id : Id) → new id ≡ old id

-- why an object isn't kept under an id: the store, which may fail, did, and holds the object or
-- doesn't; the object can't be had; or no memory is left
abbrev pub KeepFault : Type 0 → Type 0 → Type 0 → Table → Table → Id → Object → Error → Type 0
KeepFault unread honest may_refuse old new id object Failed =
    may_refuse × (honest → IsAsBefore old new ⊎ Puts old new id object)
KeepFault unread honest may_refuse old new id object Read = unread × (honest → IsAsBefore old new)
KeepFault unread honest may_refuse old new id object Memory = honest → IsAsBefore old new

-- a writer into memory fails for want of it; what it is written for is refused otherwise
abbrev pub told_as : write.Error → Error
told_as (Writer error) = Memory
told_as (Header error) = Read
told_as (TagName error) = Read
told_as (Filename error) = Read

-- the object is stored under the id, which is returned; or it isn't
abbrev pub Keeps : Type 0 → Type 0 → Type 0 → Table → Table → Id → Object → Result ObjectId Error
    → Type 0
Keeps unread honest may_refuse old new id object (Ok told) =
    (id_of told ≡ id) × (honest → Puts old new id object)
Keeps unread honest may_refuse old new id object (Err error) =
    KeepFault unread honest may_refuse old new id object error
