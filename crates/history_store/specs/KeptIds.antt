-- The set that lists of ids keep, the room in them, and the ids that an iterator of them has left.
use Rattle.std.specs.Prelude.{◌≡◌, ◌<◌, ℕ, List, [], ◌∷◌, ◌++◌, Vec, take, length, vec_len, vec_capacity}
use Rattle.std.specs.List.{slice_index_or}
use Rattle.std.specs.declared.alloc.Global.{Global}
use Rattle.gix_hash.specs.Id.{Id, digits_of}
use Rattle.gix_hash.specs.declared.object_id.ObjectId.{ObjectId}
use Rattle.history_store.specs.Ids.{IdSet, set_of, joined}
use Rattle.history_store.specs.declared.ids.Ids.{Ids}
use Rattle.history_store.specs.declared.ids.IdIter.{IdIter}

-- the ids in the set
abbrev pub kept : Ids → IdSet
kept ids = set_of (joined ids.lists.items)

-- the list of this byte exists, and has room for one id more
pub record HasRoomAt (byte : ℕ) (lists : List (Vec ObjectId Global)) : Type 0 where
  pub stands : byte < length lists
  pub free : (list : Vec ObjectId Global)
      → vec_len (slice_index_or lists byte list) < vec_capacity (slice_index_or lists byte list)

-- there is room for the id: to keep it takes no memory
abbrev pub HasRoom : Ids → Id → Type 0
HasRoom ids id =
    (byte : ℕ) → take 2 id.digits ≡ digits_of (byte ∷ []) → HasRoomAt byte ids.lists.items

-- the ids that are still to come
abbrev pub left : IdIter → List ObjectId
left ids = ids.list.now ++ joined ids.lists.now
