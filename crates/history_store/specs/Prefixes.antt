-- Which of some ids a prefix names.
use Rattle.std.specs.Prelude.{◌≡◌, ◌≢◌, ℕ, ◌+◌, ◌≤◌, List, length, IsTrue}
use Rattle.std.specs.FinMap.{contains_key}
use Rattle.std.specs.List.{slice_index_or}
use Rattle.gix_hash.specs.Id.{Id, id_of}
use Rattle.gix_hash.specs.Kind.{hex_len}
use Rattle.gix_hash.specs.declared.kind.Kind.{Kind}
use Rattle.gix_hash.specs.declared.object_id.ObjectId.{ObjectId}
use Rattle.gix_hash.specs.Beginnings.{IsBeginningOf}
use Rattle.history_store.specs.Ids.{IdSet}
use Rattle.history_store.specs.declared.prefixes.Hit.{Hit}
use Rattle.history_store.specs.declared.prefixes.Hit.TheVariants.{Absent, One, Several}

-- the prefix can name ids of this kind: it has 4 digits at least, and no more than they have
pub record CanName (kind : Kind) (prefix : Id) : Type 0 where
  pub enough : 4 ≤ length prefix.digits
  pub fits : length prefix.digits ≤ hex_len kind

-- an id of the set, which begins with the prefix
pub record IsMatch (ids : IdSet) (prefix id : Id) : Type 0 where
  pub known : IsTrue (contains_key ids id)
  pub begins : IsBeginningOf prefix.digits id.digits

-- two ids of the set begin with the prefix
pub record AreTwo (ids : IdSet) (prefix one other : Id) : Type 0 where
  pub one_matches : IsMatch ids prefix one
  pub other_matches : IsMatch ids prefix other
  pub differ : one ≢ other

-- no id of the set begins with the prefix; this one does, and no other; or two do
abbrev pub IsHit : IdSet → Id → Hit → Type 0
IsHit ids prefix Absent = (id : Id) → ¬ IsMatch ids prefix id
IsHit ids prefix (One only) =
    IsMatch ids prefix (id_of only) × ((id : Id) → IsMatch ids prefix id → id ≡ id_of only)
IsHit ids prefix Several = (one : Id) × (other : Id) × AreTwo ids prefix one other

-- the run is empty; it is this id alone; or it is of two ids at least
abbrev pub IsHitOfRun : List ObjectId → ℕ → ℕ → Hit → Type 0
IsHitOfRun ids first past Absent = past ≡ first
IsHitOfRun ids first past (One id) = (past ≡ first + 1) × (slice_index_or ids first id ≡ id)
IsHitOfRun ids first past Several = first + 2 ≤ past
