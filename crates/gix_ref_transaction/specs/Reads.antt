-- What names read as while a transaction is committed, and afterwards.
use Rattle.std.specs.Prelude.{ℕ, ◌≡◌, ◌≢◌, ◌⊎◌, Bool, true, false, List, Option, Some, None, IsSome}
use Rattle.std.specs.List.{AllByRecursion}
use Rattle.gix_hash.specs.Id.{Id}
use Rattle.gix_hash.specs.declared.kind.Kind.{Kind}
use Rattle.gix_object_lookup.specs.Table.{Table}
use Rattle.gix_ref_file.specs.Tree.{Tree}
use Rattle.gix_ref_name.specs.Targets.{Points, ToObject, ToName, target_view}
use Rattle.gix_ref_edit.specs.declared.change.Change.{Change}
use Rattle.gix_ref_edit.specs.declared.change.Change.TheVariants.{Update, Delete}
use Rattle.gix_ref_edit.specs.declared.change.RefEdit.{RefEdit}
use Rattle.gix_ref_edit.specs.declared.log.RefLog.{RefLog}
use Rattle.gix_ref_edit.specs.declared.log.RefLog.TheVariants.{AndReference, Only}
use Rattle.gix_ref_format.specs.Lookup.{packed_key}
use Rattle.gix_ref_format.specs.Loose.{loose_target, loose_text}
use Rattle.gix_ref_format.specs.Packed.{packed_records}
use Rattle.gix_ref_format.specs.Edited.{Line}
use Rattle.gix_ref_lock.specs.declared.packed.Transaction.{Transaction as Packed}
use Rattle.gix_ref_lock.specs.Committing.{commit_paths}
use Rattle.gix_ref_lock.specs.Moments.{SameButLocks}
use Rattle.gix_ref_lock.specs.Moves.{IsNone, all_paths}
use Rattle.gix_ref_store.specs.Places.{Base, place, packed_place}
use Rattle.gix_ref_store.specs.RefStates.{RefState, Stands, Absent, ref_state}
use Rattle.gix_ref_transaction.specs.Plans.{AllHold, AllPlanned, is_packed_alone}
use Rattle.gix_ref_transaction.specs.Repacking.{HoldsIf, SayOfRecords, TellsPeeled}
use Rattle.gix_ref_lock.specs.declared.act.Move.{Move}

-- ---- one name

-- the peeled id that a record holds besides its target
abbrev pub IsPeeledOf : Option Table → Points → Option Id → Type 0
IsPeeledOf (Some table) (ToObject id) peeled = TellsPeeled table id peeled
IsPeeledOf (Some table) (ToName name) peeled = ⊥
IsPeeledOf None new peeled = ⊥

-- an update makes the name read as its target, by a file of its own or by a record alone; one of
-- the log alone changes nothing
abbrev pub ReadsUpdated : Option Table → RefLog → Bool → Points → RefState → RefState → Type 0
ReadsUpdated packs Only alone new before now = now ≡ before
ReadsUpdated packs AndReference false new before now = now ≡ Stands new None
ReadsUpdated packs AndReference true new before now =
    (peeled : Option Id) × IsPeeledOf packs new peeled × (now ≡ Stands new peeled)

abbrev pub ReadsDeleted : RefLog → RefState → RefState → Type 0
ReadsDeleted AndReference before now = now ≡ Absent
ReadsDeleted Only before now = now ≡ before

-- what an edit makes the name read as, by what it read as before
abbrev pub ReadsChanged : Option Table → Bool → List ℕ → Change → RefState → RefState → Type 0
ReadsChanged packs removes name (Update log expected new) before now =
    ReadsUpdated packs log.mode (is_packed_alone removes name (target_view new)) (target_view new)
    before now
ReadsChanged packs removes name (Delete expected log) before now = ReadsDeleted log before now

-- ---- all names

-- the id that an edit gives is of the hash function
abbrev pub IsOfKind : Kind → Points → Type 0
IsOfKind kind (ToObject id) = id.kind ≡ kind
IsOfKind kind (ToName name) = Unit {0}

abbrev pub GivesKind : Kind → Change → Type 0
GivesKind kind (Update log expected new) = IsOfKind kind (target_view new)
GivesKind kind (Delete expected log) = Unit {0}

-- the ids that edits give are
abbrev pub AllGiveKind : Kind → List RefEdit → Type 0
AllGiveKind kind edits = AllByRecursion (λ edit. GivesKind kind edit.change) edits

-- what is written of a target is read as it; so it is for each name and each id of the hash
-- function
abbrev pub IsReadBack : Kind → Change → Type 0
IsReadBack kind (Update log expected new) =
    loose_target kind (loose_text (target_view new)) ≡ Some (target_view new)
IsReadBack kind (Delete expected log) = Unit {0}

abbrev pub AllReadBack : Kind → List RefEdit → Type 0
AllReadBack kind edits = AllByRecursion (λ edit. IsReadBack kind edit.change) edits

-- the records that were written are read as they are; so it is if all their ids are of the hash
-- function
abbrev pub AreReadBack : (b : Base) (old new : Tree) (lines : List Line) (t : Option Packed)
    → HoldsIf b old new lines t → Type 0
AreReadBack b old new lines None holds = Unit {0}
AreReadBack b old new lines (Some t) holds =
    packed_records b.kind holds.1.text ≡ Some holds.1.told.after

-- the parts of a transaction
pub record Prepared : Type 0 where
  pub edits : List RefEdit
  pub moves : List Move
  pub packed : Option Packed

abbrev pub prepared_of : List RefEdit → List Move → Option Packed → Prepared
prepared_of edits moves packed = record { edits = edits; moves = moves; packed = packed }

-- What was prepared in the tree before is still as it was.
pub record IsAsPrepared (b : Base) (packs : Option Table) (removes : Bool) (before now : Tree)
    (t : Prepared) : Type 0 where
  pub mode : removes ≡ true → IsSome packs
  pub planned : AllPlanned b removes t.edits t.moves
  pub texts : AllHold now t.edits t.moves
  pub locks : SameButLocks before now
  pub lines : List Line
  pub say : SayOfRecords packs t.edits lines
  pub holds : HoldsIf b before now lines t.packed
  -- what is written is read back
  pub files : AllReadBack b.kind t.edits
  pub records : AreReadBack b before now lines t.packed holds
  -- no file of the edits is at the path of packed records
  pub apart : IsNone (packed_place b) (all_paths t.moves)

-- The name has another place, and another record, than each edit's, and its place is no lock and no
-- log of the transaction.
pub record IsOther (b : Base) (t : Prepared) (name : List ℕ) : Type 0 where
  pub place_apart : IsNone (place b name) (commit_paths t.packed t.moves)
  pub key_apart : (key : List ℕ) → packed_key name ≡ Some key
      → AllByRecursion (λ edit. packed_key edit.name ≢ Some key) t.edits

-- Each edit's name reads as before or as the edit says, and each other name as before.
pub record ReadsOnWay (b : Base) (packs : Option Table) (removes : Bool) (before : Tree)
    (t : Prepared) (now : Tree) : Type 0 where
  pub own : AllByRecursion (λ edit. (ref_state b now edit.name ≡ ref_state b before edit.name)
      ⊎ ReadsChanged packs removes edit.name edit.change (ref_state b before edit.name)
      (ref_state b now edit.name)) t.edits
  pub others : (name : List ℕ) → IsOther b t name → ref_state b now name ≡ ref_state b before name

-- Each edit's name reads as the edit says, and each other name as before.
pub record ReadsEdited (b : Base) (packs : Option Table) (removes : Bool) (before : Tree)
    (t : Prepared) (now : Tree) : Type 0 where
  pub own : AllByRecursion (λ edit. ReadsChanged packs removes edit.name edit.change
      (ref_state b before edit.name) (ref_state b now edit.name)) t.edits
  pub others : (name : List ℕ) → IsOther b t name → ref_state b now name ≡ ref_state b before name
