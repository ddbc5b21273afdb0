-- What a transaction makes of each edit before it changes anything: the reference passes the edit's
-- test, and its lock has the new text.
use Rattle.std.specs.Prelude.{ℕ, ◌≡◌, ◌&&◌, Bool, true, false, is_some, List, Option, Some, Ok, option_map, IsTrue}
use Rattle.std.specs.List.{AllByRecursion, AllZip}
use Rattle.gix_object_lines.specs.NameTest.{is_full_name}
use Rattle.gix_ref_file.specs.Tree.{Tree}
use Rattle.gix_ref_name.specs.Targets.{Points, ToObject, ToName, target_view}
use Rattle.gix_ref_edit.specs.declared.change.Change.{Change}
use Rattle.gix_ref_edit.specs.declared.change.Change.TheVariants.{Update, Delete}
use Rattle.gix_ref_edit.specs.declared.change.RefEdit.{RefEdit}
use Rattle.gix_ref_edit.specs.declared.log.RefLog.{RefLog}
use Rattle.gix_ref_edit.specs.declared.log.RefLog.TheVariants.{AndReference, Only}
use Rattle.gix_ref_edit.specs.Splits.{Splits}
use Rattle.gix_ref_format.specs.Lookup.{packed_key}
use Rattle.gix_ref_lock.specs.Locks.{lock_of}
use Rattle.gix_ref_format.specs.Loose.{loose_text}
use Rattle.gix_ref_store.specs.Finds.{TellsState}
use Rattle.gix_ref_store.specs.Places.{Base, place, log_place}
use Rattle.gix_ref_store.specs.RefStates.{RefState}
use Rattle.gix_ref_store.specs.declared.reference.Reference.{Reference}
use Rattle.gix_ref_way.specs.Ways.{Bytes, FoldersOnlyOf, file_at}
use Rattle.gix_ref_lock.specs.Contents.{place_of, log_path_of, lock_path_of}
use Rattle.gix_ref_lock.specs.declared.act.Act.{Act}
use Rattle.gix_ref_lock.specs.declared.act.Act.TheVariants as acts
use Rattle.gix_ref_lock.specs.declared.act.Move.{Move}
use Rattle.gix_ref_transaction.specs.Asked.{MeetsOf, points_of}
use Rattle.gix_ref_transaction.specs.Found.{points_at}
use Rattle.gix_ref_transaction.specs.Paths.{places_of}

-- the name reads as this, which passes the edit's test
abbrev pub IsFoundSo : RefEdit → RefState → Option Reference → Type 0
IsFoundSo edit state found =
    TellsState edit.name state (Ok found) × MeetsOf edit.change (option_map points_of found)

-- what the name reads as passes the edit's test
abbrev pub IsTested : RefEdit → RefState → Type 0
IsTested edit state = (found : Option Reference) × IsFoundSo edit state found

-- whether only a record says what an update makes the name point to: an object, if own files of
-- what is packed are removed; names that each worktree has of its own have no record
abbrev pub is_packed_alone : Bool → Bytes → Points → Bool
is_packed_alone removes name (ToObject id) = removes && is_some (packed_key name)
is_packed_alone removes name (ToName other) = false

-- an update renames the lock to its place, leaves it to a record, or changes the log alone
abbrev pub IsUpdateBy : RefLog → Bool → Act → Type 0
IsUpdateBy AndReference alone (acts.Put line) = alone ≡ false
IsUpdateBy AndReference alone (acts.Pack line) = alone ≡ true
IsUpdateBy AndReference alone (acts.Note line) = ⊥
IsUpdateBy Only alone (acts.Note line) = Unit {0}
IsUpdateBy Only alone (acts.Put line) = ⊥
IsUpdateBy Only alone (acts.Pack line) = ⊥
IsUpdateBy mode alone acts.Remove = ⊥
IsUpdateBy mode alone acts.Forget = ⊥

-- a deletion removes the reference, or its log alone

abbrev pub IsDeletionBy : RefLog → Act → Type 0
IsDeletionBy AndReference acts.Remove = Unit {0}
IsDeletionBy Only acts.Forget = Unit {0}
IsDeletionBy AndReference acts.Forget = ⊥
IsDeletionBy Only acts.Remove = ⊥
IsDeletionBy mode (acts.Put line) = ⊥
IsDeletionBy mode (acts.Note line) = ⊥
IsDeletionBy mode (acts.Pack line) = ⊥

abbrev pub IsActOf : Bool → Bytes → Change → Act → Type 0
IsActOf removes name (Update log expected new) act =
    IsUpdateBy log.mode (is_packed_alone removes name (target_view new)) act
IsActOf removes name (Delete expected mode) act = IsDeletionBy mode act

-- The move is of the files of the edit's name.
pub record IsPlanOf (b : Base) (removes : Bool) (edit : RefEdit) (made : Move) : Type 0 where
  pub full : IsTrue (is_full_name edit.name)
  pub file : place_of made ≡ place b edit.name
  pub lock : lock_path_of made ≡ lock_of (place b edit.name)
  pub log : log_path_of made ≡ log_place b edit.name
  pub act : IsActOf removes edit.name edit.change made.act

abbrev pub IsPut : Act → Type 0
IsPut (acts.Put line) = Unit {0}
IsPut (acts.Note line) = ⊥
IsPut (acts.Pack line) = ⊥
IsPut acts.Remove = ⊥
IsPut acts.Forget = ⊥

-- the lock that is to replace a reference's own file has the text of the new target
abbrev pub HoldsText : Change → Act → Bytes → Tree → Type 0
HoldsText (Update log expected new) act lock tree =
    IsPut act → file_at tree lock ≡ Some (loose_text (target_view new))
HoldsText (Delete expected mode) act lock tree = Unit {0}

-- each file that existed is as before
abbrev pub KeepsFiles : Tree → Tree → Type 0
KeepsFiles old new = (path text : Bytes) → file_at old path ≡ Some text → file_at new path ≡ Some text

-- ---- of all edits

-- these are the given edits, with those of symbolic references split by what the names read as
abbrev pub AreSplit : (List ℕ → RefState) → List RefEdit → List RefEdit → Type 0
AreSplit read asked edits = (places : List ℕ) × Splits (λ name. points_at (read name)) asked edits places

-- folders came only above the files of these edits, those of symbolic references split, and went only
-- at them or below
abbrev pub FoldersOfEdits : (List ℕ → RefState) → Base → List RefEdit → Tree → Tree → Type 0
FoldersOfEdits read b asked old tree =
    (edits : List RefEdit) × AreSplit read asked edits × FoldersOnlyOf (places_of b edits) old tree

-- what each name reads as passes its test
abbrev pub AllTested : (List ℕ → RefState) → List RefEdit → Type 0
AllTested read edits = AllByRecursion (λ edit. IsTested edit (read edit.name)) edits

abbrev pub AllPlanned : Base → Bool → List RefEdit → List Move → Type 0
AllPlanned b removes edits moves = AllZip (IsPlanOf b removes) edits moves

-- the locks of updates have the texts of their targets
abbrev pub AllHold : Tree → List RefEdit → List Move → Type 0
AllHold tree edits moves =
    AllZip (λ edit made. HoldsText edit.change made.act (lock_path_of made) tree) edits moves
