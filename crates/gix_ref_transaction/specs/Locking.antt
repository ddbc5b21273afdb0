-- What edits need so that their locks can be made, and so that they can then be committed.
use Rattle.std.specs.Prelude.{◌≡◌, Bool, true, ◌&&◌, List, None, Option, Some, IsTrue}
use Rattle.std.specs.List.{AllByRecursion, list_all}
use Rattle.gix_ref_file.specs.Tree.{Tree, is_path, node_at}
use Rattle.gix_ref_file.specs.Changes.{is_file_at, may_hold_file}
use Rattle.gix_ref_name.specs.Targets.{Points, ToObject, ToName, target_view}
use Rattle.gix_ref_edit.specs.declared.change.Change.{Change}
use Rattle.gix_ref_edit.specs.declared.change.Change.TheVariants.{Update, Delete}
use Rattle.gix_ref_edit.specs.declared.change.RefEdit.{RefEdit}
use Rattle.gix_ref_lock.specs.Locks.{lock_of, HasLockPlace}
use Rattle.gix_ref_lock.specs.PackedEdits as packed
use Rattle.gix_ref_lock.specs.PackedEdits.{IsReadAt}
use Rattle.gix_ref_lock.specs.declared.packed.Transaction.{Transaction}
use Rattle.gix_ref_lock.specs.Contents.{lock_path_of}
use Rattle.gix_ref_lock.specs.Needs.{AreBeside}
use Rattle.gix_ref_lock.specs.declared.act.Move.{Move}
use Rattle.gix_ref_store.specs.Known.{is_known}
use Rattle.gix_ref_store.specs.Places.{Base, place, log_place, packed_place}
use Rattle.gix_ref_way.specs.Ways.{Bytes, HasWay}
use Rattle.gix_ref_transaction.specs.Paths.{edit_paths}

-- a file and its lock may be there
abbrev pub ArePaths : Bytes → Type 0
ArePaths place = IsTrue (is_path place) × IsTrue (is_path (lock_of place))

-- No file is in the way of the place, and nothing is at the path of its lock.
pub record IsLockable (tree : Tree) (place : Bytes) : Type 0 where
  pub way : HasWay place tree
  pub free : node_at tree (lock_of place) ≡ None

-- The locks of the edits can be made: the paths are ones, of which none is below another, and each
-- name's file can be locked.
pub record AreLockable (b : Base) (tree : Tree) (edits : List RefEdit) : Type 0 where
  pub paths : IsTrue (list_all is_path (edit_paths b edits))
  pub apart : AreBeside (edit_paths b edits)
  pub each : AllByRecursion (λ edit. IsLockable tree (place b edit.name)) edits

-- Then they can be committed, if also no file is in the way of a log, and packed records may be in a
-- file.
pub record HaveRoom (b : Base) (tree : Tree) (edits : List RefEdit) : Type 0 where
  pub apart : AreBeside (edit_paths b edits)
  pub logs : AllByRecursion (λ edit. HasWay (log_place b edit.name) tree) edits
  pub records : IsTrue (may_hold_file tree (packed_place b))

-- the lock of packed records can be made, and they can be read
abbrev pub AreRecordsLockable : Base → Tree → Type 0
AreRecordsLockable b tree =
    HasLockPlace (packed_place b) tree × IsReadAt b.kind (packed_place b) tree

abbrev pub RecordsHeld : Option Transaction → Tree → Type 0
RecordsHeld None tree = Unit {0}
RecordsHeld (Some t) tree = IsTrue (is_file_at tree (packed.lock_path_of t))

-- All locks of a transaction exist.
pub record AreHeld (t : Option Transaction) (moves : List Move) (tree : Tree) : Type 0 where
  pub packed : RecordsHeld t tree
  pub each : AllByRecursion (λ m. IsTrue (is_file_at tree (lock_path_of m))) moves

-- ---- names as the store knows them

abbrev pub is_known_target : Bool → Points → Bool
is_known_target composes (ToObject id) = true
is_known_target composes (ToName name) = is_known composes name

abbrev pub is_known_change : Bool → Change → Bool
is_known_change composes (Update log expected new) = is_known_target composes (target_view new)
is_known_change composes (Delete expected log) = true

-- the name, and one that an update writes, are as the store knows them
abbrev pub is_known_edit : Bool → RefEdit → Bool
is_known_edit composes edit =
    is_known composes edit.name && is_known_change composes edit.change

abbrev pub are_known : Bool → List RefEdit → Bool
are_known composes edits = list_all (is_known_edit composes) edits
