-- What a call over a store keeps, and what it makes, or leaves, of the edits that it is asked.
use Rattle.std.specs.Prelude.{ℕ, ◌≡◌, ◌≢◌, ◌≤◌, ◌⊎◌, false, List, [], ◌∷◌, None, IsTrue}
use Rattle.std.specs.List.{AllByRecursion}
use Rattle.gix_hash.specs.declared.kind.Kind.{Kind}
use Rattle.gix_ref_file.specs.Calls.{Passes}
use Rattle.gix_ref_file.specs.Changes.{is_file_at, may_hold_file}
use Rattle.gix_ref_file.specs.History.{HasRisen}
use Rattle.gix_ref_file.specs.Tree.{Tree}
use Rattle.gix_ref_file.specs.declared.files.Files.{Ghosts}
use Rattle.gix_ref_edit.specs.declared.change.RefEdit.{RefEdit}
use Rattle.gix_ref_lock.specs.Contents.{lock_path_of, place_of}
use Rattle.gix_ref_lock.specs.Locks.{HasLockPlace, lock_of}
use Rattle.gix_ref_lock.specs.Moves.{LocksHeld, Once, lock_paths}
use Rattle.gix_ref_lock.specs.Needs.{AreBeside}
use Rattle.gix_ref_lock.specs.PackedEdits as packed
use Rattle.gix_ref_lock.specs.PackedEdits.{IsReadAt}
use Rattle.gix_ref_lock.specs.declared.act.Act.{Act}
use Rattle.gix_ref_lock.specs.declared.act.Move.{Move}
use Rattle.gix_ref_lock.specs.declared.packed.Transaction.{Transaction}
use Rattle.gix_ref_store.specs.Places.{packed_place, place}
use Rattle.gix_ref_store.specs.Stores.{base_of}
use Rattle.gix_ref_store.specs.declared.store.file.Store.{Store}
use Rattle.gix_ref_way.specs.Ways.{Bytes, file_at}
use Rattle.gix_ref_transaction.specs.Causes.{EditFault, SomeEditFault}
use Rattle.gix_ref_transaction.specs.Errors.{Counts, MayStay}
use Rattle.gix_ref_transaction.specs.Locking.{IsLockable}
use Rattle.gix_ref_transaction.specs.LogLines.{AllLined, IsLineOf, has_log, line_in}
use Rattle.gix_ref_transaction.specs.Paths.{has_twice, name_paths}
use Rattle.gix_ref_transaction.specs.Plans.{AllHold, AllTested, HoldsText, IsTested}
use Rattle.gix_ref_transaction.specs.Preparing.{Asked}
use Rattle.gix_ref_transaction.specs.RecordsRollback as records
use Rattle.gix_ref_transaction.specs.Rollback.{IsRolledBack, MoreFilesAt}
use Rattle.gix_ref_transaction.specs.declared.error.PrepareError.{PrepareError}
use Rattle.gix_ref_transaction.specs.declared.error.PrepareError.TheVariants.{Io, LockAcquire}
use Rattle.gix_ref_transaction.specs.declared.repacking.error.RepackError.{RepackError}

-- Honest files stay honest, and the store has its folders and options. The count of failed calls only
-- rises, and not at all after this outcome.
pub record KeepsStore {F : Type 0} (files : Ghosts F) (Quiet : Type 0) (old new : Store F) : Type 0 where
  pub honest : files.is_honest old.files → files.is_honest new.files
  pub base : base_of new ≡ base_of old
  pub options : new.options ≡ old.options
  pub later : files.failures old.files ≤ files.failures new.files
  pub quiet : Quiet → files.failures new.files ≡ files.failures old.files

-- this holds of the tree before the call over a store and of each that came to be
abbrev pub StorePasses : {F : Type 0} → Ghosts F → Store F → Store F → (Tree → Tree → Type 0)
    → Type 0
StorePasses files old new What = Passes files.is_honest files.history old.files new.files What

-- this holds of the trees before the call over a store and after it
abbrev pub StoreTurns : {F : Type 0} → Ghosts F → Store F → Store F → (Tree → Tree → Type 0)
    → Type 0
StoreTurns files old new What =
    files.is_honest old.files → What (files.history old.files).tree (files.history new.files).tree

-- no change of the files failed
abbrev pub IsNoIo : PrepareError → Type 0
IsNoIo error = error ≢ Io

-- ---- the lock of one file

-- A file may be in the place, and its lock is there alone, where none was.
pub record HasTaken (place : Bytes) (old new : Tree) : Type 0 where
  pub free : file_at old (lock_of place) ≡ None
  pub locked : MoreFilesAt (lock_of place ∷ []) old new
  pub held : IsTrue (is_file_at new (lock_of place))
  pub room : IsTrue (may_hold_file new place)

-- It isn't made only if it can't be, `Io` counts a failure, and no lock is left, unless a failure was
-- counted or memory was wanting.
pub record IsUntaken (place : Bytes) (before now : ℕ) (old new : Tree) (error : PrepareError) : Type 0 where
  pub refused : error ≡ LockAcquire → ¬ IsLockable old place
  pub counted : Counts before now error
  pub rolled_back : IsRolledBack before now old new error

-- ---- one edit

-- The reference passes the edit's test, the lock has the new text, and the log's line is made.
pub record IsActed (a : Asked) (edit : RefEdit) (lock : Bytes) (new : Tree) (act : Act) : Type 0 where
  pub tested : IsTested edit (a.lines.read edit.name)
  pub text : HoldsText edit.change act lock new
  pub line : IsLineOf a.lines (has_log a.base a.tree edit.name) edit.name edit.change (line_in act)

-- The edit is refused for its fault, never for its lock; `Io` counts a failure if the lock is held.
pub record IsUnacted (a : Asked) (edit : RefEdit) (lock : Bytes) (before now : ℕ) (may_fail : Type 0)
    (error : PrepareError) : Type 0 where
  pub cause : EditFault a.lines (has_log a.base a.tree edit.name) may_fail edit error
  pub locked : error ≢ LockAcquire
  pub counted : IsTrue (is_file_at a.tree lock) → Counts before now error

-- All that, and the lock is there alone, where none was, and a file may be in its place.
pub record IsPlanned (a : Asked) (edit : RefEdit) (new : Tree) (made : Move) : Type 0 where
  pub acted : IsActed a edit (lock_path_of made) new made.act
  pub free : file_at a.tree (lock_path_of made) ≡ None
  pub locked : MoreFilesAt (lock_path_of made ∷ []) a.tree new
  pub held : IsTrue (is_file_at new (lock_path_of made))
  pub room : IsTrue (may_hold_file new (place_of made))

-- It is refused for its fault, and its lock isn't left.
pub record IsUnplanned (a : Asked) (edit : RefEdit) (before now : ℕ) (may_fail : Type 0) (new : Tree)
    (error : PrepareError) : Type 0 where
  pub cause : EditFault a.lines (has_log a.base a.tree edit.name) may_fail edit error
  pub untaken : IsUntaken (place a.base edit.name) before now a.tree new error

-- ---- several edits

-- The locks of these moves exist, each of which is one, and none existed before.
pub record AreTaken (moves : List Move) (old new : Tree) : Type 0 where
  pub held : LocksHeld moves new
  pub fresh : AllByRecursion (λ m. file_at old (lock_path_of m) ≡ None) moves
  pub once : Once (lock_paths moves)

-- All references pass their tests, locks alone came, which have the new texts, and the logs' lines are
-- made; and a file may be in each place, if none of the paths is below another.
pub record ArePlanned (a : Asked) (new : Tree) (moves : List Move) : Type 0 where
  pub tested : AllTested a.lines.read a.edits
  pub texts : AllHold new a.edits moves
  pub lines : AllLined a.lines a.base a.tree a.edits moves
  pub locked : MoreFilesAt (lock_paths moves) a.tree new
  pub room : AreBeside (name_paths a.base a.edits)
      → AllByRecursion (λ m. IsTrue (may_hold_file new (place_of m))) moves

-- One is refused for its fault: `LockAcquire` only if not all locks can be made. `Io` counts a failure.
-- The locks of these moves alone are left, unless a failure was counted or memory was wanting.
pub record AreUnplanned (a : Asked) (before now : ℕ) (may_fail : Type 0) (new : Tree) (moves : List Move)
    (error : PrepareError) : Type 0 where
  pub cause : SomeEditFault a.lines a.base a.tree may_fail a.edits error
  pub refused : error ≡ LockAcquire → has_twice (name_paths a.base a.edits) ≡ false
      → AreBeside (name_paths a.base a.edits)
      → ¬ AllByRecursion (λ edit. IsLockable a.tree (place a.base edit.name)) a.edits
  pub counted : Counts before now error
  pub rolled_back : MoreFilesAt (lock_paths moves) a.tree new ⊎ (HasRisen before now ⊎ MayStay error)

-- the same of a call over a store
abbrev pub LeavesUnplanned : {F : Type 0} → Ghosts F → Asked → Store F → Store F → List Move
    → PrepareError → Type 0
LeavesUnplanned files a old new =
    AreUnplanned a (files.failures old.files) (files.failures new.files) files.reading_may_fail
    (files.history new.files).tree

-- ---- packed records

-- A transaction of the records at this place holds its lock.
pub record HoldsLock (place : Bytes) (tree : Tree) (t : Transaction) : Type 0 where
  pub here : packed.lock_path_of t ≡ lock_of place
  pub held : IsTrue (is_file_at tree (packed.lock_path_of t))

-- Their lock isn't left. If it could be made, and the records read, there was a fault, or memory was
-- wanting, unless the error is early.
pub record IsUnpacked (kind : Kind) (place : Bytes) (before now : ℕ) (may_fail : Type 0) (old new : Tree)
    (error : RepackError) : Type 0 where
  pub rolled_back : records.IsRolledBack (lock_of place) before now old new error
  pub failed : HasLockPlace place old → IsReadAt kind place old
      → records.IsEarly error ⊎ (records.WantsMemory error ⊎ (HasRisen before now ⊎ may_fail))

-- the same of the records of a store
abbrev pub LeavesUnpacked : {F : Type 0} → Ghosts F → Store F → Store F → RepackError → Type 0
LeavesUnpacked files old new =
    IsUnpacked (base_of old).kind (packed_place (base_of old)) (files.failures old.files)
    (files.failures new.files) files.reading_may_fail (files.history old.files).tree
    (files.history new.files).tree
