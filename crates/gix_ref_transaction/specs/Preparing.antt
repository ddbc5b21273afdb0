-- What a transaction is asked, what of it is prepared, and what is left if it isn't.
use Rattle.std.specs.Prelude.{ℕ, ◌≡◌, ◌≤◌, ◌⊎◌, Bool, false, List, Option, IfSome, IsTrue}
use Rattle.std.specs.List.{list_all}
use Rattle.std.specs.Borrow.{Bor}
use Rattle.gix_object_lines.specs.declared.lines.actor.ActorRef.{ActorRef}
use Rattle.gix_object_lookup.specs.Table.{Table}
use Rattle.gix_object_lookup.specs.declared.traits.Lookup.{Ghosts as LookupGhosts}
use Rattle.gix_ref_file.specs.Calls.{Passes}
use Rattle.gix_ref_file.specs.History.{History, HasRisen}
use Rattle.gix_ref_file.specs.Tree.{Tree, is_path}
use Rattle.gix_ref_file.specs.declared.files.Files.{Ghosts}
use Rattle.gix_ref_edit.specs.Names.{AllOnce, names_of}
use Rattle.gix_ref_edit.specs.declared.change.RefEdit.{RefEdit}
use Rattle.gix_ref_format.specs.declared.packed.buffer.Buffer.{Buffer}
use Rattle.gix_ref_lock.specs.Moments.{SameButLocks}
use Rattle.gix_ref_lock.specs.Needs.{CanCommit}
use Rattle.gix_ref_store.specs.Lookups.{reads_with}
use Rattle.gix_ref_store.specs.Places.{Base}
use Rattle.gix_ref_store.specs.RefStates.{RefState, ref_state}
use Rattle.gix_ref_store.specs.Stores.{base_of}
use Rattle.gix_ref_store.specs.declared.store.file.Store.{Store}
use Rattle.gix_ref_way.specs.Ways.{Bytes}
use Rattle.gix_ref_transaction.specs.Alike.{ReadsAlike}
use Rattle.gix_ref_transaction.specs.Causes.{GivenFault, IfUnresolved, PrepareFault}
use Rattle.gix_ref_transaction.specs.Errors.{Counts, IsOfRecords, IsQuiet}
use Rattle.gix_ref_transaction.specs.Locking.{AreHeld, AreRecordsLockable, HaveRoom, are_known}
use Rattle.gix_ref_transaction.specs.LogLines.{AllLined, Logging, logging}
use Rattle.gix_ref_transaction.specs.Modes.{objects_in, packs_in, removes}
use Rattle.gix_ref_transaction.specs.Paths.{edit_paths, has_twice}
use Rattle.gix_ref_transaction.specs.Plans.{AllHold, AllPlanned, AllTested, AreSplit, FoldersOfEdits}
use Rattle.gix_ref_transaction.specs.Reads.{AllGiveKind, IsAsPrepared, Prepared}
use Rattle.gix_ref_transaction.specs.Repacking.{AreRepacked, KnowsRecords}
use Rattle.gix_ref_transaction.specs.Resolving.{PackCause}
use Rattle.gix_ref_transaction.specs.Rollback.{IsRolledBack, SameFilesBut, all_locks}
use Rattle.gix_ref_transaction.specs.declared.error.PrepareError.{PrepareError}
use Rattle.gix_ref_transaction.specs.declared.repacking.packed_refs.PackedRefs.{PackedRefs}

-- what a transaction is asked: these edits, of a store in this tree, with lines of these logs
pub record Asked : Type 0 where
  pub base : Base
  pub composes : Bool
  pub lines : Logging
  pub tree : Tree
  pub edits : List RefEdit

abbrev pub asked_in : {F : Type 0} → Store F → Tree → (Bytes → RefState) → Option ActorRef
    → List RefEdit → Asked
asked_in store tree read committer edits = record {
  base = base_of store;
  composes = store.options.precompose_unicode;
  lines = logging store.options read committer;
  tree = tree;
  edits = edits;
}

-- of a store as it is
abbrev pub asked_of : {F : Type 0} → (F → History) → Store F → Option ActorRef → List RefEdit → Asked
asked_of history store committer edits =
    let tree = (history store.files).tree in
    asked_in store tree (ref_state (base_of store) tree) committer edits

-- the same with these packed references
abbrev pub asked_with : {F : Type 0} → (F → History) → Store F → Option (Bor Buffer) → Option ActorRef
    → List RefEdit → Asked
asked_with history store packed committer edits =
    let tree = (history store.files).tree in
    asked_in store tree (reads_with store tree packed) committer edits

-- folders come only above the files of these edits, those of symbolic references split
abbrev pub FoldersFor : Asked → Tree → Tree → Type 0
FoldersFor a old tree = FoldersOfEdits a.lines.read a.base a.edits old tree

-- The edits are one a name, of names as the store knows them; their paths are ones, and no two are one.
pub record AreReady (b : Base) (composes : Bool) (edits : List RefEdit) : Type 0 where
  pub once : AllOnce (names_of edits)
  pub known : IsTrue (are_known composes edits)
  pub apart : has_twice (edit_paths b edits) ≡ false
  pub paths : IsTrue (list_all is_path (edit_paths b edits))

-- Each reference passes its edit's test and is locked; the locks have the new texts, and the lines of
-- logs are made. All other files are as before.
pub record IsPrepared (a : Asked) (new : Tree) (t : Prepared) : Type 0 where
  pub split : AreSplit a.lines.read a.edits t.edits
  pub tested : AllTested a.lines.read t.edits
  pub texts : AllHold new t.edits t.moves
  pub lines : AllLined a.lines a.base a.tree t.edits t.moves
  pub locked : SameFilesBut (all_locks t.packed t.moves) a.tree new
  pub held : AreHeld t.packed t.moves new
  -- it can be committed, if the logs and packed records have room
  pub room : HaveRoom a.base a.tree t.edits → CanCommit t.packed t.moves new

-- The lock of packed records has what the edits make of them. So what is prepared can be committed as
-- they say, if their ids are of the store's hash function.
pub record IsPacked (b : Base) (packs : Option Table) (removes : Bool) (old new : Tree) (t : Prepared)
    : Type 0 where
  pub repacked : AreRepacked b packs old new t.edits t.packed
  pub prepared : AllGiveKind b.kind t.edits → IsAsPrepared b packs removes old new t

-- The same of a store that was in these files, with the records that are known of it.
abbrev pub Packs : {F O : Type 0} → Ghosts F → LookupGhosts O → PackedRefs O → Store F
    → Option (Bor Buffer) → Store F → Prepared → Type 0
Packs files objects mode old records new t =
    let b = base_of old in let tree = (files.history old.files).tree in
    files.is_honest old.files → IfSome (objects_in mode) objects.is_honest
    → KnowsRecords b tree records
    → IsPacked b (packs_in objects mode) (removes mode) tree (files.history new.files).tree t

-- Whatever comes of it, references, logs and records read as before at each moment, and locks alone
-- change; the store stays of its folders and options.
pub record KeepsReferences {F : Type 0} (files : Ghosts F) (a : Asked) (old new : Store F) : Type 0 where
  pub honest : files.is_honest old.files → files.is_honest new.files
  pub base : base_of new ≡ base_of old
  pub options : new.options ≡ old.options
  pub moments : Passes files.is_honest files.history old.files new.files SameButLocks
  pub alike : Passes files.is_honest files.history old.files new.files (ReadsAlike (base_of old))
  pub folders : Passes files.is_honest files.history old.files new.files (FoldersFor a)
  pub later : files.failures old.files ≤ files.failures new.files

-- No call failed, the edits are ready and planned, and what is prepared holds its locks and the packed
-- records that the mode says.
pub record Prepares {F O : Type 0} (files : Ghosts F) (objects : LookupGhosts O) (mode : PackedRefs O)
    (a : Asked) (old new : Store F) (t : Prepared) : Type 0 where
  pub unfailed : files.failures new.files ≡ files.failures old.files
  pub ready : AreReady a.base a.composes t.edits
  pub planned : AllPlanned a.base (removes mode) t.edits t.moves
  pub prepared : files.is_honest old.files → IsPrepared a (files.history new.files).tree t
  pub packed : files.is_honest old.files → IfSome (objects_in mode) objects.is_honest
      → IsPacked a.base (packs_in objects mode) (removes mode) a.tree (files.history new.files).tree t

-- ---- it isn't prepared

-- why, if packed references are given, and if the store's are opened
abbrev pub GivenCause : Asked → Type 0 → PrepareError → Type 0
GivenCause a may_fail error = GivenFault a.lines a.base a.composes a.tree may_fail a.edits error

abbrev pub PrepareCause : Asked → Type 0 → PrepareError → Type 0
PrepareCause a may_fail error = PrepareFault a.lines a.base a.composes a.tree may_fail a.edits error

-- It has this cause, and `Io` counts a failure; packed records aren't locked only if they can't be, or
-- if a call of the files failed. No lock is left, unless a failure was counted or memory was wanting.
pub record FailsToPrepare (Why : Asked → Type 0 → PrepareError → Type 0) (a : Asked) (before now : ℕ)
    (may_fail : Type 0) (new : Tree) (error : PrepareError) : Type 0 where
  pub causes : Why a may_fail error
  pub counted : Counts before now error
  pub records : AreRecordsLockable a.base a.tree → IsOfRecords error → HasRisen before now ⊎ may_fail
  pub rolled_back : IsRolledBack before now a.tree new error

-- the same of a store
abbrev pub Unprepares : {F : Type 0} → Ghosts F → (Asked → Type 0 → PrepareError → Type 0) → Asked
    → Store F → Store F → PrepareError → Type 0
Unprepares files Why a old new error =
    FailsToPrepare Why a (files.failures old.files) (files.failures new.files) files.reading_may_fail
    (files.history new.files).tree error

-- So it does over whatever files and objects: errors for which no change failed count none, and no
-- object is found only for this reason.
pub record LeavesUnprepared {F O : Type 0} (files : Ghosts F) (objects : LookupGhosts O)
    (given : Option O) (Why : Asked → Type 0 → PrepareError → Type 0) (a : Asked) (old new : Store F)
    (error : PrepareError) : Type 0 where
  pub memory : IsQuiet error → files.failures new.files ≡ files.failures old.files
  pub failed : files.is_honest old.files → Unprepares files Why a old new error
  pub resolves : files.is_honest old.files → IfSome given objects.is_honest
      → IfUnresolved a.lines.read (PackCause files objects given) a.edits error
