-- What exists while moves of several references are committed, with records that are packed.
use Rattle.std.specs.Prelude.{◌≡◌, ◌⊎◌, false, List, [], ◌∷◌, ◌++◌, Option, Some, None, if◌then◌else◌}
use Rattle.std.specs.List.{AllByRecursion}
use Rattle.gix_ref_file.specs.Tree.{Tree, bytes_at}
use Rattle.gix_ref_file.specs.Changes.{is_file_at}
use Rattle.gix_ref_way.specs.Ways.{Bytes, file_at}
use Rattle.gix_ref_lock.specs.PackedEdits as packed
use Rattle.gix_ref_lock.specs.declared.packed.Transaction.{Transaction}
use Rattle.gix_ref_lock.specs.Contents.{Contents, contents, updated, forgotten, moved, IsBetween, lock_path_of}
use Rattle.gix_ref_lock.specs.Moments.{NoFileMore}
use Rattle.gix_ref_lock.specs.Moves.{all_paths, IsNone, AllMay}
use Rattle.gix_ref_lock.specs.declared.act.Act.{Act}
use Rattle.gix_ref_lock.specs.declared.act.Act.TheVariants.{Put, Note, Pack, Remove, Forget}
use Rattle.gix_ref_lock.specs.declared.act.Move.{Move}

-- the paths of packed records and of their lock
abbrev pub packed_paths : Option Transaction → List Bytes
packed_paths None = []
packed_paths (Some t) = packed.place_of t ∷ packed.lock_path_of t ∷ []

-- all paths that a commit concerns
abbrev pub commit_paths : Option Transaction → List Move → List Bytes
commit_paths t moves = packed_paths t ++ all_paths moves

-- the packed records' file in the end: with the text of its lock, if one was written
abbrev pub packed_end : Transaction → Tree → Option Bytes
packed_end t old =
    if t.is_written then Some (bytes_at old (packed.lock_path_of t))
    else file_at old (packed.place_of t)

-- the file of packed records as before
abbrev pub PackedStays : Option Transaction → Tree → Tree → Type 0
PackedStays None old tree = Unit {0}
PackedStays (Some t) old tree =
    file_at tree (packed.place_of t) ≡ file_at old (packed.place_of t)

-- or as in the end
abbrev pub PackedIsNew : Option Transaction → Tree → Tree → Type 0
PackedIsNew None old tree = Unit {0}
PackedIsNew (Some t) old tree = file_at tree (packed.place_of t) ≡ packed_end t old

-- there is no file at the path of the lock of packed records
abbrev pub PackedUnlocked : Option Transaction → Tree → Type 0
PackedUnlocked None tree = Unit {0}
PackedUnlocked (Some t) tree = file_at tree (packed.lock_path_of t) ≡ None

-- the update is made, with its line in the log; for what is packed, the log has the line
abbrev pub Shows : Act → Contents → Contents → Type 0
Shows (Put line) before now =
    (now.file ≡ (updated (Put line) before).file) × (now.log ≡ (updated (Put line) before).log)
Shows (Note line) before now = now.log ≡ (updated (Note line) before).log
Shows (Pack line) before now = now.log ≡ (updated (Pack line) before).log
Shows Remove before now = Unit {0}
Shows Forget before now = Unit {0}

-- nothing is removed yet
abbrev pub StaysYet : Act → Contents → Contents → Type 0
StaysYet (Put line) before now = Unit {0}
StaysYet (Note line) before now = Unit {0}
StaysYet (Pack line) before now = now.file ≡ before.file
StaysYet Remove before now = (now.file ≡ before.file) × (now.log ≡ before.log)
StaysYet Forget before now = (now.file ≡ before.file) × (now.log ≡ before.log)

-- the file that is to be removed is as before
abbrev pub FileStays : Act → Contents → Contents → Type 0
FileStays (Put line) before now = Unit {0}
FileStays (Note line) before now = Unit {0}
FileStays (Pack line) before now = now.file ≡ before.file
FileStays Remove before now = now.file ≡ before.file
FileStays Forget before now = now.file ≡ before.file

-- what is removed has no log
abbrev pub LogGone : Act → Contents → Contents → Type 0
LogGone (Put line) before now = Unit {0}
LogGone (Note line) before now = Unit {0}
LogGone (Pack line) before now = Unit {0}
LogGone Remove before now = now.log ≡ None
LogGone Forget before now = now.log ≡ None

abbrev pub EachOf : (Act → Contents → Contents → Type 0) → List Move → Tree → Tree → Type 0
EachOf Rel moves old tree =
    AllByRecursion (λ m. Rel m.act (contents m old) (contents m tree)) moves

-- Nothing is removed yet, and packed records are as before; or all updates are made.
abbrev pub UpdatesFirst : Option Transaction → List Move → Tree → Tree → Type 0
UpdatesFirst t moves old tree =
    (EachOf StaysYet moves old tree × PackedStays t old tree) ⊎ EachOf Shows moves old tree

-- No file is removed before packed records are as in the end: the record that it hides may hold a
-- much older value.
abbrev pub RecordsFirst : Option Transaction → List Move → Tree → Tree → Type 0
RecordsFirst t moves old tree = EachOf FileStays moves old tree ⊎ PackedIsNew t old tree

-- Packed records change only after all updates are made and all logs of what is removed are gone.
abbrev pub LogsFirst : Option Transaction → List Move → Tree → Tree → Type 0
LogsFirst t moves old tree =
    PackedStays t old tree ⊎ (EachOf Shows moves old tree × EachOf LogGone moves old tree)

-- What exists at each moment of a commit.
pub record OnTheWay (t : Option Transaction) (moves : List Move) (old tree : Tree) : Type 0 where
  pub each : EachOf IsBetween moves old tree
  pub order : UpdatesFirst t moves old tree
  pub records : RecordsFirst t moves old tree
  pub logs_first : LogsFirst t moves old tree
  pub packed : PackedStays t old tree ⊎ PackedIsNew t old tree
  pub others : (path : Bytes) → IsNone path (commit_paths t moves)
      → file_at tree path ≡ file_at old path

-- What exists after it: each act is made, and there is no lock.
pub record IsCommitted (t : Option Transaction) (moves : List Move) (old new : Tree) : Type 0 where
  pub each : AllByRecursion (λ m. contents m new ≡ moved m.act (contents m old)) moves
  pub packed : PackedIsNew t old new
  pub unlocked : PackedUnlocked t new
  pub others : (path : Bytes) → IsNone path (commit_paths t moves)
      → file_at new path ≡ file_at old path

-- ---- of the single steps

-- all updates are made, and the logs of what is removed are gone
abbrev pub shown : Act → Contents → Contents
shown act c = forgotten act (updated act c)

-- What exists until then: no file is gone.
pub record IsShowing (moves : List Move) (old tree : Tree) : Type 0 where
  pub way : OnTheWay None moves old tree
  pub files : EachOf FileStays moves old tree

-- the file and the log as before
abbrev pub LocksAlone : Act → Contents → Contents → Type 0
LocksAlone act before now = (now.file ≡ before.file) × (now.log ≡ before.log)

-- there is no lock, and all else is as before
pub record NoneLocked (moves : List Move) (old new : Tree) : Type 0 where
  pub gone : AllByRecursion (λ m. file_at new (lock_path_of m) ≡ None) moves
  pub may : AllMay LocksAlone moves old new

-- The file of packed records as before, or as in the end; each file but it and its lock as before.
pub record MayReplace (t : Option Transaction) (old tree : Tree) : Type 0 where
  pub packed : PackedStays t old tree ⊎ PackedIsNew t old tree
  pub others : (path : Bytes) → IsNone path (packed_paths t)
      → file_at tree path ≡ file_at old path

pub record Replaces (t : Option Transaction) (old new : Tree) : Type 0 where
  pub packed : PackedIsNew t old new
  pub unlocked : PackedUnlocked t new
  pub others : (path : Bytes) → IsNone path (packed_paths t)
      → file_at new path ≡ file_at old path

pub record KeepsPacked (t : Option Transaction) (old tree : Tree) : Type 0 where
  pub packed : PackedStays t old tree
  pub others : (path : Bytes) → IsNone path (packed_paths t)
      → file_at tree path ≡ file_at old path

-- No lock exists, and no file that didn't.
pub record AreUnlocked (moves : List Move) (old new : Tree) : Type 0 where
  pub gone : AllByRecursion (λ m. is_file_at new (lock_path_of m) ≡ false) moves
  pub none : NoFileMore old new
