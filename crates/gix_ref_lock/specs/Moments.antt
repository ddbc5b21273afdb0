-- What exists while single files change.
use Rattle.std.specs.Prelude.{ℕ, ◌≡◌, ◌≢◌, ◌⊎◌, Bool, [], Option, Some, None, Vec, unwrap_or, codes, IsFalse, IsTrue}
use Rattle.std.specs.declared.alloc.Global.{Global}
use Rattle.gix_ref_file.specs.Tree.{Tree}
use Rattle.gix_ref_file.specs.Changes.{is_file_at}
use Rattle.gix_object_lines.specs.NameTest.{ends}
use Rattle.gix_ref_way.specs.Ways.{Bytes, file_at}
use Rattle.gix_ref_lock.specs.Contents.{Contents, contents, noted, updated, forgotten, removed, MayBeNoted, place_of, lock_path_of, log_path_of}
use Rattle.gix_ref_lock.specs.declared.act.Act.{Act}
use Rattle.gix_ref_lock.specs.declared.act.Act.TheVariants as acts
use Rattle.gix_ref_lock.specs.declared.act.Move.{Move}
use Rattle.gix_ref_lock.specs.declared.steps.Step.{Step}
use Rattle.gix_ref_lock.specs.declared.steps.Step.TheVariants.{Update, Forget, Remove}

-- each file but the one at this path is as before
abbrev pub OtherFilesStay : Bytes → Tree → Tree → Type 0
OtherFilesStay here old tree = (path : Bytes) → path ≢ here → file_at tree path ≡ file_at old path

-- the path ends as locks do
abbrev pub is_lock : Bytes → Bool
is_lock path = ends (codes ".lock") path

-- each file but locks is as before
abbrev pub SameButLocks : Tree → Tree → Type 0
SameButLocks old tree =
    (path : Bytes) → IsFalse (is_lock path) → file_at tree path ≡ file_at old path

-- each file that exists existed before
abbrev pub NoFileMore : Tree → Tree → Type 0
NoFileMore old new = (path : Bytes) → IsTrue (is_file_at new path) → IsTrue (is_file_at old path)

-- The log is as before, or has any beginning of the line after what it held; each other file is as
-- before.
pub record MayNote (line : Option (Vec ℕ Global)) (log : Bytes) (old tree : Tree) : Type 0 where
  pub here : MayBeNoted line (file_at old log) (file_at tree log)
  pub others : OtherFilesStay log old tree

-- The log has the line after what it held; each other file is as before.
pub record NotesLog (line : Option (Vec ℕ Global)) (log : Bytes) (old new : Tree) : Type 0 where
  pub here : file_at new log ≡ noted line (file_at old log)
  pub others : OtherFilesStay log old new

-- The file is as before or gone; each other file is as before.
pub record MayGo (here : Bytes) (old tree : Tree) : Type 0 where
  pub file : (file_at tree here ≡ file_at old here) ⊎ (file_at tree here ≡ None)
  pub others : OtherFilesStay here old tree

-- The file is gone; each other file is as before.
pub record IsGone (here : Bytes) (old new : Tree) : Type 0 where
  pub file : file_at new here ≡ None
  pub others : OtherFilesStay here old new

-- The files of one move are related so to what they were, and each other file is as before.
pub record MayMove (Rel : Act → Contents → Contents → Type 0) (m : Move) (old tree : Tree)
    : Type 0 where
  pub here : Rel m.act (contents m old) (contents m tree)
  pub others : (path : Bytes) → path ≢ place_of m → path ≢ lock_path_of m → path ≢ log_path_of m
      → file_at tree path ≡ file_at old path

-- Its files are what this act makes of them, and each other file is as before.
pub record Has (act : Act → Contents → Contents) (m : Move) (old new : Tree) : Type 0 where
  pub here : contents m new ≡ act m.act (contents m old)
  pub others : (path : Bytes) → path ≢ place_of m → path ≢ lock_path_of m → path ≢ log_path_of m
      → file_at new path ≡ file_at old path

-- the paths of a move are three
pub record AreApart (m : Move) : Type 0 where
  pub lock : place_of m ≢ lock_path_of m
  pub log : place_of m ≢ log_path_of m
  pub log_lock : lock_path_of m ≢ log_path_of m

-- ---- the single acts

-- An update's log may get its line; then, with the whole line, its lock is renamed or given back.
abbrev pub IsUpdating : Act → Contents → Contents → Type 0
IsUpdating (acts.Put line) before now =
    ((now.file ≡ before.file) × MayBeNoted line before.log now.log)
    ⊎ ((now.file ≡ Some (unwrap_or before.lock [])) × (now.log ≡ noted line before.log))
IsUpdating (acts.Note line) before now =
    (now.file ≡ before.file) × MayBeNoted line before.log now.log
IsUpdating (acts.Pack line) before now =
    (now.file ≡ before.file) × MayBeNoted line before.log now.log
IsUpdating acts.Remove before now = now ≡ before
IsUpdating acts.Forget before now = now ≡ before

-- The log of what is removed may be gone.
abbrev pub IsForgetting : Act → Contents → Contents → Type 0
IsForgetting act before now = (now ≡ before) ⊎ (now ≡ forgotten act before)

-- A file may be gone, and then its lock.
abbrev pub IsGoing : Act → Contents → Contents → Type 0
IsGoing act before now =
    ((now.file ≡ before.file) ⊎ (now.file ≡ None)) × (now.log ≡ before.log)

-- So may the files of what is removed or packed.
abbrev pub IsRemoving : Act → Contents → Contents → Type 0
IsRemoving (acts.Put line) before now = now ≡ before
IsRemoving (acts.Note line) before now = now ≡ before
IsRemoving (acts.Pack line) before now = IsGoing (acts.Pack line) before now
IsRemoving acts.Remove before now = IsGoing acts.Remove before now
IsRemoving acts.Forget before now = (now.file ≡ before.file) × (now.log ≡ before.log)

-- what a step makes of the files of a move
abbrev pub made_by : Step → Act → Contents → Contents
made_by Update = updated
made_by Forget = forgotten
made_by Remove = removed

-- what they may be meanwhile
abbrev pub IsMaking : Step → Act → Contents → Contents → Type 0
IsMaking Update = IsUpdating
IsMaking Forget = IsForgetting
IsMaking Remove = IsRemoving
