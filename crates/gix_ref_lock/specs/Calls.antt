-- What a call that changes files keeps, whatever it returns, and why a lock isn't made.
use Rattle.std.specs.Prelude.{◌≡◌, ◌≢◌, ◌≤◌, ◌⊎◌, ℕ, false, List, None, Result, Ok, Err, IfErr, IsTrue}
use Rattle.gix_ref_file.specs.Calls.{HasFault, Passes}
use Rattle.gix_ref_file.specs.Changes.{is_file_at, may_hold_file}
use Rattle.gix_ref_file.specs.History.{HasRisen}
use Rattle.gix_ref_file.specs.Tree.{Tree, is_path, node_at}
use Rattle.gix_ref_file.specs.declared.files.FileError.{FileError}
use Rattle.gix_ref_file.specs.declared.files.FileError.TheVariants.{Memory}
use Rattle.gix_ref_file.specs.declared.files.Files.{Ghosts}
use Rattle.gix_ref_way.specs.Ways.{SameFolders}
use Rattle.gix_ref_lock.specs.Locks.{lock_of}

-- the call succeeds, or fails for want of memory
abbrev pub EndsQuietly : {T E : Type 0} → (E → Type 0) → Result T E → Type 0
EndsQuietly WantsMemory (Ok x) = Unit {0}
EndsQuietly WantsMemory (Err error) = WantsMemory error

abbrev pub IsForMemory : FileError → Type 0
IsForMemory error = error ≡ Memory

-- Honest files stay honest. The count of their failed calls only rises, and not at all after this
-- outcome.
pub record StaysHonest {F : Type 0} (files : Ghosts F) (Quiet : Type 0) (old new : F) : Type 0 where
  pub honest : files.is_honest old → files.is_honest new
  pub later : files.failures old ≤ files.failures new
  pub quiet : Quiet → files.failures new ≡ files.failures old

-- The same, and no folder comes or goes.
pub record KeepsFolders {F : Type 0} (files : Ghosts F) (Quiet : Type 0) (old new : F) : Type 0 where
  pub honest : files.is_honest old → files.is_honest new
  pub later : files.failures old ≤ files.failures new
  pub quiet : Quiet → files.failures new ≡ files.failures old
  pub folders : Passes files.is_honest files.history old new SameFolders

-- an error says that memory was wanting, or comes from a fault of the files
abbrev pub FailsByFault : {F T E : Type 0} → Ghosts F → (E → Type 0) → F → F → Result T E → Type 0
FailsByFault files WantsMemory old new result =
    IfErr result (λ error. WantsMemory error
    ⊎ HasFault files.failures files.reading_may_fail old new)

-- A file is at the path of the lock exactly if one was before, unless a failure was counted or
-- memory was wanting.
abbrev pub RestoresLock : {F E : Type 0} → Ghosts F → (E → Type 0) → List ℕ → F → F → E → Type 0
RestoresLock files WantsMemory lock old new error =
    (is_file_at (files.history new).tree lock ≡ is_file_at (files.history old).tree lock)
    ⊎ (HasRisen (files.failures old) (files.failures new) ⊎ WantsMemory error)

-- something is at the path of the lock, and nothing is changed
pub record IsBusy (lock : List ℕ) (old new : Tree) : Type 0 where
  pub held : node_at old lock ≢ None
  pub kept : new ≡ old

-- A failure was counted, or nothing is changed; it was if the path of the lock may hold a file, or if
-- the place may, unless the former is no path.
pub record IsUnlocked (place : List ℕ) (old new : Tree) (before now : ℕ) : Type 0 where
  pub refused : HasRisen before now ⊎ (new ≡ old)
  pub failed : IsTrue (may_hold_file old (lock_of place)) → HasRisen before now
  pub blamed : IsTrue (may_hold_file old place)
      → HasRisen before now ⊎ (is_path (lock_of place) ≡ false)
