-- A folder over a system: which part of which folder it is, what it holds, and what is supposed of it.
use Rattle.std.specs.Prelude.{◌≡◌, ℕ, ◌&&◌, List, Option, Some, None, String, string_bytes, Result, IfSome, IsTrue, IsFalse}
use Rattle.std.specs.declared.io.Error.{Error}
use Rattle.std.specs.declared.alloc.Global.{Global}
use Rattle.gix_ref_file.specs.History.{History}
use Rattle.gix_ref_file.specs.Changes.{Change, is_file_at}
use Rattle.gix_ref_file.specs.Tree.{Tree, is_path, node_at, bytes_of}
use Rattle.gix_ref_folder.specs.Errors.{count_of, last_of}
use Rattle.gix_ref_folder.specs.Parts.{has}
use Rattle.gix_ref_folder.specs.Systems.{IsPlaceOf, Does}
use Rattle.gix_ref_folder.specs.declared.failure.Failure.{Failure}
use Rattle.gix_ref_folder.specs.declared.folder.Folder.{Folder}
use Rattle.gix_ref_folder.specs.declared.part.Part.{Part}

abbrev pub system_of : {S : Type 0} → Folder S → S
system_of folder = folder.system

abbrev pub root_of : {S : Type 0} → Folder S → String Global
root_of folder = folder.root

abbrev pub part_of : {S : Type 0} → Folder S → Part
part_of folder = folder.part

-- how many changes failed
abbrev pub failures_of : {S : Type 0} → Folder S → ℕ
failures_of folder = count_of folder.failures

-- the last change that failed
abbrev pub last_in : {S : Type 0} → Folder S → Option Failure
last_in folder = last_of folder.failures

-- what it holds and held is what the system does, of its part below its root
abbrev pub history_in : {S : Type 0} → (S → List ℕ → Part → History) → Folder S → History
history_in history folder = history folder.system (string_bytes folder.root) folder.part

-- a file is at this path of the system's, if it is a path of the part
abbrev pub IsFileThere : List ℕ → Part → Tree → List ℕ → Type 0
IsFileThere root part tree place =
    (path : List ℕ) → IsPlaceOf root part path place → IsTrue (is_file_at tree path)

-- the file that the last change made or wrote, which is kept in mind, exists
abbrev pub HasWritten : {S : Type 0} → (S → List ℕ → Part → History) → Folder S → Type 0
HasWritten history folder = IfSome folder.written (λ place. IsFileThere (string_bytes folder.root)
    folder.part (history_in history folder).tree (string_bytes place))

-- it is honest if the system is, of that part, and the file that is kept in mind exists: a new
-- folder keeps none in mind
abbrev pub IsHonestIn : {S : Type 0} → (S → List ℕ → Part → Type 0)
    → (S → List ℕ → Part → History) → Folder S → Type 0
IsHonestIn IsHonest history folder =
    IsHonest folder.system (string_bytes folder.root) folder.part × HasWritten history folder

-- over an honest folder a call makes this change, and the folder stays honest
abbrev pub Acts : {S T : Type 0} → (S → List ℕ → Part → Type 0) → (S → List ℕ → Part → History)
    → Folder S → Folder S → Change → Result T Error → Type 0
Acts IsHonest history old new change result =
    IsHonestIn IsHonest history old → IsHonestIn IsHonest history new
    × Does change (history_in history old) (history_in history new) result

-- the system's path of what is at a path, and none where the path is none of the part
abbrev pub IsPlaceIn : List ℕ → Part → List ℕ → Option (String Global) → Type 0
IsPlaceIn root part path (Some place) = IsPlaceOf root part path (string_bytes place)
IsPlaceIn root part path None = IsFalse (is_path path && has part path)

-- the system's path of a file, and none if no file is there
abbrev pub IsFileIn : List ℕ → Part → List ℕ → Tree → Option (String Global) → Type 0
IsFileIn root part path tree (Some place) =
    IsPlaceOf root part path (string_bytes place) × IsTrue (is_file_at tree path)
IsFileIn root part path tree None = bytes_of (node_at tree path) ≡ None
