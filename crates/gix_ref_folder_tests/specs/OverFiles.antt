-- A system over files: where its parts are, and when it is honest.
use Rattle.std.specs.Prelude.{◌≡◌, ℕ, List, ◌∷◌, ◌++◌, string_bytes, IsTrue, IsSome}
use Rattle.std.specs.FinMap.{get}
use Rattle.gix_ref_file.specs.Tree.{Tree}
use Rattle.gix_ref_file.specs.History.{History}
use Rattle.gix_ref_folder.specs.Parts.{has}
use Rattle.gix_ref_folder.specs.declared.part.Part.{Part}
use Rattle.gix_ref_folder.specs.declared.part.Part.TheVariants.{Objects, Names}
use Rattle.gix_ref_folder_tests.specs.declared.over_files.OverFiles.{OverFiles}

-- the system's path of the folder
abbrev pub root_of : {F : Type 0} → OverFiles F → List ℕ
root_of system = string_bytes system.root

-- the files of a part
abbrev pub files_of : {F : Type 0} → OverFiles F → Part → F
files_of system Objects = system.objects
files_of system Names = system.names

-- a path, its part, and the system's path of what is there
pub record IsSpot (root : List ℕ) (part : Part) (path place : List ℕ) : Type 0 where
  pub is : place ≡ root ++ 47 ∷ path
  pub own : IsTrue (has part path)

-- what exists is of the part
abbrev pub IsOwn : Part → Tree → Type 0
IsOwn part tree = (path : List ℕ) → IsSome (get tree path) → IsTrue (has part path)

-- the folder is at this root, and the files of each part are honest and hold nothing of the other
pub record IsHonestAt {F : Type 0} (IsHonest : F → Type 0) (history : F → History)
    (system : OverFiles F) (root : List ℕ) : Type 0 where
  pub at_root : root_of system ≡ root
  pub honest : (part : Part) → IsHonest (files_of system part)
  pub own : (part : Part) → IsOwn part (history (files_of system part)).tree
