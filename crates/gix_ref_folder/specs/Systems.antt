-- What a system's calls report and do at its own paths, said of a part of what is below a root.
use Rattle.std.specs.Prelude.{◌≡◌, ⊤, ℕ, List, [], ◌++◌, ◌∷◌, ◌&&◌, length, map, Option, Some, option_map, Result, OnOk, IsTrue, IsSome, Vec, IsPermutation}
use Rattle.std.specs.List.{filter}
use Rattle.std.specs.FinMap.{get}
use Rattle.std.specs.declared.alloc.Global.{Global}
use Rattle.std.specs.declared.io.Error.{Error}
use Rattle.gix_ref_file.specs.Tree.{Tree, Node, is_path, bytes_of, is_folder, names_at, IsRooted}
use Rattle.gix_ref_file.specs.Changes.{Change, to_rename, allows, after, is_file_at, MayLeave}
use Rattle.gix_ref_file.specs.History.{History, Adds}
use Rattle.gix_ref_folder.specs.Parts.{has}
use Rattle.gix_ref_folder.specs.declared.part.Part.{Part}
use Rattle.gix_ref_folder.specs.declared.system.Found.{Found}
use Rattle.gix_ref_folder.specs.declared.system.Found.TheVariants.{File, Folder, Other}

-- ---- the system's paths

-- a path of a part, and the system's path of what is there, below a root
abbrev pub IsPlaceOf : List ℕ → Part → List ℕ → List ℕ → Type 0
IsPlaceOf root part path place =
    (place ≡ root ++ 47 ∷ path) × IsTrue (is_path path && has part path)

-- what exists is of the part, and listings from the root reach it
pub record IsShown (part : Part) (tree : Tree) : Type 0 where
  pub rooted : IsRooted tree
  pub own : (path : List ℕ) → IsSome (get tree path) → IsTrue (has part path)

-- ---- readings

-- what the system reports of a path is what is there; of what is neither a file nor a folder
-- nothing is said
abbrev pub IsFound : Found → Option Node → Type 0
IsFound (File len) there = option_map length (bytes_of there) ≡ Some len
IsFound Folder there = IsTrue (is_folder there)
IsFound Other there = ⊤

-- the names right in a folder, in any order
abbrev pub AreNames : Tree → List ℕ → List (Vec ℕ Global) → Type 0
AreNames tree path names = IsPermutation (map (λ name. name.items) names) (names_at tree path)

-- the names right in the root, with those of the other part
abbrev pub AreRootNames : Part → Tree → List (Vec ℕ Global) → Type 0
AreRootNames part tree names =
    IsPermutation (filter (has part) (map (λ name. name.items) names)) (names_at tree [])

-- of a part that is honest: at each of its places this holds of the tree and the path
abbrev pub Reads : {S : Type 0} → (S → List ℕ → Part → Type 0) → (S → List ℕ → Part → History)
    → S → List ℕ → (Tree → List ℕ → Type 0) → Type 0
Reads IsHonest history system place What =
    (root : List ℕ) (part : Part) (path : List ℕ) → IsHonest system root part
    → IsPlaceOf root part path place → What (history system root part).tree path

-- ---- changes

-- what a call does that is to make this change: at Ok it is made, and at each moment what the
-- change may leave exists
pub record Does {T : Type 0} (change : Change) (old new : History)
    (result : Result T Error) : Type 0 where
  pub allowed : OnOk result (IsTrue (allows old.tree change))
  pub made : OnOk result (new.tree ≡ after change old.tree)
  pub moments : Adds (MayLeave change old.tree) old new

-- of a part that is honest: at each of its places the call makes this change, and the part stays
-- honest
abbrev pub Performs : {S T : Type 0} → (S → List ℕ → Part → Type 0)
    → (S → List ℕ → Part → History) → S → S → List ℕ → (List ℕ → Change) → Result T Error → Type 0
Performs IsHonest history old new place change result =
    (root : List ℕ) (part : Part) (path : List ℕ) → IsHonest old root part
    → IsPlaceOf root part path place → IsHonest new root part
    × Does (change path) (history old root part) (history new root part) result

-- the same of a rename, if there is a file at the first place: the system would move a folder too
abbrev pub Moves : {S T : Type 0} → (S → List ℕ → Part → Type 0) → (S → List ℕ → Part → History)
    → S → S → List ℕ → List ℕ → Result T Error → Type 0
Moves IsHonest history old new first second result =
    (root : List ℕ) (part : Part) (from to : List ℕ) → IsHonest old root part
    → IsPlaceOf root part from first → IsPlaceOf root part to second
    → IsTrue (is_file_at (history old root part).tree from) → IsHonest new root part
    × Does (to_rename from to) (history old root part) (history new root part) result
