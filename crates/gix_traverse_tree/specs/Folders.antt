-- What begins the paths, numbered: each number has those of what is longer by a name.
use Rattle.std.specs.Prelude.{ℕ, zero, suc, ◌≡◌, ◌<◌, ◌≤◌, ◌⊎◌, List, [], ◌∷◌, Option, None, Some, length}
use Rattle.std.specs.List.{AllZip}
use Rattle.std.specs.Map.{lookup}
use Rattle.std.specs.BTreeMap.{is_at}
use Rattle.std.specs.Cmp.Lexicographic.{slice_cmp}
use Rattle.std.specs.Ordering.{nat_cmp}
use denote.Ref.{Bor}
use Rattle.gix_object_lookup.specs.Path.{Path}
use Rattle.gix_traverse_tree.specs.AtPaths.{Begins, BeginsOne}
use Rattle.gix_traverse_tree.specs.declared.folders.Folder.{Folder}

-- ---- numbers

-- the number of a name
abbrev pub number_in : Folder → List ℕ → Option ℕ
number_in folder name =
    lookup (is_at (λ (k : Bor (List ℕ)). slice_cmp nat_cmp name k.now)) folder.names.entries

-- the number of a name in the folder of each number
abbrev pub Numbers : Type 0
Numbers = ℕ → List ℕ → Option ℕ

abbrev pub numbers_of : List Folder → Numbers
numbers_of [] i name = None
numbers_of (folder ∷ folders) zero name = number_in folder name
numbers_of (folder ∷ folders) (suc i) name = numbers_of folders i name

-- these names lead from a number to another
abbrev pub Way : Numbers → ℕ → Path → ℕ → Type 0
Way numbers from [] end = end ≡ from
Way numbers from (name ∷ names) end =
    (next : ℕ) × (numbers from name ≡ Some next) × Way numbers next names end

-- each number is that of one name in the folder of a smaller number
pub record IsNumbered (folders : List Folder) : Type 0 where
  pub later : (i n : ℕ) (name : List ℕ) → numbers_of folders i name ≡ Some n
      → (i < n) × (n < length folders)
  pub once : (i j n : ℕ) (name other : List ℕ) → numbers_of folders i name ≡ Some n
      → numbers_of folders j other ≡ Some n → (i ≡ j) × (name ≡ other)

-- numbers are added and none is changed
pub record Grows (old new : List Folder) : Type 0 where
  pub numbered : IsNumbered new
  pub longer : length old ≤ length new
  pub kept : (i n : ℕ) (name : List ℕ) → numbers_of old i name ≡ Some n
      → numbers_of new i name ≡ Some n

-- a name has a number, and no other was added
pub record NumbersName (at : ℕ) (name : List ℕ) (number : ℕ) (old new : List Folder) : Type 0 where
  pub grows : Grows old new
  pub here : numbers_of new at name ≡ Some number
  pub within : number < length new
  pub added : (i n : ℕ) (other : List ℕ) → numbers_of new i other ≡ Some n
      → (numbers_of old i other ≡ Some n) ⊎ ((i ≡ at) × (other ≡ name))

-- a path has the number, and what was added begins the path
pub record NumbersPath (path : Path) (number : ℕ) (old new : List Folder) : Type 0 where
  pub grows : Grows old new
  pub way : Way (numbers_of new) 0 path number
  pub within : number < length new
  pub added : (i n : ℕ) (name : List ℕ) → numbers_of new i name ≡ Some n
      → (numbers_of old i name ≡ Some n)
      ⊎ ((front : Path) × Way (numbers_of new) 0 front i × Begins path front)

-- the path has the number
abbrev pub HasNumber : List Folder → Path → ℕ → Type 0
HasNumber folders path number = (number < length folders) × Way (numbers_of folders) 0 path number

-- these are the numbers of the paths
abbrev pub HaveNumbers : List Folder → List Path → List ℕ → Type 0
HaveNumbers folders paths numbers = AllZip (HasNumber folders) paths numbers

-- the paths have these numbers, and what has a number after it begins one of them
pub record NumbersPaths (paths : List Path) (numbers : List ℕ) (folders : List Folder) : Type 0
  where
    pub some : 0 < length folders
    pub numbered : IsNumbered folders
    pub have : HaveNumbers folders paths numbers
    pub used : (i n : ℕ) (name : List ℕ) → numbers_of folders i name ≡ Some n
        → (front : Path) × Way (numbers_of folders) 0 front i × BeginsOne paths front
