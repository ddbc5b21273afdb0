-- The way of a file: the folders that it is in, and what is in its place.
use Rattle.std.specs.Prelude.{ℕ, zero, suc, ◌≡◌, ◌≢◌, ◌⊎◌, Bool, true, false, List, ◌∷◌, ◌++◌, Option, Some, None, Contains, IsTrue}
use Rattle.std.specs.FinMap.{get}
use Rattle.gix_ref_file.specs.Tree.{Tree, folder, parent, node_at, bytes_of, is_folder}
use Rattle.gix_ref_file.specs.Changes.{is_file_at}

abbrev pub Bytes : Type 0
Bytes = List ℕ

-- the bytes of the file at a path; `None` if there is no file
abbrev pub file_at : Tree → Bytes → Option Bytes
file_at tree path = bytes_of (node_at tree path)

-- each file is as before: at most folders differ
abbrev pub SameFiles : Tree → Tree → Type 0
SameFiles old new = (path : Bytes) → file_at new path ≡ file_at old path

-- there is a folder exactly where one was before
abbrev pub SameFolders : Tree → Tree → Type 0
SameFolders old new = (path : Bytes) → is_folder (get new path) ≡ is_folder (get old path)

-- the path is below this one: a slash follows it there
abbrev pub IsAbove : Bytes → Bytes → Type 0
IsAbove place path = (rest : Bytes) × (path ≡ place ++ 47 ∷ rest)

-- the folder so many folders above a path
abbrev pub above : ℕ → Bytes → Bytes
above zero path = path
above (suc n) path = parent (above n path)

-- no file is where the path needs a folder
abbrev pub NoFileAbove : Bytes → Tree → Type 0
NoFileAbove path tree = (place : Bytes) → IsAbove place path → file_at tree place ≡ None

-- no file is below the path
abbrev pub NoFileBelow : Bytes → Tree → Type 0
NoFileBelow path tree = (other : Bytes) → IsAbove path other → file_at tree other ≡ None

-- The path has room for a file: no file is above or below it, and folders in its way may go.
pub record HasWay (path : Bytes) (tree : Tree) : Type 0 where
  pub above : NoFileAbove path tree
  pub below : NoFileBelow path tree

-- each place above the path is a folder
abbrev pub HasFoldersAbove : Bytes → Tree → Type 0
HasFoldersAbove path tree =
    (place : Bytes) → IsAbove place path → IsTrue (is_folder (node_at tree place))

-- each folder is still there
abbrev pub KeepsFolders : Tree → Tree → Type 0
KeepsFolders old new =
    (place : Bytes) → IsTrue (is_folder (node_at old place))
    → IsTrue (is_folder (node_at new place))

-- each folder was there before, or is this one
abbrev pub OneFolderMore : Bytes → Tree → Tree → Type 0
OneFolderMore made old new =
    (place : Bytes) → get new place ≡ Some folder → (get old place ≡ Some folder) ⊎ (place ≡ made)

-- each folder was there before, or is above the path
abbrev pub FoldersAbove : Bytes → Tree → Tree → Type 0
FoldersAbove path old new =
    (place : Bytes) → get new place ≡ Some folder
    → (get old place ≡ Some folder) ⊎ IsAbove place path

-- Each file is as before, no folder came, and none went but the one at this path and those below
-- it.
pub record ClearsWay (path : Bytes) (old new : Tree) : Type 0 where
  pub files : SameFiles old new
  pub folders : (place : Bytes) → get new place ≡ Some folder → get old place ≡ Some folder
  pub others : (place : Bytes) → get old place ≡ Some folder
      → (get new place ≡ Some folder) ⊎ (place ≡ path) ⊎ IsAbove path place

-- the place is this path, or below it
abbrev pub IsAtOrBelow : Bytes → Bytes → Type 0
IsAtOrBelow path place = (place ≡ path) ⊎ IsAbove path place

-- each folder is still there, except perhaps the one at this path and those below it
abbrev pub KeepsOtherFolders : Bytes → Tree → Tree → Type 0
KeepsOtherFolders path old new =
    (place : Bytes) → IsTrue (is_folder (node_at old place))
    → IsTrue (is_folder (node_at new place)) ⊎ IsAtOrBelow path place

-- a folder is here
abbrev pub IsFolderAt : Bytes → Tree → Type 0
IsFolderAt place tree = IsTrue (is_folder (node_at tree place))

-- A folder came only above one of these paths, and went only at one of them or below.
pub record FoldersOnlyOf (paths : List Bytes) (old new : Tree) : Type 0 where
  pub came : (place : Bytes) → get new place ≡ Some folder
      → (get old place ≡ Some folder) ⊎ ((path : Bytes) × Contains paths path × IsAbove place path)
  pub went : (place : Bytes) → IsFolderAt place old
      → IsFolderAt place new ⊎ ((path : Bytes) × Contains paths path × IsAtOrBelow path place)

-- ---- a file that is made anew

-- What exists at each other path is as before, and no folder came or went at this one.
pub record ChangesOneFile (path : Bytes) (old new : Tree) : Type 0 where
  pub others : (other : Bytes) → other ≢ path → get new other ≡ get old other
  pub here : is_folder (get new path) ≡ is_folder (get old path)

-- ---- files in the way

-- whether a file is where the path needs a folder
abbrev pub TellsAbove : Bytes → Tree → Bool → Type 0
TellsAbove path tree true = (place : Bytes) × IsAbove place path × IsTrue (is_file_at tree place)
TellsAbove path tree false = NoFileAbove path tree

-- whether a file is below the path
abbrev pub TellsBelow : Bytes → Tree → Bool → Type 0
TellsBelow path tree true = (other : Bytes) × IsAbove path other × IsTrue (is_file_at tree other)
TellsBelow path tree false = NoFileBelow path tree
