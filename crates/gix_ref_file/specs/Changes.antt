-- The changes of a tree, and what each leaves.
use Rattle.std.specs.Prelude.{◌≡◌, ◌⊎◌, ℕ, Bool, ◌&&◌, ◌||◌, not, List, [], ◌∷◌, ◌++◌, length, nat_le, take, is_some, is_none, if◌then◌else◌, IsTrue}
use Rattle.std.specs.List.{list_any}
use Rattle.std.specs.FinMap.{insert, remove, keys}
use Rattle.gix_ref_file.specs.Tree.{Tree, file, folder, is_path, same_path, parent, node_at, bytes_of, bytes_at, is_folder}

-- a change, with the paths that it names, and the bytes that it brings or how many it leaves
pub data Change : Type 0 where
  to_create : List ℕ → List ℕ → Change
  to_write : List ℕ → List ℕ → Change
  to_append : List ℕ → List ℕ → Change
  to_shorten : List ℕ → ℕ → Change
  to_rename : List ℕ → List ℕ → Change
  to_remove_file : List ℕ → Change
  to_make_folder : List ℕ → Change
  to_remove_folder : List ℕ → Change

-- the paths that a change names
abbrev pub paths_of : Change → List (List ℕ)
paths_of (to_create path bytes) = path ∷ []
paths_of (to_write path bytes) = path ∷ []
paths_of (to_append path bytes) = path ∷ []
paths_of (to_shorten path count) = path ∷ []
paths_of (to_rename from to) = from ∷ to ∷ []
paths_of (to_remove_file path) = path ∷ []
paths_of (to_make_folder path) = path ∷ []
paths_of (to_remove_folder path) = path ∷ []

-- whether a file is at a path
abbrev pub is_file_at : Tree → List ℕ → Bool
is_file_at tree path = is_some (bytes_of (node_at tree path))

-- whether a path may hold a file: it is a path, in a folder, and no folder itself
abbrev pub may_hold_file : Tree → List ℕ → Bool
may_hold_file tree path =
    is_path path && is_folder (node_at tree (parent path)) && not (is_folder (node_at tree path))

-- this path has no child
abbrev pub is_empty_at : Tree → List ℕ → Bool
is_empty_at tree place = not (list_any (λ path. same_path (parent path) place) (keys tree))

-- whether the tree allows a change
abbrev pub allows : Tree → Change → Bool
allows tree (to_create path bytes) = is_some (node_at tree path) || may_hold_file tree path
allows tree (to_write path bytes) = may_hold_file tree path
allows tree (to_append path bytes) = may_hold_file tree path
allows tree (to_shorten path count) =
    is_file_at tree path && nat_le count (length (bytes_at tree path))
allows tree (to_rename from to) = is_file_at tree from && may_hold_file tree to
allows tree (to_remove_file path) = is_file_at tree path
allows tree (to_make_folder path) = is_none (node_at tree path) && may_hold_file tree path
allows tree (to_remove_folder path) =
    is_path path && is_folder (node_at tree path) && is_empty_at tree path

-- the tree after a change that it allows
abbrev pub after : Change → Tree → Tree
after (to_create path bytes) tree =
    if is_some (node_at tree path) then tree else insert tree path (file bytes)
after (to_write path bytes) tree = insert tree path (file bytes)
after (to_append path bytes) tree = insert tree path (file (bytes_at tree path ++ bytes))
after (to_shorten path count) tree = insert tree path (file (take count (bytes_at tree path)))
after (to_rename from to) tree = insert (remove tree from) to (file (bytes_at tree from))
after (to_remove_file path) tree = remove tree path
after (to_make_folder path) tree = insert tree path folder
after (to_remove_folder path) tree = remove tree path

-- of what a change writes, its first n bytes
abbrev pub cut : ℕ → Change → Change
cut n (to_create path bytes) = to_create path (take n bytes)
cut n (to_write path bytes) = to_write path (take n bytes)
cut n (to_append path bytes) = to_append path (take n bytes)
cut n (to_shorten path count) = to_shorten path count
cut n (to_rename from to) = to_rename from to
cut n (to_remove_file path) = to_remove_file path
cut n (to_make_folder path) = to_make_folder path
cut n (to_remove_folder path) = to_remove_folder path

-- what a change leaves, that is made, fails or is stopped: the tree as it was, or as after any
-- beginning of the bytes
abbrev pub MayLeave : Change → Tree → Tree → Type 0
MayLeave change old new =
    (new ≡ old) ⊎ ((n : ℕ) × IsTrue (allows old change) × (new ≡ after (cut n change) old))
