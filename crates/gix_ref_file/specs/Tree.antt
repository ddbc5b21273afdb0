-- A tree of files, and what its readings return.
use Rattle.std.specs.Prelude.{◌≡◌, ⊤, ℕ, Bool, true, false, not, ◌&&◌, ◌==◌, nat_le, nat_lt, List, [], ◌∷◌, ◌++◌, length, take, drop, unwrap_or, Option, Some, None, filter_map, if◌then◌else◌, IsSome, IsTrue}
use Rattle.std.specs.List.{AllByRecursion, list_all, list_any, slice_split, before_last, after_last}
use Rattle.std.specs.Ordering.{nat_cmp, eq_by_cmp}
use Rattle.std.specs.declared.cmp.Ordering.{Ordering}
use Rattle.std.specs.declared.cmp.Ordering.TheVariants.{Less}
use Rattle.std.specs.Cmp.Lexicographic.{slice_cmp}
use Rattle.std.specs.FinMap.{FinMap, get, keys}
use Rattle.std.specs.Str.{bytes_eq}
use Rattle.gix_ref_file.specs.declared.files.Place.{Place}
use Rattle.gix_ref_file.specs.declared.files.Place.TheVariants.{Absent, File, Folder}

-- a file of these bytes, or a folder
pub data Node : Type 0 where
  file : List ℕ → Node
  folder : Node

-- paths are ordered by their bytes
abbrev pub path_cmp : List ℕ → List ℕ → Ordering
path_cmp = slice_cmp nat_cmp

-- whether two paths are one
abbrev pub same_path : List ℕ → List ℕ → Bool
same_path = eq_by_cmp path_cmp

-- what is at each path, except the root, which is always a folder
abbrev pub Tree : Type 0
Tree = FinMap path_cmp Node

-- the byte `/`
abbrev pub is_slash : ℕ → Bool
is_slash byte = byte == 47

-- a component of a path: it has a byte, isn't `.` or `..`, and holds no zero byte
abbrev pub is_component : List ℕ → Bool
is_component part =
    nat_lt 0 (length part) && not (bytes_eq part (46 ∷ [])) && not (bytes_eq part (46 ∷ 46 ∷ []))
    && not (list_any (λ byte. byte == 0) part)

-- the most bytes of a path
abbrev pub max_path : ℕ
max_path = 4096

-- a path: at most so many bytes, components with slashes between
abbrev pub is_path : List ℕ → Bool
is_path path = nat_le (length path) max_path && list_all is_component (slice_split is_slash path)

-- the folder that a path is in
abbrev pub parent : List ℕ → List ℕ
parent path = before_last is_slash path

-- the path, from the root, of a path in a folder; the root's path is empty
abbrev pub under : List ℕ → List ℕ → List ℕ
under [] path = path
under (byte ∷ place) path = (byte ∷ place) ++ 47 ∷ path

-- what is at a path; the root's path is empty, and is a folder
abbrev pub node_at : Tree → List ℕ → Option Node
node_at tree [] = Some folder
node_at tree (byte ∷ path) = get tree (byte ∷ path)

-- the bytes of a file
abbrev pub bytes_of : Option Node → Option (List ℕ)
bytes_of (Some (file bytes)) = Some bytes
bytes_of (Some folder) = None
bytes_of None = None

-- the bytes at a path, none if it has no file
abbrev pub bytes_at : Tree → List ℕ → List ℕ
bytes_at tree path = unwrap_or (bytes_of (node_at tree path)) []

-- whether there is a folder
abbrev pub is_folder : Option Node → Bool
is_folder (Some (file bytes)) = false
is_folder (Some folder) = true
is_folder None = false

-- what `kind_of` returns
abbrev pub place_of : Option Node → Place
place_of (Some (file bytes)) = File (length bytes)
place_of (Some folder) = Folder
place_of None = Absent

-- the last part of a path, if it is a child of this folder
abbrev pub name_in : List ℕ → List ℕ → Option (List ℕ)
name_in place path = if same_path (parent path) place then Some (after_last is_slash path) else None

-- the names in a folder, in order, none if there is no folder
abbrev pub names_at : Tree → List ℕ → List (List ℕ)
names_at tree place =
    if is_folder (node_at tree place) then filter_map (name_in place) (keys tree) else []

-- each path, or name, comes before those after it
abbrev pub IsAscending : List (List ℕ) → Type 0
IsAscending [] = ⊤
IsAscending (path ∷ paths) =
    AllByRecursion (λ later. path_cmp path later ≡ Less) paths × IsAscending paths

-- the bytes from a place on, at most so many
abbrev pub part : List ℕ → ℕ → ℕ → List ℕ
part bytes at most = take most (drop at bytes)

-- a buffer after bytes are put in at its beginning
abbrev pub overwritten : List ℕ → List ℕ → List ℕ
overwritten buffer bytes = bytes ++ drop (length bytes) buffer

-- each path of the tree is one, in a folder
abbrev pub IsRooted : Tree → Type 0
IsRooted tree =
    (path : List ℕ) → IsSome (get tree path)
    → IsTrue (is_path path) × IsTrue (is_folder (node_at tree (parent path)))
