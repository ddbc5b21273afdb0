-- The places of files, as gitrepository-layout(5) has them, in the two parts of a repository's
-- folder.
use Rattle.std.specs.Prelude.{ℕ, Bool, ◌&&◌, ◌||◌, not, ◌∷◌, ◌++◌, length, take, drop, ◌==◌, Option, bytes_eq, codes}
use Rattle.std.specs.List.{list_any, list_all}
use Rattle.gix_ref_file.specs.Tree.{Tree, node_at, bytes_of}
use Rattle.history_model.specs.Bytes.{Bytes, begins, ends}
use Rattle.history_model.specs.FileMap.{is_within}
use Rattle.history_model.specs.Objects.{hex}
use Rattle.gix_hash.specs.Id.{Id}
use Rattle.history_model.specs.Repository.{Repository, stands}
use Rattle.history_model.specs.Words.{head_word}

-- The objects part has all below `objects`, the names part all else. Paths in both begin at the
-- repository's folder.
pub record Pair : Type 0 where
  pub objects : Tree
  pub names : Tree

-- the bytes of the file at a path, if there is one
abbrev pub file_at : Tree → Bytes → Option Bytes
file_at tree path = bytes_of (node_at tree path)

-- ---- the objects part

-- a folder named by the id's first two digits, and in it a file named by the others
abbrev pub object_place : Id → Bytes
object_place id = codes "objects/" ++ take 2 (hex id) ++ 47 ∷ drop 2 (hex id)

-- the file in which an object is written before it is renamed to its place
abbrev pub unfinished_place : Bytes
unfinished_place = codes "objects/unfinished"

abbrev pub is_lower_hex : ℕ → Bool
is_lower_hex b = list_any (λ c. c == b) (codes "0123456789abcdef")

-- `objects` or `objects/xx`
abbrev pub is_object_folder : Bytes → Bool
is_object_folder path = bytes_eq path (codes "objects")
    || (begins (codes "objects/") path && length path == 10 && list_all is_lower_hex (drop 8 path))

-- ---- the names part

abbrev pub head_place : Bytes
head_place = head_word

abbrev pub packed_place : Bytes
packed_place = codes "packed-refs"

abbrev pub log_place : Bytes → Bytes
log_place name = codes "logs/" ++ name

abbrev pub is_log_place : Bytes → Bool
is_log_place path = begins (codes "logs/") path

-- the name that a log belongs to
abbrev pub log_name : Bytes → Bytes
log_name path = drop 5 path

-- `HEAD`, `packed-refs`, an existing name, or the log of one
abbrev pub is_name_place : Repository → Bytes → Bool
is_name_place r path =
    bytes_eq path head_place || bytes_eq path packed_place || stands r path
    || (is_log_place path && stands r (log_name path))

-- a file that is written before it is renamed to its place
abbrev pub is_lock_file : Bytes → Bool
is_lock_file path = ends (codes ".lock") path

-- `refs`, `logs` and all below them, except the paths of lock files
abbrev pub is_name_folder : Bytes → Bool
is_name_folder path =
    (is_within (codes "refs") path || is_within (codes "logs") path) && not (is_lock_file path)
