-- Laws of folders: what recovery keeps, and what a new one represents.
use Rattle.std.specs.Prelude.{◌≡◌, None, option_map, if◌then◌else◌, Some, IsTrue, bytes_eq}
use Rattle.gix_ref_file.specs.Tree.{Tree, folder, file}
use Rattle.history_model.specs.Bytes.{Bytes}
use Rattle.history_model.specs.Repository.{Repository, fresh, first_branch}
use Rattle.history_model.specs.Places.{Pair, file_at, is_log_place, is_object_folder, head_place, is_name_folder}
use Rattle.history_model.specs.StandsFor.{StandsFor, StandsWhole, head_text}
use Rattle.history_model.specs.NameStates.{name_state}
use Rattle.history_model.specs.Recovery.{recovered, recovered_names, is_leftover}
use Rattle.history_model.specs.Logs.{whole_lines}
use Rattle.gix_hash.specs.declared.kind.Kind.{Kind}
use Rattle.std.specs.FinMap.{get, empty, insert}

-- A new folder has only the file HEAD, and only folders that a repository may have.
pub record IsFresh (pair : Pair) : Type 0 where
  pub objects : (path : Bytes) → file_at pair.objects path ≡ None
  pub object_folders : (path : Bytes) → get pair.objects path ≡ Some folder
      → IsTrue (is_object_folder path)
  pub names : (path : Bytes)
      → file_at pair.names path
      ≡ (if bytes_eq path head_place then Some (head_text first_branch) else None)
  pub folders : (path : Bytes) → get pair.names path ≡ Some folder → IsTrue (is_name_folder path)

-- the smallest one
abbrev pub fresh_pair : Pair
fresh_pair =
    record { objects = empty; names = insert empty head_place (file (head_text first_branch)) }

-- At each path of the names part recovery leaves the file that was there, but no leftovers, and
-- only the whole lines of a log.
abbrev pub RecoveryKeeps : Type 0
RecoveryKeeps =
    (kind : Kind) (tree : Tree) (path : Bytes) → file_at (recovered_names kind tree) path
    ≡ (if is_leftover kind tree path then None
    else option_map (λ text. if is_log_place path then whole_lines text else text)
    (file_at tree path))

-- Recovery changes no name's state.
abbrev pub RecoveryReads : Type 0
RecoveryReads =
    (kind : Kind) (tree : Tree) (name : Bytes)
    → name_state kind (recovered_names kind tree) name ≡ name_state kind tree name

-- Recovering twice is the same as recovering once.
abbrev pub RecoveryEnds : Type 0
RecoveryEnds =
    (kind : Kind) (pair : Pair) → recovered kind (recovered kind pair) ≡ recovered kind pair

-- A pair that represents a repository still does when it is recovered.
abbrev pub RecoveredStands : Type 0
RecoveredStands =
    (kind : Kind) (pair : Pair) (r : Repository) → StandsFor kind pair r
    → StandsFor kind (recovered kind pair) r

-- It represents the repository without names and objects, which is whole.
abbrev pub FreshStands : Type 0
FreshStands = (kind : Kind) (pair : Pair) → IsFresh pair → StandsWhole kind pair (fresh kind)
