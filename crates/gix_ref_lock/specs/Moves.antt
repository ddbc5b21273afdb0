-- Moves of several references, and the paths that they concern.
use Rattle.std.specs.Prelude.{◌≡◌, ◌≢◌, ⊤, List, [], ◌∷◌, map, IsTrue}
use Rattle.std.specs.List.{AllByRecursion}
use Rattle.gix_ref_file.specs.Changes.{is_file_at}
use Rattle.gix_ref_file.specs.Tree.{Tree}
use Rattle.gix_ref_way.specs.Ways.{Bytes, file_at}
use Rattle.gix_ref_lock.specs.Contents.{Contents, contents, place_of, lock_path_of, log_path_of}
use Rattle.gix_ref_lock.specs.declared.act.Act.{Act}
use Rattle.gix_ref_lock.specs.declared.act.Move.{Move}

-- the paths of one, and of all
abbrev pub paths_of : Move → List Bytes
paths_of m = place_of m ∷ lock_path_of m ∷ log_path_of m ∷ []

abbrev pub all_paths : List Move → List Bytes
all_paths [] = []
all_paths (m ∷ ms) = place_of m ∷ lock_path_of m ∷ log_path_of m ∷ all_paths ms

abbrev pub lock_paths : List Move → List Bytes
lock_paths moves = map lock_path_of moves

-- the locks of all moves exist
abbrev pub LocksHeld : List Move → Tree → Type 0
LocksHeld moves tree = AllByRecursion (λ m. IsTrue (is_file_at tree (lock_path_of m))) moves

-- the path is none of these
abbrev pub IsNone : Bytes → List Bytes → Type 0
IsNone path paths = AllByRecursion (λ other. path ≢ other) paths

-- each of these paths occurs once
abbrev pub Once : List Bytes → Type 0
Once [] = ⊤
Once (path ∷ paths) = IsNone path paths × Once paths

-- Each move has made its act on its files, and each other file is as before.
pub record AllHave (act : Act → Contents → Contents) (moves : List Move)
    (old new : Tree) : Type 0 where
  pub each : AllByRecursion (λ m. contents m new ≡ act m.act (contents m old)) moves
  pub others : (path : Bytes) → IsNone path (all_paths moves) → file_at new path ≡ file_at old path

-- The files of each move are related so to what they were, and each other file is as before.
pub record AllMay (Rel : Act → Contents → Contents → Type 0) (moves : List Move)
    (old new : Tree) : Type 0 where
  pub each : AllByRecursion (λ m. Rel m.act (contents m old) (contents m new)) moves
  pub others : (path : Bytes) → IsNone path (all_paths moves) → file_at new path ≡ file_at old path
