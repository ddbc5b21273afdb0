-- The step of a switch on the tree of names: HEAD is written anew, to a lock file that is then
-- renamed to its place.
use Rattle.std.specs.Prelude.{◌≡◌, ◌≢◌, ◌⊎◌, Some, None, IsTrue, IsFalse}
use Rattle.std.specs.FinMap.{get}
use Rattle.gix_ref_file.specs.Tree.{Tree, folder}
use Rattle.history_model.specs.Bytes.{Bytes}
use Rattle.history_model.specs.Repository.{Repository}
use Rattle.history_model.specs.Commands.{Switch}
use Rattle.history_model.specs.Meaning.{after}
use Rattle.history_model.specs.Causes.{first_cause}
use Rattle.history_model.specs.Places.{Pair, file_at, head_place, is_lock_file, is_name_folder}
use Rattle.history_model.specs.StandsFor.{StandsFor, head_text}
use Rattle.history_model.specs.laws.Wholeness.{IsSound}
use Rattle.history_layout.specs.TreeHalves.{HoldsNames}
use Rattle.history_layout.specs.Passing.{HoldsBetween}

-- HEAD names this branch, each other file is as before, and there are no folders but those of names
-- and logs.
pub record NamesBranch (branch : Bytes) (old new : Tree) : Type 0 where
  pub here : file_at new head_place ≡ Some (head_text branch)
  pub others : (path : Bytes) → path ≢ head_place → file_at new path ≡ file_at old path
  pub folders : (path : Bytes) → get new path ≡ Some folder → IsTrue (is_name_folder path)

-- The tree then holds the names after the switch.
abbrev pub SwitchesStand : Type 0
SwitchesStand =
    (old new : Tree) (r : Repository) (name : Bytes) → HoldsNames old r → NamesBranch name old new
    → HoldsNames new (after r (Switch name))

-- The tree meanwhile: HEAD is as before, or names the branch, whole. Of the other files only lock
-- files may differ, and there are no folders but those of names and logs.
pub record HeadOnTheWay (branch : Bytes) (old tree : Tree) : Type 0 where
  pub here : (file_at tree head_place ≡ file_at old head_place)
      ⊎ (file_at tree head_place ≡ Some (head_text branch))
  pub others : (path : Bytes) → path ≢ head_place → IsFalse (is_lock_file path)
      → file_at tree path ≡ file_at old path
  pub folders : (path : Bytes) → get tree path ≡ Some folder → IsTrue (is_name_folder path)

-- So HEAD's branch is as before the switch or as after it, and each name as before.
abbrev pub SwitchesPass : Type 0
SwitchesPass =
    (pair : Pair) (tree : Tree) (r : Repository) (name : Bytes) → IsSound r
    → StandsFor r.kind pair r → first_cause r (Switch name) ≡ None
    → HeadOnTheWay name pair.names tree → HoldsBetween r (Switch name) tree
