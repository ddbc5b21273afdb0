-- What accepted commands do to the files of the names part, and which reply reports a failed call.
use Rattle.std.specs.Prelude.{◌≡◌, ◌≢◌, ⊤, List, ◌∷◌, IsFalse}
use Rattle.gix_ref_file.specs.History.{History}
use Rattle.gix_ref_file.specs.Tree.{Tree}
use Rattle.history_model.specs.Bytes.{Bytes}
use Rattle.history_model.specs.Commands.{Command, Commit, Delete, Pack, Rename, Switch, Tag}
use Rattle.history_model.specs.Moments.{CountsStay, Moment, StoodAt}
use Rattle.history_model.specs.Places.{file_at, head_place, is_lock_file, log_place, packed_place}
use Rattle.history_model.specs.Replies.{Committed, Deleted, Faulted, Packed, Renamed, Reply, Switched, Tagged}
use Rattle.history_model.specs.Steps.{next}
use Rattle.history_layout.specs.OneNameSteps.{commit_move, tag_move}
use Rattle.history_layout.specs.PackSteps.{PacksNames}
use Rattle.history_model.specs.Repository as plain
use Rattle.history_model.specs.declared.Fault.TheVariants.{File}

-- each file but HEAD's is as before; of lock files nothing is said
abbrev pub ChangesHeadAlone : Tree → Tree → Type 0
ChangesHeadAlone old new = (path : Bytes) → path ≢ head_place → IsFalse (is_lock_file path)
    → file_at new path ≡ file_at old path

-- each file but the name's and its log is as before
abbrev pub ChangesNameAlone : Bytes → Tree → Tree → Type 0
ChangesNameAlone name old new = (path : Bytes) → path ≢ name → path ≢ log_place name
    → file_at new path ≡ file_at old path

-- so is each but these two and `packed-refs`
abbrev pub TakesNameAlone : Bytes → Tree → Tree → Type 0
TakesNameAlone name old new = (path : Bytes) → path ≢ name → path ≢ log_place name
    → path ≢ packed_place → file_at new path ≡ file_at old path

-- so is each but those of two names and `packed-refs`
abbrev pub RenamesAlone : Bytes → Bytes → Tree → Tree → Type 0
RenamesAlone from to old new = (path : Bytes) → path ≢ to → path ≢ log_place to → path ≢ from
    → path ≢ log_place from → path ≢ packed_place → file_at new path ≡ file_at old path

-- ---- in a run

-- The names part went from the tree at one moment to the one at another.
pub record GoesBetween (names : History) (begin finish : Moment) (Goes : Tree → Tree → Type 0)
    : Type 0 where
  pub old : Tree
  pub new : Tree
  pub begins : StoodAt names begin.names old
  pub ends : StoodAt names finish.names new
  pub goes : Goes old new

-- Between its two moments a command with an accepting reply did so.
abbrev pub ChangesAsSaid : History → plain.Repository → Moment → Command → Reply → Moment → Type 0
ChangesAsSaid names r begin (Commit c) (Committed id) finish =
    GoesBetween names begin finish (ChangesNameAlone (commit_move r c).name)
ChangesAsSaid names r begin (Tag c) (Tagged id) finish =
    GoesBetween names begin finish (ChangesNameAlone (tag_move r c).name)
ChangesAsSaid names r begin (Rename from to) Renamed finish =
    GoesBetween names begin finish (RenamesAlone from to)
ChangesAsSaid names r begin (Delete name at) Deleted finish =
    GoesBetween names begin finish (TakesNameAlone name)
ChangesAsSaid names r begin (Switch name) Switched finish =
    GoesBetween names begin finish ChangesHeadAlone
ChangesAsSaid names r begin Pack Packed finish = GoesBetween names begin finish (PacksNames r)
ChangesAsSaid names r begin command reply finish = ⊤

-- A failed call that was counted is reported as `fault File`: with another reply both parts count
-- as many as before.
abbrev pub CountsAsSaid : Moment → Reply → Moment → Type 0
CountsAsSaid begin reply finish = reply ≢ Faulted File → CountsStay begin finish

-- Both hold of a command with this reply, between its two moments.
abbrev pub LeavesAsSaid : History → plain.Repository → Moment → Command → Reply → Moment → Type 0
LeavesAsSaid names r begin command reply finish =
    ChangesAsSaid names r begin command reply finish × CountsAsSaid begin reply finish

-- They hold of each of these commands, from this repository on; at each of these moments one ends
-- and the next begins.
abbrev pub AllLeaveAsSaid : History → plain.Repository → Moment → List Command → List Reply
    → List Moment → Type 0
AllLeaveAsSaid names r begin (command ∷ commands) (reply ∷ replies) (finish ∷ moments) =
    LeavesAsSaid names r begin command reply finish
    × AllLeaveAsSaid names (next r command reply) finish commands replies moments
AllLeaveAsSaid names r begin _ _ _ = ⊤
