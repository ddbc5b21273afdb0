-- The names that each command moves or removes, if no cause holds.
use Rattle.std.specs.Prelude.{◌≡◌, [], ◌∷◌, map, Option, Some, None}
use Rattle.history_model.specs.Bytes.{Bytes}
use Rattle.history_model.specs.Repository.{Repository}
use Rattle.history_model.specs.Commands.{Commit, CommitCommand, Tag, TagCommand, Move, MoveCommand, To, Rename, Delete}
use Rattle.history_model.specs.Causes.{first_cause}
use Rattle.history_model.specs.laws.Wholeness.{IsSound}
use Rattle.history_layout.specs.OneNameSteps.{NameMove, commit_move, tag_move, entry_of_move}
use Rattle.history_layout.specs.MoveSteps.{line_entry}
use Rattle.history_layout.specs.EditSteps.{MovedName, AreEditsOf, renamed}

-- the moved name of a command that moves one
abbrev pub moved_by : Repository → NameMove → MovedName
moved_by r move = record { name = move.name; entry = entry_of_move r move }

abbrev pub CommitsEdit : Type 0
CommitsEdit =
    (r : Repository) (c : CommitCommand) → IsSound r → first_cause r (Commit c) ≡ None
    → AreEditsOf r (Commit c) (moved_by r (commit_move r c) ∷ []) None

abbrev pub TagsEdit : Type 0
TagsEdit =
    (r : Repository) (c : TagCommand) → IsSound r → first_cause r (Tag c) ≡ None
    → AreEditsOf r (Tag c) (moved_by r (tag_move r c) ∷ []) None

-- the name of a line of a move
abbrev pub moved_on : Repository → MoveCommand → To → MovedName
moved_on r c to = record { name = to.name; entry = line_entry r c to }

abbrev pub MovesEdit : Type 0
MovesEdit =
    (r : Repository) (c : MoveCommand) → IsSound r → first_cause r (Move c) ≡ None
    → AreEditsOf r (Move c) (map (moved_on r c) c.to) None

abbrev pub RenamesEdit : Type 0
RenamesEdit =
    (r : Repository) (from to : Bytes) → IsSound r → first_cause r (Rename from to) ≡ None
    → AreEditsOf r (Rename from to) (renamed r from to ∷ []) (Some from)

abbrev pub DeletesEdit : Type 0
DeletesEdit =
    (r : Repository) (name : Bytes) (at : Option Bytes) → IsSound r
    → first_cause r (Delete name at) ≡ None → AreEditsOf r (Delete name at) [] (Some name)
