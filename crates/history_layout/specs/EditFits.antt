-- When the names of a command can be moved, and one of them removed, in one transaction.
use Rattle.std.specs.Prelude.{◌≡◌, ◌⊎◌, ⊤, List, [], ◌∷◌, map, bytes_eq, Option, Some, None, unwrap_or, Contains, IsTrue, IsFalse}
use Rattle.std.specs.List.{AllByRecursion}
use Rattle.gix_hash.specs.Id.{null_id}
use Rattle.history_model.specs.Bytes.{Bytes, has_twice}
use Rattle.history_model.specs.Repository.{Repository, id_at, stands}
use Rattle.history_model.specs.Forms.{is_log_entry, is_name}
use Rattle.history_model.specs.Commands.{Commit, CommitCommand, Tag, TagCommand, Move, MoveCommand, Rename, Delete}
use Rattle.history_model.specs.Causes.{do_collide, first_cause}
use Rattle.history_model.specs.laws.Wholeness.{IsSound}
use Rattle.history_layout.specs.OneNameSteps.{commit_move, tag_move}
use Rattle.history_layout.specs.CommandEdits.{moved_by, moved_on}
use Rattle.history_layout.specs.EditSteps.{MovedName, edited_names, moved_name, renamed}

-- The entry is of a move of this name, from what it holds; the null id if it doesn't exist.
pub record IsNextEntry (r : Repository) (m : MovedName) : Type 0 where
  pub formed : IsTrue (is_log_entry r.kind m.entry)
  pub before : m.entry.before ≡ unwrap_or (id_at r m.name) (null_id r.kind)

-- if a name is removed, it exists
abbrev pub MayStand : Repository → Option Bytes → Type 0
MayStand r None = ⊤
MayStand r (Some name) = IsTrue (stands r name)

-- These names can move, and that one can be removed: each is a name and occurs once, none that moves
-- is a folder of another or below one, of those that exist and of these, and their entries come
-- next.
pub record CanBeEdited (r : Repository) (moved : List MovedName) (taken : Option Bytes)
    : Type 0 where
  pub named : AllByRecursion (λ name. IsTrue (is_name name)) (edited_names moved taken)
  pub once : IsFalse (has_twice bytes_eq (edited_names moved taken))
  pub apart : (name other : Bytes) → Contains (map moved_name moved) name
      → IsTrue (stands r other) ⊎ Contains (edited_names moved taken) other
      → IsFalse (do_collide name other)
  pub each : AllByRecursion (IsNextEntry r) moved
  pub gone : MayStand r taken

-- So it is of each command of which no cause holds.
abbrev pub CommitsCanBeEdited : Type 0
CommitsCanBeEdited =
    (r : Repository) (c : CommitCommand) → IsSound r → first_cause r (Commit c) ≡ None
    → CanBeEdited r (moved_by r (commit_move r c) ∷ []) None

abbrev pub TagsCanBeEdited : Type 0
TagsCanBeEdited =
    (r : Repository) (c : TagCommand) → IsSound r → first_cause r (Tag c) ≡ None
    → CanBeEdited r (moved_by r (tag_move r c) ∷ []) None

abbrev pub MovesCanBeEdited : Type 0
MovesCanBeEdited =
    (r : Repository) (c : MoveCommand) → IsSound r → first_cause r (Move c) ≡ None
    → CanBeEdited r (map (moved_on r c) c.to) None

abbrev pub RenamesCanBeEdited : Type 0
RenamesCanBeEdited =
    (r : Repository) (from to : Bytes) → IsSound r → first_cause r (Rename from to) ≡ None
    → CanBeEdited r (renamed r from to ∷ []) (Some from)

abbrev pub DeletesCanBeEdited : Type 0
DeletesCanBeEdited =
    (r : Repository) (name : Bytes) (at : Option Bytes) → IsSound r
    → first_cause r (Delete name at) ≡ None → CanBeEdited r [] (Some name)
