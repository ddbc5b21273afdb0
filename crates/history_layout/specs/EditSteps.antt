-- The steps of a transaction on the tree of names: names move, in any order between them, and then
-- one name may go.
use Rattle.std.specs.Prelude.{◌≡◌, ◌≢◌, ◌⊎◌, ℕ, ⊤, not, List, [], ◌∷◌, ◌++◌, map, take, bytes_eq, Option, Some, None, IsTrue, IsFalse}
use Rattle.std.specs.List.{AllByRecursion, list_any}
use Rattle.std.specs.Option.{option_to_list}
use Rattle.std.specs.FinMap.{get}
use Rattle.gix_ref_file.specs.Tree.{Tree, folder, bytes_at}
use Rattle.gix_hash.specs.declared.kind.Kind.{Kind}
use Rattle.history_model.specs.Bytes.{Bytes, line}
use Rattle.history_model.specs.Objects.{hex}
use Rattle.history_model.specs.Repository.{Repository, LogEntry, id_at, moves_at}
use Rattle.history_model.specs.Forms.{is_name}
use Rattle.history_model.specs.Commands.{Command, Rename}
use Rattle.history_model.specs.Meaning.{after}
use Rattle.history_model.specs.Causes.{first_cause}
use Rattle.history_model.specs.Logs.{log_line}
use Rattle.history_model.specs.Stops.{deletes}
use Rattle.history_model.specs.Places.{Pair, file_at, packed_place, log_place, is_lock_file, is_name_folder}
use Rattle.history_model.specs.StandsFor.{StandsFor}
use Rattle.history_model.specs.laws.Wholeness.{IsSound}
use Rattle.history_layout.specs.TreeHalves.{HoldsNames}
use Rattle.history_layout.specs.Passing.{NamesOnTheWay}
use Rattle.history_layout.specs.RenameSteps.{held_id, rename_entry}
use Rattle.history_layout.specs.TakeSteps.{TakesRecord}

-- a name that moves, and the new entry of its log
pub record MovedName : Type 0 where
  pub name : Bytes
  pub entry : LogEntry

abbrev pub moved_name : MovedName → Bytes
moved_name m = m.name

-- The file is as before; or it holds the id after, whole, once the log has the entry's line (unless
-- the entry's two ids are equal). A beginning of the line may follow what the log held.
pub record NameMoves (old tree : Tree) (m : MovedName) : Type 0 where
  pub here : (file_at tree m.name ≡ file_at old m.name)
      ⊎ ((file_at tree m.name ≡ Some (line (hex m.entry.after)))
      × (m.entry.before ≢ m.entry.after
      → file_at tree (log_place m.name)
      ≡ Some (bytes_at old (log_place m.name) ++ log_line m.entry)))
  pub log : (file_at tree (log_place m.name) ≡ file_at old (log_place m.name))
      ⊎ ((m.entry.before ≢ m.entry.after)
      × ((n : ℕ)
      × (file_at tree (log_place m.name)
      ≡ Some (bytes_at old (log_place m.name) ++ take n (log_line m.entry)))))

-- the name's file holds the id after
abbrev pub ShowsMove : Tree → MovedName → Type 0
ShowsMove tree m = file_at tree m.name ≡ Some (line (hex m.entry.after))

-- The log of the name that goes is as before or gone; its record may be gone only if the log is,
-- and its file only if the record is too. Nothing of it goes before all moves are made.
pub record NameGoes (kind : Kind) (moved : List MovedName) (name : Bytes) (old tree : Tree)
    : Type 0 where
  pub log : (file_at tree (log_place name) ≡ file_at old (log_place name))
      ⊎ (file_at tree (log_place name) ≡ None)
  pub packed : (file_at tree packed_place ≡ file_at old packed_place)
      ⊎ ((file_at tree (log_place name) ≡ None) × TakesRecord kind name old tree)
  pub here : (file_at tree name ≡ file_at old name)
      ⊎ ((file_at tree name ≡ None) × (file_at tree (log_place name) ≡ None)
      × TakesRecord kind name old tree)
  pub order : ((file_at tree (log_place name) ≡ file_at old (log_place name))
      × (file_at tree packed_place ≡ file_at old packed_place)
      × (file_at tree name ≡ file_at old name))
      ⊎ AllByRecursion (ShowsMove tree) moved

-- if none goes, packed records are as before
abbrev pub MayGo : Kind → List MovedName → Option Bytes → Tree → Tree → Type 0
MayGo kind moved None old tree = file_at tree packed_place ≡ file_at old packed_place
MayGo kind moved (Some name) old tree = NameGoes kind moved name old tree

-- the names of such a transaction
abbrev pub edited_names : List MovedName → Option Bytes → List Bytes
edited_names moved taken = map moved_name moved ++ option_to_list taken

-- The tree meanwhile. Of the other files only lock files may differ, and there are no folders but
-- those of names and logs.
pub record EditsOnTheWay (kind : Kind) (moved : List MovedName) (taken : Option Bytes)
    (old tree : Tree) : Type 0 where
  pub each : AllByRecursion (NameMoves old tree) moved
  pub gone : MayGo kind moved taken old tree
  pub others : (path : Bytes) → IsFalse (list_any (bytes_eq path) (edited_names moved taken))
      → IsFalse (list_any (bytes_eq path) (map log_place (edited_names moved taken)))
      → path ≢ packed_place → IsFalse (is_lock_file path)
      → file_at tree path ≡ file_at old path
  pub folders : (path : Bytes) → get tree path ≡ Some folder → IsTrue (is_name_folder path)

-- The name's file holds the id after, and its log has the entry's line added, unless the two ids
-- are equal.
pub record NameMoved (old new : Tree) (m : MovedName) : Type 0 where
  pub here : ShowsMove new m
  pub appended : m.entry.before ≢ m.entry.after
      → file_at new (log_place m.name) ≡ Some (bytes_at old (log_place m.name) ++ log_line m.entry)
  pub unmoved : m.entry.before ≡ m.entry.after
      → file_at new (log_place m.name) ≡ file_at old (log_place m.name)

-- The name's file, its log and its record are gone.
pub record NameGone (kind : Kind) (name : Bytes) (old new : Tree) : Type 0 where
  pub here : file_at new name ≡ None
  pub log : file_at new (log_place name) ≡ None
  pub packed : TakesRecord kind name old new

-- if none has gone, packed records are as before
abbrev pub HasGone : Kind → Option Bytes → Tree → Tree → Type 0
HasGone kind None old new = file_at new packed_place ≡ file_at old packed_place
HasGone kind (Some name) old new = NameGone kind name old new

-- The tree after all of it. Each other file is as before, and there are no folders but those of
-- names and logs.
pub record EditsMade (kind : Kind) (moved : List MovedName) (taken : Option Bytes)
    (old new : Tree) : Type 0 where
  pub each : AllByRecursion (NameMoved old new) moved
  pub gone : HasGone kind taken old new
  pub others : (path : Bytes) → IsFalse (list_any (bytes_eq path) (edited_names moved taken))
      → IsFalse (list_any (bytes_eq path) (map log_place (edited_names moved taken)))
      → path ≢ packed_place → file_at new path ≡ file_at old path
  pub folders : (path : Bytes) → get new path ≡ Some folder → IsTrue (is_name_folder path)

-- ---- the edits of a command

-- The command moves the name to the entry's id after. Its moves are the entry and those before, or
-- only those before if the entry's two ids are equal.
pub record MovesTo (r : Repository) (command : Command) (m : MovedName) : Type 0 where
  pub named : IsTrue (is_name m.name)
  pub holds : id_at (after r command) m.name ≡ Some m.entry.after
  pub moved : m.entry.before ≢ m.entry.after
      → moves_at (after r command) m.name ≡ m.entry ∷ moves_at r m.name
  pub unmoved : m.entry.before ≡ m.entry.after
      → moves_at (after r command) m.name ≡ moves_at r m.name

-- The command deletes the name, which is none of those that move.
pub record TakesAway (r : Repository) (command : Command) (moved : List MovedName)
    (name : Bytes) : Type 0 where
  pub named : IsTrue (is_name name)
  pub deleted : IsTrue (deletes command name)
  pub gone : get (after r command).names name ≡ None
  pub apart : IsFalse (list_any (bytes_eq name) (map moved_name moved))

-- if none goes, nothing is said
abbrev pub MayTake : Repository → Command → List MovedName → Option Bytes → Type 0
MayTake r command moved None = ⊤
MayTake r command moved (Some name) = TakesAway r command moved name

-- the new name of a rename
abbrev pub renamed : Repository → Bytes → Bytes → MovedName
renamed r from to = record { name = to; entry = rename_entry r from to }

-- A rename moves the new name to the id that the old one holds, and removes the old one.
pub record IsRename (r : Repository) (from to : Bytes) (moved : List MovedName)
    (taken : Option Bytes) : Type 0 where
  pub goes : taken ≡ Some from
  pub comes : moved ≡ renamed r from to ∷ []
  pub held : id_at r from ≡ Some (held_id r from)

-- a rename is such; of other commands nothing more is said
abbrev pub MayRename : Repository → Command → List MovedName → Option Bytes → Type 0
MayRename r (Rename from to) moved taken = IsRename r from to moved taken
MayRename r _ moved taken = Unit {0}

-- The command moves these names so, removes that one, and changes no other name and not HEAD's
-- branch.
pub record AreEditsOf (r : Repository) (command : Command) (moved : List MovedName)
    (taken : Option Bytes) : Type 0 where
  pub each : AllByRecursion (MovesTo r command) moved
  pub gone : MayTake r command moved taken
  pub others : (name : Bytes) → IsFalse (list_any (bytes_eq name) (edited_names moved taken))
      → get (after r command).names name ≡ get r.names name
  pub branch : (after r command).branch ≡ r.branch
  pub renaming : MayRename r command moved taken

-- Meanwhile each name is as before the command or as after it.
abbrev pub EditsPass : Type 0
EditsPass =
    (r : Repository) (command : Command) (moved : List MovedName) (taken : Option Bytes)
    (pair : Pair) (tree : Tree)
    → IsSound r → first_cause r command ≡ None → StandsFor r.kind pair r
    → AreEditsOf r command moved taken
    → EditsOnTheWay r.kind moved taken pair.names tree → NamesOnTheWay r command tree

-- After all edits the tree holds the names of the repository after the command.
abbrev pub EditsStand : Type 0
EditsStand =
    (r : Repository) (command : Command) (moved : List MovedName) (taken : Option Bytes)
    (old new : Tree)
    → IsSound r → first_cause r command ≡ None → HoldsNames old r
    → AreEditsOf r command moved taken → EditsMade r.kind moved taken old new
    → HoldsNames new (after r command)
