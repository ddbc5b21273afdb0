-- What a stop during a command leaves, once recovered.
use Rattle.std.specs.Prelude.{◌≡◌, ◌⊎◌, Bool, true, false, not, ◌&&◌, [], Some, IsTrue, MatchBool, is_some, bytes_eq, Contains, if◌then◌else◌}
use Rattle.std.specs.FinMap.{get}
use Rattle.history_model.specs.Bytes.{Bytes}
use Rattle.history_model.specs.Objects.{Value}
use Rattle.gix_hash.specs.Id.{Id}
use Rattle.history_model.specs.Repository.{Repository, IsWhole, id_at, moves_at}
use Rattle.history_model.specs.Commands.{Command, Commit, Tag, Move, Rename, Delete, Switch, Pack, Index, Names, Files, Past, Log, Show}
use Rattle.history_model.specs.Meaning.{after, stored_by, takes_id}
use Rattle.history_model.specs.Causes.{first_cause}

-- whether the command changes the files
abbrev pub is_changing : Command → Bool
is_changing (Commit c) = true
is_changing (Tag c) = true
is_changing (Move c) = true
is_changing (Rename from to) = true
is_changing (Delete name at) = true
is_changing (Switch name) = true
is_changing Pack = true
is_changing Index = false
is_changing (Names folder) = false
is_changing (Files word) = false
is_changing (Past word) = false
is_changing (Log c) = false
is_changing (Show word path) = false

-- What the command makes if no cause holds: nothing if it would store under a taken id.
abbrev pub made : Repository → Command → Repository
made old command = if takes_id old command then old else after old command

-- what is stored stays, and only what the command stores is added
pub record StoresBetween (old : Repository) (command : Command) (x : Repository) : Type 0 where
  pub keeps : (id : Id) (value : Value) → get old.objects id ≡ Some value
      → get x.objects id ≡ Some value
  pub no_more : (id : Id) (value : Value) → get x.objects id ≡ Some value →
      (get old.objects id ≡ Some value) ⊎ Contains (stored_by old command) value

-- whether the command deletes the name
abbrev pub deletes : Command → Bytes → Bool
deletes (Rename from to) name = bytes_eq name from
deletes (Delete deleted at) name = bytes_eq name deleted
deletes _ name = false

-- The name is as before the command or as after it. Its moves may come before it does, or go before
-- it does.
pub record NameBetween (old new x : Repository) (deleted : Bool) (name : Bytes) : Type 0 where
  pub id : (id_at x name ≡ id_at old name) ⊎ (id_at x name ≡ id_at new name)
  pub moves : (moves_at x name ≡ moves_at old name) ⊎ (moves_at x name ≡ moves_at new name)
      ⊎ (IsTrue deleted × (moves_at x name ≡ []))
  -- if the name has moved, its log says so
  pub log_follows_name : (id_at x name ≡ id_at old name) ⊎ (moves_at x name ≡ moves_at new name)

-- a rename leaves the id at the old name or at the new one
abbrev pub IsNotLost : Repository → Command → Repository → Type 0
IsNotLost old (Rename from to) x = (id_at x from ≡ id_at old from) ⊎ (id_at x to ≡ id_at old from)
IsNotLost old _ x = Unit {0}

pub record Between (old : Repository) (command : Command) (x : Repository) : Type 0 where
  pub kind : x.kind ≡ old.kind
  pub stored : StoresBetween old command x
  pub names : (name : Bytes) → NameBetween old (made old command) x (deletes command name) name
  pub branch : (x.branch ≡ old.branch) ⊎ (x.branch ≡ (made old command).branch)
  pub not_lost : IsNotLost old command x

-- A whole repository, between those before and after the command; the one before it, if a cause
-- holds or the command changes no files.
abbrev pub LeftByStop : Repository → Command → Repository → Type 0
LeftByStop old command x =
    IsWhole x
    × MatchBool (is_changing command && not (is_some (first_cause old command)))
    (Between old command x) (x ≡ old)
