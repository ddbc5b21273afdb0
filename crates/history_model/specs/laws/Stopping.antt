-- Laws of what a stop leaves.
use Rattle.std.specs.Prelude.{◌≡◌, ◌≢◌, ◌⊎◌, None, IsSome}
use Rattle.std.specs.FinMap.{get}
use Rattle.history_model.specs.Bytes.{Bytes}
use Rattle.gix_hash.specs.Id.{Id}
use Rattle.history_model.specs.Repository.{Repository, IsWhole, id_at, moves_at, peeled}
use Rattle.history_model.specs.Commands.{Command, Rename, Pack}
use Rattle.history_model.specs.Causes.{first_cause}
use Rattle.history_model.specs.Places.{Pair, file_at, unfinished_place}
use Rattle.history_model.specs.StandsFor.{object_files}
use Rattle.history_model.specs.NameStates.{Holds, name_state}
use Rattle.history_model.specs.Stops.{LeftByStop}
use Rattle.history_model.specs.Moments.{LeavesStopped}
use Rattle.gix_hash.specs.declared.kind.Kind.{Kind}

-- a stop may leave everything as it was
abbrev pub StopsMayLeaveAll : Type 0
StopsMayLeaveAll = (old : Repository) (command : Command) → IsWhole old → LeftByStop old command old

-- A rename of which no cause holds, stopped anywhere, leaves the id of the old name at the old
-- name, the new one or both, and no other id at either.
pub record IsAtEither (old x : Repository) (from to : Bytes) : Type 0 where
  pub somewhere : (id_at x from ≡ id_at old from) ⊎ (id_at x to ≡ id_at old from)
  pub from_holds : (id_at x from ≡ id_at old from) ⊎ (id_at x from ≡ None)
  pub to_holds : (id_at x to ≡ id_at old from) ⊎ (id_at x to ≡ None)

abbrev pub RenamesLoseNothing : Type 0
RenamesLoseNothing = (old x : Repository) (from to : Bytes)
    → first_cause old (Rename from to) ≡ None → LeftByStop old (Rename from to) x
    → IsAtEither old x from to

-- A `pack`, stopped anywhere, changes no name's id, no name's moves, and not HEAD's branch.
pub record HoldsTheSame (old x : Repository) : Type 0 where
  pub ids : (name : Bytes) → id_at x name ≡ id_at old name
  pub moves : (name : Bytes) → moves_at x name ≡ moves_at old name
  pub branch : x.branch ≡ old.branch

abbrev pub PacksChangeNothing : Type 0
PacksChangeNothing = (old x : Repository) → LeftByStop old Pack x → HoldsTheSame old x

-- Each object file but the unfinished one has the text that a whole repository has there, and each
-- name that holds an id holds that of a commit or a tag in it.
pub record IsClosed (kind : Kind) (pair : Pair) : Type 0 where
  pub repository : Repository
  pub whole : IsWhole repository
  pub objects : (path : Bytes) → path ≢ unfinished_place
      → file_at pair.objects path ≡ get (object_files repository) path
  pub names : (name : Bytes) (id : Id) → name_state kind pair.names name ≡ Holds id
      → IsSome (peeled repository id)

-- A stop in a command leaves such a pair, even before recovery.
abbrev pub StopsAreClosed : Type 0
StopsAreClosed =
    (old : Repository) (command : Command) (pair : Pair) → LeavesStopped old command pair
    → IsClosed old.kind pair
