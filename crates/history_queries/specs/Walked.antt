-- The commits of a repository that a walk lists.
use Rattle.std.specs.Prelude.{◌≡◌, List, Contains, Vec, map, Some, None, Result, Ok, Err}
use Rattle.std.specs.declared.alloc.Global.{Global}
use Rattle.gix_hash.specs.Id.{id_of}
use Rattle.gix_hash.specs.declared.object_id.ObjectId.{ObjectId}
use Rattle.history_files.specs.Laws.{table_of}
use Rattle.history_model.specs.Answers.{IsWalk, commits_of, walk_request}
use Rattle.history_model.specs.Causes.{first_cause}
use Rattle.history_model.specs.Commands.{Log, LogCommand}
use Rattle.history_model.specs.Repository.{Repository, HoldsCommit}
use Rattle.history_walks.specs.Asking.{IsInOrder, walk_from}
use Rattle.history_walks.specs.ReadCommits.{AreOf, kept_in}
use Rattle.history_walks.specs.declared.listing.Request.{Request}
use Rattle.history_walks.specs.declared.read_commits.ReadCommits.{ReadCommits}
use Rattle.history_queries.specs.declared.reading.Walk.{Walk}
use Rattle.history_repository.specs.Reads.{IsReadingFault}
use Rattle.history_repository.specs.declared.stopped.Stopped.{Stopped}
use Rattle.history_repository.specs.declared.stopped.Stopped.TheVariants.{Refused, Fault}

-- each of these ids is a stored commit's
abbrev pub AllHold : Repository → List ObjectId → Type 0
AllHold r ids = (x : ObjectId) → Contains ids x → HoldsCommit r (id_of x)

-- the commits that were read are kept as they are stored
abbrev pub AreRead : Repository → ReadCommits → Type 0
AreRead r read = AreOf (table_of r) (kept_in read)

-- the list is right for the request, over the commits of the repository
abbrev pub IsLogged : Repository → Request → Vec ObjectId Global → Type 0
IsLogged r request ids =
    IsInOrder request.order (commits_of r)
    (walk_from request.order (map id_of request.tips.items) (map id_of request.hidden.items))
    (map id_of ids.items)

-- the walk lists what is requested, and what it keeps is as it is stored
pub record IsFollowed (r : Repository) (request : Request) (walk : Walk) : Type 0 where
  pub lists : IsLogged r request walk.ids
  pub read : AreRead r walk.read

-- a walk that a log requests, over stored commits
pub record IsWalkOf (r : Repository) (sent : LogCommand) (ids : List ObjectId) : Type 0 where
  pub walk : IsWalk sent.order (commits_of r) (walk_request r sent) (map id_of ids)
  pub hold : AllHold r ids

-- A log of which no cause holds is walked; or it is refused for the first cause that holds, or met
-- a fault.
abbrev pub Walks : Type 0 → Repository → LogCommand → Result Walk Stopped → Type 0
Walks MayFail r sent (Ok walk) =
    (first_cause r (Log sent) ≡ None) × IsWalkOf r sent walk.ids.items × AreRead r walk.read
Walks MayFail r sent (Err (Refused cause)) = first_cause r (Log sent) ≡ Some cause
Walks MayFail r sent (Err (Fault fault)) = IsReadingFault MayFail (Fault fault)
