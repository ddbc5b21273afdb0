-- How far a walk has come that keeps some commits, and has met some.
use Rattle.std.specs.Prelude.{◌≡◌, ℕ, ◌<◌, Bool, true, false, not, ◌&&◌, List, ◌++◌, length, Contains, IsTrue}
use Rattle.gix_hash.specs.Id.{Id, id_of}
use Rattle.gix_hash.specs.declared.object_id.ObjectId.{ObjectId}
use Rattle.gix_traverse_commit_known.specs.Ending.{NoneGains, times_in}
use Rattle.gix_traverse_commit_known.specs.Known.{KnownCommits, turns_of}
use Rattle.gix_traverse_commit_known.specs.Nodes.{is_hidden, is_met}
use Rattle.gix_traverse_commit_known.specs.Painting.{StaysPainted}
use Rattle.gix_traverse_graph.specs.Order.{Named}
use Rattle.gix_traverse_graph.specs.Reading.{Read}
use Rattle.gix_traverse_graph.specs.Rows.{AllHeld}
use Rattle.gix_traverse_graph.specs.Standing.{Reads}
use Rattle.gix_traverse_graph.specs.declared.rows.Row.{Row}

-- what is listed is met, and what is met and kept is listed
pub record IsMetBy (keep has : ObjectId → Bool) (xs : List ObjectId) : Type 0 where
  pub listed : (q : ObjectId) → Contains xs q → has q ≡ true
  pub met : (q : ObjectId) → has q ≡ true → keep q ≡ true → Contains xs q

-- names before (p, m) are read, and those that are kept are in the list
pub record Kept (along : ObjectId → List ObjectId) (tips : List ObjectId)
    (keep has : ObjectId → Bool) (xs : List ObjectId) (p m : ℕ) : Type 0 where
  pub read : Read along tips (λ q. IsTrue (keep q)) xs p m
  pub known : IsMetBy keep has xs

-- all names at place p are read too
pub record KeptAll (along : ObjectId → List ObjectId) (tips : List ObjectId)
    (keep has : ObjectId → Bool) (xs : List ObjectId) (p : ℕ) : Type 0 where
  pub count : ℕ
  pub kept : Kept along tips keep has xs p count
  pub all : (j : ℕ) (x : ObjectId) → Named along tips xs p j x → j < count

-- more commits may be queued: the same wait and are painted, and no commit may come more often than
-- before
pub record QueuesAlone (old new : KnownCommits) : Type 0 where
  pub turns : turns_of new ≡ turns_of old
  pub painted : StaysPainted old.nodes new.nodes
  pub gains : NoneGains old.nodes (times_in old.queue) new.nodes (times_in new.queue)

-- rows that have all of a list, and of these, have all of the new list
abbrev pub StaysHeld : List ObjectId → List ObjectId → List ObjectId → Type 0
StaysHeld old more new = (rows : List Row) → AllHeld rows old → AllHeld rows more → AllHeld rows new

-- the tips are queued: a walk that keeps those that are not hidden has read all of them
abbrev pub QueuesTips : List ObjectId → KnownCommits → KnownCommits → Type 0
QueuesTips tips old new = (along : ObjectId → List ObjectId) (keep : ObjectId → Bool)
    → ((x : ObjectId) → Contains tips x → is_met old.nodes x ≡ false
    → keep x ≡ not (is_hidden old.nodes x))
    → Kept along tips keep (is_met old.nodes) old.queue 0 0
    → KeptAll along tips keep (is_met new.nodes) new.queue 0

-- the parents of the commit that comes next are queued: a walk that keeps those that are accepted
-- and not hidden has read all of them
abbrev pub QueuesParents : (Id → Bool) → List ObjectId → KnownCommits → KnownCommits → Type 0
QueuesParents accepts parents old new = (along : ObjectId → List ObjectId) (keep : ObjectId → Bool)
    (tips listed : List ObjectId) (id : ObjectId)
    → ((x : ObjectId) → is_met old.nodes x ≡ false
    → keep x ≡ (not (is_hidden old.nodes x) && accepts (id_of x)))
    → parents ≡ along id
    → Kept along tips keep (is_met old.nodes) (listed ++ old.queue) (length listed) 0
    → Reads (listed ++ old.queue) (length listed) id
    → KeptAll along tips keep (is_met new.nodes) (listed ++ new.queue) (length listed)
