-- What the steps of a walk look up, and which commits begin to wait.
use Rattle.std.specs.Prelude.{◌≡◌, ◌⊎◌, ℕ, Bool, true, List, length, Option, None, Some, Contains, if◌then◌else◌}
use Rattle.gix_hash.specs.Id.{Id}
use Rattle.gix_hash.specs.declared.object_id.ObjectId.{ObjectId}
use Rattle.gix_traverse_commit_known.specs.Ending.{NoneGains, times_waiting}
use Rattle.gix_traverse_commit_known.specs.Known.{KnownCommits, turns_of}
use Rattle.gix_traverse_commit_known.specs.Meeting.{Asks, CountsAll, accepted}
use Rattle.gix_traverse_commit_known.specs.Nodes.{Node, is_met}
use Rattle.gix_traverse_commit_known.specs.Painting.{StaysPainted}
use Rattle.gix_traverse_commit_known.specs.Queueing.{QueuesSome}
use Rattle.gix_traverse_graph.specs.Numbered.{same_id}
use Rattle.gix_traverse_graph.specs.declared.rows.Row.{Row}
use Rattle.gix_traverse_graph.specs.declared.sorting.Timing.{Timing}
use Rattle.gix_traverse_commit_known.specs.declared.waiting.Turn.{Turn}

-- so many are looked up at most, for their times: by time each of these, and in breadth order none
abbrev pub times_of : Option Timing → List ObjectId → ℕ
times_of None xs = 0
times_of (Some timing) xs = length xs

-- met are those that were, and this commit
abbrev pub MeetsToo : List Node → ObjectId → List Node → Type 0
MeetsToo nodes id nodes' =
    (q : ObjectId) → is_met nodes' q ≡ (if same_id id q then true else is_met nodes q)

-- more commits may be painted: the same are met, queued and wait
pub record PaintsOnly (old new : KnownCommits) : Type 0 where
  pub met : (q : ObjectId) → is_met new.nodes q ≡ is_met old.nodes q
  pub queue : new.queue ≡ old.queue
  pub turns : turns_of new ≡ turns_of old

-- some of these commits begin to wait, in their order, and no other; the same are queued and
-- painted, and no commit may come more often than before
pub record AwaitsSome (old : KnownCommits) (xs : List ObjectId) (new : KnownCommits) : Type 0 where
  pub queue : new.queue ≡ old.queue
  pub painted : StaysPainted old.nodes new.nodes
  pub gains : NoneGains old.nodes (times_waiting (turns_of old)) new.nodes
      (times_waiting (turns_of new))
  pub others : (t : Turn) → Contains (turns_of new) t → Contains (turns_of old) t ⊎ Contains xs t.id
  pub behind : QueuesSome old xs new

-- the predicate is called for these commits, and those that it accepts are looked up, for their
-- times
pub record AsksTimes {P : Type 0} (accepts : P → Id → Bool) (goes : P → Id → P → Type 0)
    (rows : List Row) (xs : List ObjectId) (before : P) (lookups : ℕ) (after : P)
    (lookups' : ℕ) : Type 0 where
  pub same : accepts after ≡ accepts before
  pub asked : Asks goes xs before after
  pub timed : CountsAll rows (accepted (accepts before) xs) lookups lookups'
