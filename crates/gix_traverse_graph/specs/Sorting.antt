-- The orders that a walk may have.
use Rattle.std.specs.Prelude.{Bool, true, ℤ, Option, Some, None, IsSome, List, ◌≡◌}
use Rattle.std.specs.Int.Signed.{le_z}
use Rattle.gix_traverse_graph.specs.Commits.{Commits, WalkRequest, asked_parents, Listed, Commit}
use Rattle.gix_traverse_graph.specs.Order.{NewestFirst, OldestFirst}
use Rattle.gix_traverse_graph.specs.Turns.{IsNextInBreadth, IsNextByTime}
use Rattle.gix_traverse_graph.specs.Walks.{InBreadth, ByNewest, ByOldest}
use Rattle.gix_traverse_graph.specs.declared.parents.Parents.{Parents}
use Rattle.gix_traverse_graph.specs.declared.parents.Parents.TheVariants.{All, First}
use Rattle.gix_traverse_graph.specs.declared.sorting.CommitTimeOrder.{CommitTimeOrder}
use Rattle.gix_traverse_graph.specs.declared.sorting.CommitTimeOrder.TheVariants as by
use Rattle.gix_traverse_graph.specs.declared.sorting.Sorting.{Sorting}
use Rattle.gix_traverse_graph.specs.declared.sorting.Sorting.TheVariants.{BreadthFirst, ByCommitTime, ByCommitTimeCutoff}
use Rattle.gix_traverse_graph.specs.declared.sorting.Timing.{Timing}
use Rattle.gix_hash.specs.declared.object_id.ObjectId.{ObjectId}

-- the order by time, if there is one; along first parents a walk goes in breadth order
abbrev pub timing_of : Parents → Sorting → Option Timing
timing_of First sorting = None
timing_of All BreadthFirst = None
timing_of All (ByCommitTime order) = Some (record { order = order; since = None })
timing_of All (ByCommitTimeCutoff order seconds) =
    Some (record { order = order; since = Some seconds })

-- an order by time
abbrev pub IsByTime : Sorting → Type 0
IsByTime sorting = IsSome (timing_of All sorting)

-- the cutoff, if there is one
abbrev pub cutoff_in : Option Timing → Option ℤ
cutoff_in None = None
cutoff_in (Some timing) = timing.since

-- no older than the cutoff
abbrev pub in_time : Option ℤ → ℤ → Bool
in_time None time = true
in_time (Some seconds) time = le_z seconds time

-- x may come before y
abbrev pub ComesFirst : {I : Type 0} → CommitTimeOrder → (I → ℤ) → List I → I → I → Type 0
ComesFirst by.NewestFirst time = NewestFirst time
ComesFirst by.OldestFirst time = OldestFirst time

abbrev pub InTimeOrder : {I : Type 0} → CommitTimeOrder → Commits I → WalkRequest I → List I
    → Type 0
InTimeOrder by.NewestFirst g q out = ByNewest g q out
InTimeOrder by.OldestFirst g q out = ByOldest g q out

-- the list is that of a walk by time, or otherwise in breadth order
abbrev pub InOrder : {I : Type 0} → Option Timing → Commits I → WalkRequest I → List I → Type 0
InOrder None g q out = InBreadth g q out
InOrder (Some timing) g q out = InTimeOrder timing.order g q out

-- the commit may come next
abbrev pub IsNextIn : {I : Type 0} → Option Timing → Commits I → WalkRequest I → List I → I → Type 0
IsNextIn None g q listed x =
    IsNextInBreadth (asked_parents q.parents g) q.tips (Listed g q) listed x
IsNextIn (Some timing) g q listed x =
    IsNextByTime (asked_parents q.parents g) q.tips (Listed g q)
    (ComesFirst timing.order (λ y. (g y).time)) listed x

-- the commit's time, if the walk goes by time
abbrev pub IsTime : Option Timing → Commit ObjectId → Option ℤ → Type 0
IsTime None commit time = time ≡ None
IsTime (Some _) commit time = time ≡ Some commit.time
