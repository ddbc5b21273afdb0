-- The commits that wait, by their numbers.
use Rattle.std.specs.Prelude.{◌≡◌, List, ◌∷◌, [], ◌++◌, map, filter}
use Rattle.std.specs.List.{All, list_any}
use Rattle.std.specs.BTreeMap.{keys}
use Rattle.std.specs.BTreeMap.Range.{IsLtBy}
use Rattle.std.specs.Ordering.{eq_by_cmp, int_cmp, nat_cmp, ordering_then}
use Rattle.std.specs.declared.cmp.Ordering.{Ordering}
use Rattle.gix_traverse_commit_known.specs.declared.nodes.Number.{Number}
use Rattle.gix_traverse_graph.specs.declared.sorting.CommitTimeOrder.{CommitTimeOrder}
use Rattle.gix_traverse_graph.specs.declared.sorting.CommitTimeOrder.TheVariants.{NewestFirst, OldestFirst}
use Rattle.gix_traverse_commit_known.specs.declared.waiting.Pending.{Pending}
use Rattle.gix_traverse_commit_known.specs.declared.waiting.Waiting.{Waiting}

-- those that wait
abbrev pub pendings : Waiting → List Pending
pendings w = keys w.turns

-- their numbers
abbrev pub numbers_of : List Pending → List Number
numbers_of ps = map (λ (p : Pending). p.number) ps

-- by time, and then by number
abbrev pub pending_cmp : Pending → Pending → Ordering
pending_cmp a b = ordering_then (int_cmp a.time b.time) (nat_cmp a.number.0 b.number.0)

-- of those that were queued, in their order, those that wait
abbrev pub still_among : List Pending → List Pending → List Pending
still_among waiting order =
    filter (λ (p : Pending). list_any (eq_by_cmp pending_cmp p) waiting) order

-- those that wait, in the order in which they were queued
abbrev pub queued_by : Waiting → List Pending
queued_by w = still_among (pendings w) w.order.items

-- it was the last in the order, or the first
abbrev pub IsFirst : CommitTimeOrder → List Pending → Pending → List Pending → Type 0
IsFirst NewestFirst old pending new =
    (old ≡ new ++ pending ∷ []) × All (λ p. IsLtBy pending_cmp p pending) new
IsFirst OldestFirst old pending new = (old ≡ pending ∷ new) × All (IsLtBy pending_cmp pending) new
