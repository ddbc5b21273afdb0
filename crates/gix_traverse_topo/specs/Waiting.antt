-- The commits that may be given next.
use Rattle.std.specs.Prelude.{◌≡◌, ℕ, ◌<◌, ◌≤◌, ◌≤ℤ◌, List, ◌∷◌, [], ◌++◌, Contains, IsPermutation}
use Rattle.std.specs.BinaryHeap.{heap_items, IsHeap}
use Rattle.std.specs.List.Sorted.{IsSorted}
use Rattle.std.specs.Ordering.{nat_cmp, int_cmp, ordering_then}
use Rattle.std.specs.declared.cmp.Ordering.{Ordering}
use Rattle.gix_traverse_graph.specs.Order.{At}
use Rattle.gix_traverse_topo.specs.declared.init.Sorting.{Sorting}
use Rattle.gix_traverse_topo.specs.declared.init.Sorting.TheVariants.{DateOrder, TopoOrder}
use Rattle.gix_traverse_topo.specs.declared.known.Facts.{Facts}
use Rattle.gix_traverse_topo.specs.declared.ready.Pending.{Pending}
use Rattle.gix_traverse_topo.specs.declared.ready.Ready.{Ready}
use Rattle.gix_traverse_topo.specs.declared.ready.Ready.TheVariants.{ByDate, Topological}

-- by time, and then by number
abbrev pub pending_cmp : Pending → Pending → Ordering
pending_cmp a b = ordering_then (int_cmp a.time b.time) (nat_cmp a.number.0 b.number.0)

abbrev pub waiting : Ready → List Pending
waiting (ByDate heap) = heap_items heap
waiting (Topological stack) = stack.items

-- those that wait at first are in the order that is wanted
abbrev pub Sorted : Sorting → Ready → Type 0
Sorted DateOrder (ByDate heap) = IsHeap pending_cmp (heap_items heap)
Sorted TopoOrder (Topological stack) = IsSorted pending_cmp stack.items
Sorted DateOrder (Topological stack) = ⊥
Sorted TopoOrder (ByDate heap) = ⊥

-- these wait too, after the others
abbrev pub Joined : Ready → List Pending → Ready → Type 0
Joined (ByDate old) more (ByDate new) =
    IsPermutation (heap_items old ++ more) (heap_items new)
    × (IsHeap pending_cmp (heap_items old) → IsHeap pending_cmp (heap_items new))
Joined (Topological old) more (Topological new) = new.items ≡ old.items ++ more
Joined (ByDate old) more (Topological new) = ⊥
Joined (Topological old) more (ByDate new) = ⊥

-- its turn came: by date none that waits is newer, and otherwise it was the last
abbrev pub Popped : Ready → Pending → Ready → Type 0
Popped (ByDate old) first (ByDate new) = IsPermutation (heap_items old) (first ∷ heap_items new)
    × (IsHeap pending_cmp (heap_items old)
    → IsHeap pending_cmp (heap_items new)
    × ((other : Pending) → Contains (heap_items new) other → other.time ≤ℤ first.time))
Popped (Topological old) first (Topological new) = old.items ≡ new.items ++ first ∷ []
Popped (ByDate old) first (Topological new) = ⊥
Popped (Topological old) first (ByDate new) = ⊥

-- those from this number on that none names, in the order of their numbers
pub record IsFree (low : ℕ) (told : List Facts) (cs : List ℕ)
    (first : List Pending) : Type 0 where
  pub each : (pending : Pending) → Contains first pending
      → (low ≤ pending.number.0) × At cs pending.number.0 0
      × ((facts : Facts) × At told pending.number.0 facts × (pending.time ≡ facts.time))
  pub every : (n : ℕ) (facts : Facts) → low ≤ n → At cs n 0 → At told n facts
      → (pending : Pending) × Contains first pending × (pending.number.0 ≡ n)
  pub ascending : (k l : ℕ) (p q : Pending) → k < l → At first k p → At first l q
      → p.number.0 < q.number.0
