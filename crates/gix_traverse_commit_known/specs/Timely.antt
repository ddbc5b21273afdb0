-- The state of a walk by time.
use Rattle.std.specs.Prelude.{◌≡◌, ◌≢◌, ◌≤ℤ◌, ◌⊎◌, ◌↔◌, ℕ, ℤ, pos, Bool, true, not, ◌&&◌, List, ◌∷◌, [], ◌++◌, Option, None, Some, take, Contains, IsTrue}
use Rattle.gix_hash.specs.Id.{Id, id_of}
use Rattle.gix_hash.specs.declared.object_id.ObjectId.{ObjectId}
use Rattle.gix_traverse_graph.specs.Commits.{Commits, Reached}
use Rattle.gix_traverse_graph.specs.Order.{At, IsOpen}
use Rattle.gix_traverse_graph.specs.Rows.{Holds}
use Rattle.gix_traverse_graph.specs.Sorting.{in_time}
use Rattle.gix_traverse_graph.specs.declared.rows.Row.{Row}
use Rattle.gix_traverse_graph.specs.declared.sorting.CommitTimeOrder.{CommitTimeOrder}
use Rattle.gix_traverse_graph.specs.declared.sorting.CommitTimeOrder.TheVariants.{NewestFirst, OldestFirst}
use Rattle.gix_traverse_graph.specs.declared.sorting.Timing.{Timing}
use Rattle.gix_traverse_commit_known.specs.declared.waiting.Turn.{Turn}

-- one more waits, if that is so
abbrev pub Joins : Bool → List Turn → Turn → List Turn → Type 0
Joins so old turn new = (t : Turn) → Contains new t ↔ (((so ≡ true) × (t ≡ turn)) ⊎ Contains old t)

-- its turn came: no other that waits is newer, or older
abbrev pub IsTaken : CommitTimeOrder → List Turn → Turn → List Turn → Type 0
IsTaken NewestFirst old turn new =
    (old ≡ new ++ turn ∷ []) × ((t : Turn) → Contains new t → (t.time ≤ℤ turn.time) × (t ≢ turn))
IsTaken OldestFirst old turn new =
    (old ≡ turn ∷ new) × ((t : Turn) → Contains new t → (turn.time ≤ℤ t.time) × (t ≢ turn))

-- the time that a commit counts with: its own, and 0 if its lookup failed
abbrev pub CountsAs : Type 0 → Commits ObjectId → ObjectId → ℤ → Type 0
CountsAs may_fail g x time = (time ≡ (g x).time) ⊎ ((time ≡ pos 0) × may_fail)

-- it waits with the time that it counts with, unless the cutoff keeps it out
abbrev pub WaitsAsCounted : Type 0 → Option ℤ → Commits ObjectId → List Turn → ObjectId → Type 0
WaitsAsCounted may_fail since g turns x =
    (time : ℤ) × CountsAs may_fail g x time
    × (in_time since time ≡ true → Contains turns (record { time = time; id = x }))

-- each of these commits waits now, unless the cutoff keeps it out, beside all that waited, and no
-- other
pub record LetsWait (may_fail : Type 0) (since : Option ℤ) (g : Commits ObjectId)
    (S : ObjectId → Type 0) (old new : List Turn) : Type 0 where
  pub stay : (t : Turn) → Contains old t → Contains new t
  pub join : (x : ObjectId) → S x → WaitsAsCounted may_fail since g new x
  pub only : (t : Turn) → Contains new t → Contains old t
      ⊎ (S t.id × CountsAs may_fail g t.id t.time × (in_time since t.time ≡ true))

-- by time these commits wait now, and in breadth order none
abbrev pub LetsWaitIn : Option Timing → Type 0 → Commits ObjectId → (ObjectId → Type 0)
    → List Turn → List Turn → Type 0
LetsWaitIn None may_fail g S old new = new ≡ old
LetsWaitIn (Some timing) may_fail g S old new = LetsWait may_fail timing.since g S old new

-- by time the commit's turn came, and the others wait on; in breadth order none waits
abbrev pub TakesTurn : Option Timing → List Turn → ObjectId → List Turn → Type 0
TakesTurn None old id others = others ≡ old
TakesTurn (Some timing) old id others =
    (turn : Turn) × (turn.id ≡ id) × IsTaken timing.order old turn others

-- the commit waits
abbrev pub Waits : List Turn → ObjectId → Type 0
Waits turns x = (t : Turn) × Contains turns t × (t.id ≡ x)

-- all that wait have rows
abbrev pub AllRowed : List Row → List Turn → Type 0
AllRowed rows turns = (t : Turn) → Contains turns t → Holds rows t.id

-- accepted, not hidden, and no older than the cutoff
abbrev pub keep_since : Option ℤ → Commits ObjectId → (ObjectId → Bool) → (Id → Bool) → ObjectId
    → Bool
keep_since since g hides accepts x =
    not (hides x) && (accepts (id_of x) && in_time since (g x).time)

-- these were named so far, and of them those that are kept are listed or wait; what is met and kept
-- is listed or waits
pub record IsMetSoFar (g : Commits ObjectId) (keep has : ObjectId → Bool)
    (named : ObjectId → Type 0) (listed : List ObjectId) (turns : List Turn) : Type 0 where
  pub timed : (t : Turn) → Contains turns t → t.time ≡ (g t.id).time
  pub some : (x : ObjectId) → Waits turns x → (keep x ≡ true) × (¬ Contains listed x) × named x
  pub every : (x : ObjectId) → named x → keep x ≡ true → Contains listed x ⊎ Waits turns x
  pub met : (x : ObjectId) → has x ≡ true → keep x ≡ true → Contains listed x ⊎ Waits turns x
  pub known : (x : ObjectId) → Contains listed x ⊎ Waits turns x → has x ≡ true

-- the list so far: each commit is reached and was open at its place, and may come before the others
-- that were
pub record IsChosenSoFar (along : ObjectId → List ObjectId) (tips : List ObjectId)
    (keep : ObjectId → Bool) (Comes : List ObjectId → ObjectId → ObjectId → Type 0)
    (listed : List ObjectId) : Type 0 where
  pub reached : (x : ObjectId) → Contains listed x → Reached along (λ y. IsTrue (keep y)) tips x
  pub once : (j k : ℕ) (x : ObjectId) → At listed j x → At listed k x → j ≡ k
  pub fit : (k : ℕ) (x : ObjectId) → At listed k x → IsOpen along tips (take k listed) x
  pub chosen : (k : ℕ) (x y : ObjectId) → At listed k x → keep y ≡ true
      → ¬ Contains (take k listed) y → IsOpen along tips (take k listed) y
      → Comes (take k listed) x y
