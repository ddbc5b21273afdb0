-- Which commits are painted as hidden.
use Rattle.std.specs.Prelude.{◌≡◌, ◌≤◌, ◌↔◌, ℕ, Bool, true, false, List, Contains, ⊤}
use Rattle.gix_hash.specs.declared.object_id.ObjectId.{ObjectId}
use Rattle.gix_object_lookup.specs.Table.{Table}
use Rattle.gix_traverse_graph.specs.Commits.{Commits, Reached}
use Rattle.gix_object_lines.specs.Counts.{one_more}
use Rattle.gix_traverse_commit_known.specs.Fetching.{FetchFault}
use Rattle.gix_traverse_commit_known.specs.Meeting.{CountsAll}
use Rattle.gix_traverse_commit_known.specs.Nodes.{is_hidden, Node}
use Rattle.gix_traverse_graph.specs.Order.{At}
use Rattle.gix_traverse_commit_known.specs.Told.{AreTold}
use Rattle.gix_traverse_commit_known.specs.declared.fetch.FetchError.{FetchError}
use Rattle.gix_traverse_commit_known.specs.declared.fetch.FetchError.TheVariants as fault
use Rattle.gix_traverse_graph.specs.declared.rows.Row.{Row}

-- all are kept
abbrev pub every : ObjectId → Bool
every x = true

-- reached from these commits by all parents
abbrev pub ReachedFrom : Commits ObjectId → List ObjectId → ObjectId → Type 0
ReachedFrom g hidden x = Reached (λ y. (g y).parents) (λ _. ⊤) hidden x

-- nothing is painted
abbrev pub IsUnpainted : List Node → Type 0
IsUnpainted nodes = (x : ObjectId) → is_hidden nodes x ≡ false

-- painted is exactly what these commits reach
abbrev pub Paints : Commits ObjectId → List ObjectId → List Node → Type 0
Paints g hidden nodes = (x : ObjectId) → (is_hidden nodes x ≡ true) ↔ ReachedFrom g hidden x

-- the same commits are painted
abbrev pub StaysPainted : List Node → List Node → Type 0
StaysPainted nodes nodes' = (x : ObjectId) → is_hidden nodes' x ≡ is_hidden nodes x

-- a list of painted commits, each once
pub record IsPainted (nodes : List Node) (xs : List ObjectId) : Type 0 where
  pub marked : (x : ObjectId) → Contains xs x → is_hidden nodes x ≡ true
  pub once : (j k : ℕ) (x : ObjectId) → At xs j x → At xs k x → j ≡ k

-- a commit that the hidden ones reach isn't read, for this cause
abbrev pub StopsPainting : Type 0 → Type 0 → List Row → Table → List ObjectId → FetchError → Type 0
StopsPainting honest may_fail rows table hidden error =
    (id : ObjectId) × FetchFault honest may_fail rows table id error
    × (honest → (g : Commits ObjectId) → AreTold rows table g → ReachedFrom g hidden id)

abbrev pub PaintFault : Type 0 → Type 0 → List Row → Table → List ObjectId → FetchError → Type 0
PaintFault honest may_fail rows table hidden (fault.Find error) =
    StopsPainting honest may_fail rows table hidden (fault.Find error)
PaintFault honest may_fail rows table hidden (fault.ObjectDecode error) =
    StopsPainting honest may_fail rows table hidden (fault.ObjectDecode error)
PaintFault honest may_fail rows table hidden fault.Memory = ⊤

-- members of the set alone, each once
pub record IsPartOf (S : ObjectId → Type 0) (xs : List ObjectId) : Type 0 where
  pub each : (x : ObjectId) → Contains xs x → S x
  pub once : (j k : ℕ) (x : ObjectId) → At xs j x → At xs k x → j ≡ k

-- of what the hidden commits reach some were looked up, each once
pub record PaintsSome (honest : Type 0) (rows : List Row) (table : Table) (hidden : List ObjectId)
    (before after : ℕ) : Type 0 where
  pub painted : List ObjectId
  pub each : CountsAll rows painted before after
  pub are_reached : honest → (g : Commits ObjectId) → AreTold rows table g
      → IsPartOf (ReachedFrom g hidden) painted

-- one object was looked up if a commit isn't read; if memory is wanting, none that was counted is
-- lost
abbrev pub CountsUnread : ℕ → ℕ → FetchError → Type 0
CountsUnread before after (fault.Find error) = after ≡ one_more before
CountsUnread before after (fault.ObjectDecode error) = after ≡ one_more before
CountsUnread before after fault.Memory = before ≤ after

-- a painting ends early: some were looked up, and then the one that isn't read
abbrev pub CountsUnpainted : Type 0 → List Row → Table → List ObjectId → ℕ → ℕ → FetchError → Type 0
CountsUnpainted honest rows table hidden before after error =
    (behind : ℕ) × PaintsSome honest rows table hidden before behind
    × CountsUnread behind after error
