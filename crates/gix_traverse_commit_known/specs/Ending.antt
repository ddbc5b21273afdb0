-- How often commits may still come.
use Rattle.std.specs.Prelude.{[], ◌∷◌, true, false, ℕ, ◌+◌, ◌≤◌, List, Bool, find, if◌then◌else◌, ◌++◌, map}
use Rattle.std.specs.List.{count_by}
use Rattle.gix_hash.specs.Id.{Id, id_of}
use Rattle.gix_hash.specs.Order.{id_eq}
use Rattle.gix_hash.specs.declared.object_id.ObjectId.{ObjectId}
use Rattle.gix_traverse_commit_known.specs.Nodes.{Node, has, flags_in}
use Rattle.gix_traverse_commit_known.specs.declared.waiting.Turn.{Turn}
use Rattle.gix_traverse_graph.specs.declared.rows.Row.{Row}
use Rattle.gix_traverse_commit_known.specs.declared.nodes.TheConstants.WalkFlags.{SEEN}

-- how often an id is in the list
abbrev pub times_in : List ObjectId → Id → ℕ
times_in xs id = count_by (λ (x : ObjectId). id_eq id (id_of x)) xs

-- how often an id waits
abbrev pub times_waiting : List Turn → Id → ℕ
times_waiting turns id = count_by (λ (t : Turn). id_eq id (id_of t.id)) turns

-- the commit of this id is met
abbrev pub met_under : List Node → Id → Bool
met_under nodes id = has (flags_in (find (λ (node : Node). id_eq id (id_of node.id)) nodes)) SEEN

-- how often it may come: once if it isn't met, and as often as it is queued
abbrev pub may_come : List Node → (Id → ℕ) → Id → ℕ
may_come nodes queued id = (if met_under nodes id then 0 else 1) + queued id

-- no commit may come more often than before
abbrev pub NoneGains : List Node → (Id → ℕ) → List Node → (Id → ℕ) → Type 0
NoneGains nodes queued nodes' queued' =
    (x : ObjectId) → may_come nodes' queued' (id_of x) ≤ may_come nodes queued (id_of x)

-- the list has nothing
abbrev pub is_empty : {X : Type 0} → List X → Bool
is_empty [] = true
is_empty (x ∷ xs) = false

-- the ids of the rows, and these
abbrev pub known_ids : List Row → List Id → List Id
known_ids rows ids = map (λ (row : Row). id_of row.id) rows ++ ids
