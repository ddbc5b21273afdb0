-- The commits that a walk knows, and what is queued and waits of them.
use Rattle.std.specs.Prelude.{List, [], Contains, map, slice_get, unwrap_or}
use Rattle.gix_hash.specs.declared.object_id.ObjectId.{ObjectId}
use Rattle.gix_hash.specs.declared.object_id.ObjectId.TheVariants.{Sha1}
use Rattle.gix_traverse_commit_known.specs.Nodes.{Node, ids_of}
use Rattle.gix_traverse_graph.specs.Order.{At}
use Rattle.gix_traverse_commit_known.specs.Waiting.{numbers_of, still_among}
use Rattle.gix_traverse_commit_known.specs.declared.nodes.Number.{Number}
use Rattle.gix_traverse_commit_known.specs.declared.waiting.Pending.{Pending}
use Rattle.gix_traverse_commit_known.specs.declared.waiting.Turn.{Turn}

-- the nodes, the ids of what is queued, in the order in which it was queued, and by their numbers
-- those that wait, and those that were queued to wait, in their order
pub record KnownCommits : Type 0 where
  pub nodes : List Node
  pub queue : List ObjectId
  pub pending : List Pending
  pub order : List Pending

-- the id at this number, if it has a node
abbrev pub id_at : List Node → Number → ObjectId
id_at nodes number = unwrap_or (slice_get (ids_of nodes) number.0) (Sha1 [])

-- the ids at these numbers
abbrev pub ids_at : List Node → List Number → List ObjectId
ids_at nodes numbers = map (id_at nodes) numbers

-- each of these numbers has a node
abbrev pub HaveNodes : List Node → List Number → Type 0
HaveNodes nodes numbers =
    (n : Number) → Contains numbers n → (x : ObjectId) × At (ids_of nodes) n.0 x

-- the turn of one that waits
abbrev pub turn_at : List Node → Pending → Turn
turn_at nodes pending = record { time = pending.time; id = id_at nodes pending.number }

-- the turns of those that wait
abbrev pub turns_of : KnownCommits → List Turn
turns_of known = map (turn_at known.nodes) known.pending

-- the ids of those that wait, in the order in which they were queued
abbrev pub waited_of : KnownCommits → List ObjectId
waited_of known = ids_at known.nodes (numbers_of (still_among known.pending known.order))

-- all that is queued or waits has nodes
pub record AreKnown (nodes : List Node) (queue : List Number)
    (pending : List Pending) : Type 0 where
  pub queued : HaveNodes nodes queue
  pub wait : HaveNodes nodes (numbers_of pending)
