-- A request for commits, and which lists are right for it.
use Rattle.std.specs.Prelude.{true, ℤ, List, Option, None}
use Rattle.gix_hash.specs.declared.object_id.ObjectId.{ObjectId}
use Rattle.gix_object_lookup.specs.Table.{Table}
use Rattle.gix_traverse_graph.specs.Commits.{Commits, WalkRequest}
use Rattle.gix_traverse_commit_known.specs.Told.{AreTold}
use Rattle.gix_traverse_graph.specs.Walks.{InBreadth, ByNewest, ByOldest, InDate, InTopological}
use Rattle.gix_traverse_graph.specs.declared.parents.Parents.{Parents}
use Rattle.gix_traverse_graph.specs.declared.parents.Parents.TheVariants.{All}
use Rattle.gix_traverse_graph.specs.declared.rows.Row.{Row}
use Rattle.history_walks.specs.declared.listing.Order.{Order}
use Rattle.history_walks.specs.declared.listing.Order.TheVariants.{Breadth, Newest, Oldest, Date, Topological}
use Rattle.history_walks.specs.declared.listing.Request.{Request}

-- along which parents; an order by time goes along all
abbrev pub parents_in : Order → Parents
parents_in (Breadth parents) = parents
parents_in (Newest since) = All
parents_in (Oldest since) = All
parents_in (Date parents) = parents
parents_in (Topological parents) = parents

-- the cutoff, if there is one
abbrev pub since_in : Order → Option ℤ
since_in (Breadth parents) = None
since_in (Newest since) = since
since_in (Oldest since) = since
since_in (Date parents) = None
since_in (Topological parents) = None

-- a walk from these tips, past what the hidden ones reach, that refuses no commit
abbrev pub walk_from : {I : Type 0} → Order → List I → List I → WalkRequest I
walk_from order tips hidden = record {
  tips = tips;
  hidden = hidden;
  parents = parents_in order;
  since = since_in order;
  accepts = λ _. true;
}

abbrev pub request_of : Request → WalkRequest ObjectId
request_of request = walk_from request.order request.tips.items request.hidden.items

-- the list is right for the request in this order
abbrev pub IsInOrder : {I : Type 0} → Order → Commits I → WalkRequest I → List I → Type 0
IsInOrder (Breadth parents) g q ids = InBreadth g q ids
IsInOrder (Newest since) g q ids = ByNewest g q ids
IsInOrder (Oldest since) g q ids = ByOldest g q ids
IsInOrder (Date parents) g q ids = InDate g q ids
IsInOrder (Topological parents) g q ids = InTopological g q ids

-- If the store is honest, this holds of each graph of commits that agrees with the rows, and with
-- the table for commits without a row.
abbrev pub OverTable : Type 0 → List Row → Table → (Commits ObjectId → Type 0) → Type 0
OverTable honest rows table P = honest → (g : Commits ObjectId) → AreTold rows table g → P g
