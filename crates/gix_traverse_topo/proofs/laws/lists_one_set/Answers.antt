use Rattle.std.specs.Prelude.{List}
use Rattle.gix_hash.specs.declared.object_id.ObjectId.{ObjectId}
use Rattle.gix_traverse_graph.specs.Commits.{Commits, WalkRequest}
use Rattle.gix_traverse_graph.specs.Walks.{InSomeOrder, date, topological}
use Rattle.gix_traverse_graph.proofs.Listing.{one_set}
use Rattle.gix_traverse_topo.specs.Standing.{Answers}
use Rattle.gix_traverse_topo.specs.declared.init.Sorting.{Sorting}
use Rattle.gix_traverse_topo.specs.declared.init.Sorting.TheVariants.{DateOrder, TopoOrder}
use Rattle.gix_traverse_topo.proofs.laws.lists_one_set.Goals as goal

in_some : (sorting : Sorting) (g : Commits ObjectId) (q : WalkRequest ObjectId) (xs : List ObjectId) → Answers sorting g q xs → InSomeOrder g q xs
in_some DateOrder g q xs a = date a
in_some TopoOrder g q xs a = topological a

pub returns : goal.returns
returns c = λ sorting g q xs ys all a o. one_set g q xs ys all (in_some sorting g q xs a) o
