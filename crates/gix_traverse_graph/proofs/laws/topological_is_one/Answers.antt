use Rattle.gix_traverse_graph.proofs.Listing.{topological_is_one}
use Rattle.gix_traverse_graph.proofs.laws.topological_is_one.Goals as goal

pub returns : goal.returns
returns g c = topological_is_one
