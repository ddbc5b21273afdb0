use Rattle.gix_traverse_graph.proofs.Listing.{breadth_is_one}
use Rattle.gix_traverse_graph.proofs.laws.breadth_is_one.Goals as goal

pub returns : goal.returns
returns g c = breadth_is_one
