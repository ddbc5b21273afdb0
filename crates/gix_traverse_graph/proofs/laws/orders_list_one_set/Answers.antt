use Rattle.gix_traverse_graph.proofs.Listing.{one_set}
use Rattle.gix_traverse_graph.proofs.laws.orders_list_one_set.Goals as goal

pub returns : goal.returns
returns g c = one_set
