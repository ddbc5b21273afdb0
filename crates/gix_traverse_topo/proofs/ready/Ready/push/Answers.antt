use Rattle.gix_traverse_topo.proofs.Updates.{joined_pushed}
use Rattle.gix_traverse_topo.proofs.ready.Ready.push.Goals as goal

pub returns-in-ByDate : goal.returns-in-ByDate
returns-in-ByDate c = joined_pushed c.push.result c.args.self.now c.args.pending c.in-ByDate.heap c.push.new.self c.in-ByDate.is c.push.ensures.permutation c.push.ensures.heap_order
