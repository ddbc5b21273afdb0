use Rattle.history_layout.proofs.AnyOrder.{stores_in_any_order as lemma}
use Rattle.history_layout.proofs.trees.stores_in_any_order.Goals as goal

pub returns : goal.returns
returns c = lemma
