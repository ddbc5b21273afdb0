use Rattle.history_model.proofs.AlikeLemmas.{orders_print_one_set as lemma}
use Rattle.history_model.proofs.laws.alike.orders_print_one_set.Goals as goal

pub returns : goal.returns
returns c = lemma
