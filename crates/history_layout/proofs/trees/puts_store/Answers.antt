use Rattle.history_layout.proofs.TreePuts.{puts_store as lemma}
use Rattle.history_layout.proofs.trees.puts_store.Goals as goal

pub returns : goal.returns
returns c = lemma
