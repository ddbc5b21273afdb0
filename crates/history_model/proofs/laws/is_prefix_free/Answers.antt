use Rattle.history_model.proofs.GrammarLemmas.{is_prefix_free, offered_prefix_free}
use Rattle.history_model.proofs.laws.is_prefix_free.Goals as goal

pub returns-clause-all : goal.returns-clause-all
returns-clause-all c = is_prefix_free

pub returns-clause-offered : goal.returns-clause-offered
returns-clause-offered c = offered_prefix_free
