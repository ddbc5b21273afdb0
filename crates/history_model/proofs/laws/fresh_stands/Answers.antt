use Rattle.history_model.proofs.FreshLemmas.{fresh_stands, fresh_is_fresh}
use Rattle.history_model.proofs.laws.fresh_stands.Goals as goal

pub returns-clause-stands : goal.returns-clause-stands
returns-clause-stands c = fresh_stands

pub returns-clause-smallest : goal.returns-clause-smallest
returns-clause-smallest c = fresh_is_fresh
