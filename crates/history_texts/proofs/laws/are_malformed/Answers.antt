use Rattle.history_texts.proofs.Malformeds.{before_malformed, of_other_malformed}
use Rattle.history_texts.proofs.laws.are_malformed.Goals as goal

pub returns-clause-before : goal.returns-clause-before
returns-clause-before c = before_malformed

pub returns-clause-of_other : goal.returns-clause-of_other
returns-clause-of_other c = of_other_malformed
