use Rattle.history_model.specs.Spelling.{has_spelling}
use Rattle.history_model.specs.Grammar.{is_command}
use Rattle.history_model.proofs.GrammarLemmas.{is_spelled}
use Rattle.history_model.proofs.RestLemmas.{has_one_rest_cause}
use Rattle.history_model.proofs.laws.has_one_rest_cause.Goals as goal

pub returns-clause-all : goal.returns-clause-all
returns-clause-all c = has_one_rest_cause has_spelling (λ c h. h)

pub returns-clause-offered : goal.returns-clause-offered
returns-clause-offered c = has_one_rest_cause is_command is_spelled
