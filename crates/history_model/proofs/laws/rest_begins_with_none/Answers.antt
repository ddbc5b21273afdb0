use Rattle.history_model.specs.Spelling.{has_spelling}
use Rattle.history_model.specs.Grammar.{is_command}
use Rattle.history_model.proofs.GrammarLemmas.{is_spelled}
use Rattle.history_model.proofs.RestLemmas.{rest_begins_with_none}
use Rattle.history_model.proofs.laws.rest_begins_with_none.Goals as goal

pub returns-clause-all : goal.returns-clause-all
returns-clause-all c = rest_begins_with_none has_spelling (λ c h. h)

pub returns-clause-offered : goal.returns-clause-offered
returns-clause-offered c = rest_begins_with_none is_command is_spelled
