use Rattle.history_word.proofs.TableLaws.{rest_begins_or_has_cause, offered_begins_or_has_cause}
use Rattle.history_word.proofs.laws.rest_begins_or_has_cause.Goals as goal

pub returns-clause-all : goal.returns-clause-all
returns-clause-all c = rest_begins_or_has_cause

pub returns-clause-offered : goal.returns-clause-offered
returns-clause-offered c = offered_begins_or_has_cause
