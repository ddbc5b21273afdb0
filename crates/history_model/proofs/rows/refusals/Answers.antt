use Rattle.history_model.proofs.RestRowLemmas.{hello_refused, longest_refused, too_long_refused, cut_short_refused}
use Rattle.history_model.proofs.rows.refusals.Goals as goal

pub returns-clause-hello : goal.returns-clause-hello
returns-clause-hello c = hello_refused

pub returns-clause-longest : goal.returns-clause-longest
returns-clause-longest c = longest_refused

pub returns-clause-too_long : goal.returns-clause-too_long
returns-clause-too_long c = too_long_refused

pub returns-clause-cut_short : goal.returns-clause-cut_short
returns-clause-cut_short c = cut_short_refused
