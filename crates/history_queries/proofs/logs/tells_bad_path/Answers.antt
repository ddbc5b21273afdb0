use Rattle.std.proofs.Common.{true, false, rules, tests}
use Rattle.std.proofs.lemmas.Iterator.{YieldsList-from_slice, cases_from_any}
use Rattle.history_queries.proofs.LogLemmas.{Tells, any_bad}
use Rattle.history_queries.proofs.logs.tells_bad_path.Goals as goal

pub returns : goal.returns
returns c = λ told are.
    any_bad c.args.paths.now told are c.any.result (cases_from_any _ _ c.any.result (Tells true) (Tells false) c.any.ensures.ran (YieldsList-from_slice c.args.paths.now cc) (λ x q k. search (rules, tests)) (λ x q k. search (rules, tests)))
