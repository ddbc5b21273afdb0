use Rattle.std.proofs.Common.{rules, tests}
use Rattle.std.proofs.lemmas.Iterator.{YieldsList-from_slice}
use Rattle.std.proofs.lemmas.Iterator.Search.{any_from_yields_List}
use Rattle.history_plans.specs.Moving.{is_elsewhere}
use Rattle.history_plans.proofs.moving.have_elsewhere.Goals as goal

pub returns : goal.returns
returns c = any_from_yields_List is_elsewhere _ _ c.any.result c.any.ensures.ran (YieldsList-from_slice c.args.lines.now cc) (λ x b q k. search (rules, tests))
