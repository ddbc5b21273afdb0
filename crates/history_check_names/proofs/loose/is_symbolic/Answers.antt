use Rattle.std.proofs.Common.{◌∙◌}
use Rattle.history_check_names.proofs.LooseTexts.{symbolic_some, symbolic_none}
use Rattle.history_check_names.proofs.loose.is_symbolic.Goals as goal

pub returns-in-Some : goal.returns-in-Some
returns-in-Some c = c.is_name.ensures ∙ symbolic_some c.args.line.now c.in-Some.name.now c.in-Some.ensures

pub returns-in-None : goal.returns-in-None
returns-in-None c = symbolic_none c.args.line.now c.in-None.ensures
