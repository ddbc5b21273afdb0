use Rattle.std.proofs.Common.{◌∙◌, sym}
use Rattle.history_plans.proofs.TagLemmas.{never_cut, unnamed}
use Rattle.history_plans.proofs.tagging.own_name.Goals as goal

pub returns-then-not-is_name : goal.returns-then-not-is_name
returns-then-not-is_name c = unnamed c.args.name.now (sym c.is_name.ensures ∙ c.if-not-is_name.true)

pub returns-in_err-own : goal.returns-in_err-own
returns-in_err-own c = rw c.from_residual.ensures (never_cut c.args.name.now c.in_err-own.ensures)
