use Rattle.std.proofs.Common.{◌∙◌, ap, not, sym}
use Rattle.history_plans.specs.Apart.{made_names}
use Rattle.history_plans.specs.Moving.{line_name}
use Rattle.history_plans.proofs.ApartLemmas.{leaves_less, made_first, one_put}
use Rattle.history_plans.proofs.LineLemmas.{not_there}
use Rattle.history_plans.proofs.apart.names_to_make.Goals as goal

pub lines-preserved-in_ok-insert : goal.lines-preserved-in_ok-insert
lines-preserved-in_ok-insert c =
    leaves_less c.lines.names.keys c.insert.new.self.keys (line_name c.in-Some.line.now) (made_names c.lines.rest.now) (made_names c.in-Some.others.now) (made_names c.args.lines.now)
    (made_first c.lines.rest.now c.in-Some.others.now c.in-Some.line.now c.in-Some.ensures.cases.0 (sym (not_there c.in-Some.line.now.held) ∙ ap not (c.is_none.ensures ∙ ap not c.if-is_none.true)))
    (one_put c.lines.names.keys c.insert.new.self.keys c.as_slice.result (line_name c.in-Some.line.now) c.as_slice.ensures.value c.in_ok-insert.ensures.updates.0) c.lines.invariant
