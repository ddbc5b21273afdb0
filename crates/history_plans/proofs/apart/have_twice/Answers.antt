use Rattle.std.proofs.Common.{◌∙◌, ap, map, sym}
use Rattle.history_plans.specs.Moving.{to_name}
use Rattle.history_plans.proofs.ApartLemmas.{comes_again, first_kept, first_put, none_kept, one_put, was_kept, was_new}
use Rattle.history_plans.proofs.apart.have_twice.Goals as goal

pub lines-init : goal.lines-init
lines-init c = none_kept c.new-names.result.keys (map to_name c.args.to.now) c.new-names.ensures.empty

pub returns-then-not-branch : goal.returns-then-not-branch
returns-then-not-branch c =
    sym (c.lines.invariant ∙ ap (λ l. comes_again c.lines.names.keys (map to_name l)) c.in-Some.ensures.cases.0
    ∙ first_kept c.lines.names.keys (to_name c.in-Some.to.now) (map to_name c.in-Some.others.now)
    (was_kept c.lines.names.keys c.as_slice.result (to_name c.in-Some.to.now) c.in_ok-insert.field-0 c.as_slice.ensures.value c.in_ok-insert.ensures.added c.if-not-branch.true))

pub lines-preserved : goal.lines-preserved
lines-preserved c =
    c.lines.invariant ∙ ap (λ l. comes_again c.lines.names.keys (map to_name l)) c.in-Some.ensures.cases.0
    ∙ first_put c.lines.names.keys c.insert.new.self.keys (to_name c.in-Some.to.now) (map to_name c.in-Some.others.now)
    (was_new c.lines.names.keys c.as_slice.result (to_name c.in-Some.to.now) c.in_ok-insert.field-0 c.as_slice.ensures.value c.in_ok-insert.ensures.added c.if-not-branch.false)
    (one_put c.lines.names.keys c.insert.new.self.keys c.as_slice.result (to_name c.in-Some.to.now) c.as_slice.ensures.value c.in_ok-insert.ensures.updates.0)
