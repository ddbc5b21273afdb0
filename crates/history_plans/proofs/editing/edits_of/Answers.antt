use Rattle.std.proofs.Common.{◌∙◌, ap, map}
use Rattle.std.proofs.lemmas.List.{take_all}
use Rattle.history_plans.specs.Files.{change_parts}
use Rattle.history_plans.proofs.Edits.{parts_added}
use Rattle.history_plans.proofs.editing.edits_of.Goals as goal

pub loop-change-preserved : goal.loop-change-preserved
loop-change-preserved c =
    parts_added c.args.changes.now c.loop-change.change-index c.change-item.result c.loop-change.edits.items c.push.new.self.items _ c.loop-change-test.true c.change-item.is
    (λ i. (c.deref.ensures.value i, c.change-item.result.change)) c.loop-change.invariant c.in_ok-push.ensures.items

pub returns : goal.returns
returns c = c.loop-change.invariant ∙ ap (map change_parts) (take_all c.loop-change.change-index c.args.changes.now c.loop-change-test.false)
