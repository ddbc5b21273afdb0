use Rattle.std.proofs.Common.{List, None, reverse, subst, sym}
use Rattle.gix_hash.specs.declared.object_id.ObjectId.{ObjectId}
use Rattle.history_check_objects.specs.Surveying.{AreListed, Stands}
use Rattle.history_check_objects.specs.declared.order.Frame.{Frame}
use Rattle.history_check_objects.proofs.Begins.{all_unmet, begun, one_unmet}
use Rattle.history_check_objects.proofs.order.Survey.new.Goals as goal

pub loop-id-preserved : goal.loop-id-preserved
loop-id-preserved c = one_unmet c.loop-id.unmet c.insert.new.self c.deref-id-items.result.now c.loop-id.id-index _ c.loop-id-test.true c.in_ok-insert.ensures.updates c.loop-id.invariant

pub returns : goal.returns
returns c = λ kind tree listed.
    subst (λ (ids : List ObjectId). Stands kind tree ids c.loop-id.unmet c.new-2.result (reverse c.new.result.items) None) c.deref-id-items.ensures.value
    (subst (λ (frames : List Frame). Stands kind tree c.deref-id-items.result.now c.loop-id.unmet c.new-2.result (reverse frames) None) (sym c.new.ensures.items)
    (begun kind tree c.deref-id-items.result.now c.loop-id.unmet c.new-2.result (subst (AreListed kind tree) (sym c.deref-id-items.ensures.value) listed)
    (all_unmet c.loop-id.unmet c.deref-id-items.result.now c.loop-id.id-index c.loop-id-test.false c.loop-id.invariant) c.new-2.ensures.done c.new-2.ensures.tags))
