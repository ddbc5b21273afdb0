use Rattle.history_store.proofs.EditsAsked.{one_more}
use Rattle.history_store.proofs.edits.updates_of.Goals as goal

pub loop-named-preserved : goal.loop-named-preserved
loop-named-preserved c =
    one_more c.args.moved.now c.loop-named.named-index c.named-item.result c.named-item.result c.loop-named.edits.items c.in_ok-update_of.field-0 c.push.new.self.items
    c.loop-named-test.true c.named-item.is c.in_ok-push.ensures.items c.loop-named.invariant c.in_ok-update_of.ensures.asks
