use Rattle.std.proofs.Common.{is_ok}
use Rattle.history_store.proofs.IdLists.{longer_or_same}
use Rattle.history_store.proofs.ids.Ids.make_lists.Goals as goal

pub invariant_of-self : goal.invariant_of-self
invariant_of-self c =
    let ids = c.loop-alloc.self in
    record { in_order = (longer_or_same ids.lists.items ids.in_order c.new.result c.new.ensures.items (is_ok c.push.result) c.push.new.self.items c.push.ensures.items).0 }
