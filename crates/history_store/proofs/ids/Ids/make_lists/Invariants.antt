use Rattle.std.proofs.Common.{◌≡◌, ◌-◌, length}
use Rattle.history_store.specs.KeptIds.{kept}
use Rattle.history_store.proofs.ids.Ids.make_lists.Given as goal

abbrev pub invariant-loop-alloc : goal.invariant-loop-alloc
invariant-loop-alloc l = kept l.self ≡ kept l.fn.self

abbrev pub decreases-loop-alloc : goal.decreases-loop-alloc
decreases-loop-alloc l = l.count - length l.self.lists.items
