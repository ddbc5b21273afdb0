use Rattle.std.proofs.Common.{◌≡◌, length}
use Rattle.history_store.specs.KeptIds.{left}
use Rattle.history_store.proofs.ids.IdIterIterator.next.Given as goal

abbrev pub invariant-lists : goal.invariant-lists
invariant-lists l = left l.self ≡ left l.fn.self

abbrev pub decreases-lists : goal.decreases-lists
decreases-lists l = length l.self.lists.now
