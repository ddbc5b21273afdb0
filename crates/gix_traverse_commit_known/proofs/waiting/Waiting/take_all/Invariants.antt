use Rattle.std.proofs.Common.{◌≡◌, map, take}
use Rattle.std.specs.List.{list_any}
use Rattle.std.specs.Ordering.{eq_by_cmp}
use Rattle.std.specs.Prelude.{filter}
use Rattle.gix_traverse_commit_known.specs.Waiting.{pending_cmp, pendings}
use Rattle.gix_traverse_commit_known.specs.declared.waiting.Pending.{Pending}
use Rattle.gix_traverse_commit_known.proofs.waiting.Waiting.take_all.Given as goal

abbrev pub invariant-order : goal.invariant-order
invariant-order l = l.numbers.items ≡ map (λ (t : Pending). t.number) (filter (λ (t : Pending). list_any (eq_by_cmp pending_cmp t) (pendings l.fn.self)) (take l.pending-index l.fn.self.order.items))
