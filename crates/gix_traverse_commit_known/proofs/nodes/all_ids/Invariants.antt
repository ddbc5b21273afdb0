use Rattle.std.proofs.Common.{◌≡◌, ◌-◌, length, take}
use Rattle.gix_traverse_commit_known.proofs.nodes.all_ids.Given as goal

abbrev pub invariant-ids : goal.invariant-ids
invariant-ids l = l.all.items ≡ take (length l.all.items) l.ids.keys

abbrev pub decreases-ids : goal.decreases-ids
decreases-ids l = length l.ids.keys - length l.all.items
