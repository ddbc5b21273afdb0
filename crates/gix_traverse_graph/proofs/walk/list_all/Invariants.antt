use Rattle.std.proofs.Common.{◌≡◌, ◌++◌, ◌-◌, length}
use Rattle.std.specs.Prelude.{Contains}
use Rattle.std.specs.HashSet.{contains}
use Rattle.gix_hash.specs.declared.object_id.ObjectId.{ObjectId}
use Rattle.gix_traverse_graph.specs.Commits.{asked_parents}
use Rattle.gix_traverse_graph.specs.Numbered.{same_id}
use Rattle.gix_traverse_graph.specs.RowCommits.{commits_of}
use Rattle.gix_traverse_graph.specs.Rows.{Holds}
use Rattle.gix_traverse_graph.specs.Standing.{WalkedAll}
use Rattle.gix_traverse_graph.proofs.walk.list_all.Given as goal

abbrev pub invariant-walk : goal.invariant-walk
invariant-walk l = (l.walk.rows.now ≡ l.rows) × (l.walk.parents ≡ l.fn.parents)
    × WalkedAll (asked_parents l.fn.parents (commits_of l.rows)) l.tips l.hides (λ q. contains same_id l.walk.seen q) (l.listed.items ++ l.walk.queue.items) (length l.listed.items)
    × ((x : ObjectId) → Contains l.listed.items x → Holds l.rows x)

abbrev pub decreases-walk : goal.decreases-walk
decreases-walk l = length l.rows - length l.listed.items
