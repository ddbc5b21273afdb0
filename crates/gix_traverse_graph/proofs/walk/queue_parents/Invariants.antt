use Rattle.std.proofs.Common.{List, ◌++◌, length}
use Rattle.gix_hash.specs.declared.object_id.ObjectId.{ObjectId}
use Rattle.gix_traverse_graph.specs.Numbered.{same_id}
use Rattle.std.specs.HashSet.{contains}
use Rattle.gix_traverse_graph.specs.Commits.{asked_parents}
use Rattle.gix_traverse_graph.specs.RowCommits.{commits_of}
use Rattle.gix_traverse_graph.specs.Standing.{Walked, Reads}
use Rattle.gix_traverse_graph.proofs.walk.queue_parents.Given as goal

abbrev pub invariant-parents : goal.invariant-parents
invariant-parents l = (tips hides listed : List ObjectId) →
    Walked (asked_parents l.fn.parents (commits_of l.rows)) tips hides (λ q. contains same_id l.fn.seen q) (listed ++ l.fn.queue.items) (length listed) 0 → Reads (listed ++ l.fn.queue.items) (length listed) l.fn.id →
    Walked (asked_parents l.fn.parents (commits_of l.rows)) tips hides (λ q. contains same_id l.seen q) (listed ++ l.queue.items) (length listed) l.parent-index × Reads (listed ++ l.queue.items) (length listed) l.fn.id
