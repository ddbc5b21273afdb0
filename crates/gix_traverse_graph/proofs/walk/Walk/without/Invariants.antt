use Rattle.std.proofs.Common.{◌≡◌, take}
use Rattle.gix_hash.specs.declared.object_id.ObjectId.{ObjectId}
use Rattle.gix_traverse_graph.specs.Numbered.{same_id}
use Rattle.std.specs.List.{list_any}
use Rattle.std.specs.HashSet.{contains}
use Rattle.gix_traverse_graph.specs.Commits.{asked_parents}
use Rattle.gix_traverse_graph.specs.RowCommits.{commits_of}
use Rattle.gix_traverse_graph.specs.Standing.{Walked}
use Rattle.gix_traverse_graph.proofs.walk.Walk.without.Given as goal

abbrev pub invariant-hides : goal.invariant-hides
invariant-hides l = (q : ObjectId) → contains same_id l.seen q ≡ list_any (same_id q) (take l.id-index l.hides)

abbrev pub invariant-tips : goal.invariant-tips
invariant-tips l = Walked (asked_parents l.parents (commits_of l.rows)) l.tips l.hides (λ q. contains same_id l.seen q) l.queue.items 0 l.tip-index
