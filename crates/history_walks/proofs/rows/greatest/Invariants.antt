use Rattle.std.proofs.Common.{◌≡◌, map, max, take, unwrap_or}
use Rattle.std.specs.Prelude.{fold}
use Rattle.std.specs.HashMap.{get}
use Rattle.gix_traverse_graph.specs.Numbered.{same_id}
use Rattle.history_walks.proofs.rows.greatest.Given as goal

-- the greatest of the parents so far
abbrev pub invariant-parents : goal.invariant-parents
invariant-parents l = l.greatest ≡ fold max 0 (map (λ parent. unwrap_or (get same_id l.generations parent) 0) (take l.parent-index l.parents))
