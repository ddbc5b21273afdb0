use Rattle.std.proofs.Common.{◌≡◌, ◌<◌, ℕ, suc, List, Option, Some, None, length}
use Rattle.std.specs.Prelude.{IfSome}
use Rattle.gix_hash.specs.Id.{Id, id_of}
use Rattle.gix_traverse_tree.specs.Nodes.{IsWayUp}
use Rattle.gix_traverse_tree.specs.Trees.{is_among}
use Rattle.gix_traverse_tree.proofs.breadthfirst.lies_above.Given as goal

abbrev pub invariant-up : goal.invariant-up
invariant-up l = IfSome l.link (λ n. n < length l.nodes)
    × ((ids : List Id) → IsWayUp l.nodes l.fn.above ids → (rest : List Id) × IsWayUp l.nodes l.link rest × (is_among (id_of l.id) ids ≡ is_among (id_of l.id) rest))

abbrev pub height : Option ℕ → ℕ
height None = 0
height (Some n) = suc n

abbrev pub decreases-up : goal.decreases-up
decreases-up l = height l.link
