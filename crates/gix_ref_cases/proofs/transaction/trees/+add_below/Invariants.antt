use Rattle.std.proofs.Common.{◌≡◌}
use Rattle.gix_ref_cases.proofs.transaction.trees.+add_below.Given as goal

-- how many folders deep it still goes
abbrev pub decreases-add_below : goal.decreases-add_below
decreases-add_below l = l.depth

-- the loop leaves that alone
abbrev pub invariant-loop-name : goal.invariant-loop-name
invariant-loop-name l = l.depth ≡ l.fn.depth
