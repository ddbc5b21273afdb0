use Rattle.std.proofs.Common.{◌≡◌, length, map}
use Rattle.gix_ref_transaction.specs.Paths.{bytes_of, has_twice}
use Rattle.gix_ref_transaction.proofs.Twice.{comes_again}
use Rattle.gix_ref_transaction.proofs.once.have_twice.Given as goal

-- a path occurs twice if one that is left occurs again
abbrev pub invariant-paths : goal.invariant-paths
invariant-paths l = has_twice (map bytes_of l.paths) ≡ comes_again l.seen.keys (map bytes_of l.rest)

abbrev pub decreases-paths : goal.decreases-paths
decreases-paths l = length l.rest
