use Rattle.std.proofs.Common.{ℕ, List, ◌≡◌, ◌++◌, length}
use Rattle.gix_object_commit.specs.Commit.{folded}
use Rattle.gix_object_commit.proofs.header.split_value.Given as goal

abbrev pub invariant-lines : goal.invariant-lines
invariant-lines l = (value : List ℕ) × (l.input ≡ folded value ++ l.rest)

abbrev pub decreases-lines : goal.decreases-lines
decreases-lines l = length l.rest
