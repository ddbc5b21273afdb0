use Rattle.std.proofs.Common.{◌≡◌, ◌++◌, length}
use Rattle.gix_object_commit.specs.Commit.{unfolded}
use Rattle.gix_object_commit.proofs.header.unfold.Given as goal

abbrev pub invariant-lines : goal.invariant-lines
invariant-lines l = unfolded l.text ≡ l.value.items ++ unfolded l.rest

abbrev pub decreases-lines : goal.decreases-lines
decreases-lines l = length l.rest
