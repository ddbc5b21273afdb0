use Rattle.std.proofs.Common.{◌≡◌, length}
use Rattle.gix_object_commit.specs.Writing.{is_folded}
use Rattle.gix_object_commit.proofs.commit.spelling.is_folded.Given as goal

abbrev pub invariant-lines : goal.invariant-lines
invariant-lines l = is_folded l.text ≡ is_folded l.rest

abbrev pub decreases-lines : goal.decreases-lines
decreases-lines l = length l.rest
