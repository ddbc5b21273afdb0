use Rattle.std.proofs.Common.{◌≡◌, length}
use Rattle.gix_ref_format.specs.Loose.{without_spaces}
use Rattle.gix_ref_format.proofs.loose.behind_spaces.Given as goal

abbrev pub invariant-loop-rest : goal.invariant-loop-rest
invariant-loop-rest l = without_spaces l.fn.text ≡ without_spaces l.left

abbrev pub decreases-loop-rest : goal.decreases-loop-rest
decreases-loop-rest l = length l.left
