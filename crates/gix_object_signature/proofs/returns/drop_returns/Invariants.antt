use Rattle.std.proofs.Common.{◌≡◌, ◌++◌, length}
use Rattle.gix_object_signature.specs.Signing.{without_cr}
use Rattle.gix_object_signature.proofs.returns.drop_returns.Given as goal

-- what is there already, and what is to come of the rest
abbrev pub invariant-bytes : goal.invariant-bytes
invariant-bytes l = l.copy.items ++ without_cr l.rest ≡ without_cr l.text

abbrev pub decreases-bytes : goal.decreases-bytes
decreases-bytes l = length l.rest
