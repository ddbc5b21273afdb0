use Rattle.std.proofs.Common.{◌≡◌, length}
use Rattle.gix_object_signature.specs.SshVerdict.{holds}
use Rattle.gix_object_signature.proofs.verify.ssh_verdict.holds.Given as goal

-- it is in the whole exactly if it is in what is left
abbrev pub invariant-places : goal.invariant-places
invariant-places l = holds l.part l.rest ≡ holds l.part l.text

abbrev pub decreases-places : goal.decreases-places
decreases-places l = length l.rest
