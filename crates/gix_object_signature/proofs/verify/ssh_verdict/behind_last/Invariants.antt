use Rattle.std.proofs.Common.{◌≡◌, length}
use Rattle.std.specs.Prelude.{option_map}
use Rattle.std.specs.Option.{option_or}
use Rattle.gix_object_signature.specs.SshVerdict.{behind_last}
use Rattle.gix_object_signature.proofs.verify.ssh_verdict.behind_last.Given as goal

-- the last place is the last of those that are left, or the last before them
abbrev pub invariant-places : goal.invariant-places
invariant-places l = option_or (behind_last l.part l.rest) (option_map (λ told. told.now) l.last) ≡ behind_last l.part l.text

abbrev pub decreases-places : goal.decreases-places
decreases-places l = length l.rest
