use Rattle.std.proofs.Common.{◌≡◌, bytes_eq, length, map}
use Rattle.history_model.specs.Bytes.{has_twice}
use Rattle.history_plans.specs.Moving.{to_name}
use Rattle.history_plans.proofs.ApartLemmas.{comes_again}
use Rattle.history_plans.proofs.apart.have_twice.Given as goal

-- two are of one name if one that is left comes again
abbrev pub invariant-lines : goal.invariant-lines
invariant-lines l = has_twice bytes_eq (map to_name l.to) ≡ comes_again l.names.keys (map to_name l.rest)

abbrev pub decreases-lines : goal.decreases-lines
decreases-lines l = length l.rest
