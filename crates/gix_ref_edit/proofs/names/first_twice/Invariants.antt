use Rattle.std.proofs.Common.{◌≡◌, map, length}
use Rattle.gix_ref_edit.specs.Names as spec
use Rattle.gix_ref_edit.proofs.names.first_twice.Given as goal

abbrev pub invariant-loop-rest : goal.invariant-loop-rest
invariant-loop-rest l =
    spec.first_twice (map (λ name. name.now) l.rest) ≡ spec.first_twice (map (λ name. name.now) l.names)

abbrev pub decreases-loop-rest : goal.decreases-loop-rest
decreases-loop-rest l = length l.rest
