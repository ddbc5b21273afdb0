use Rattle.std.proofs.Common.{◌≡◌, ◌++◌, map, length}
use Rattle.gix_ref_edit.specs.Names as spec
use Rattle.gix_ref_edit.proofs.names.names_of.Given as goal

abbrev pub invariant-loop-edit : goal.invariant-loop-edit
invariant-loop-edit l =
    map (λ name. name.now) l.names.items ++ spec.names_of l.rest ≡ spec.names_of l.edits

abbrev pub decreases-loop-edit : goal.decreases-loop-edit
decreases-loop-edit l = length l.rest
