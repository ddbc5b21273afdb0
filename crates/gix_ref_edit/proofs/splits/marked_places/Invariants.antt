use Rattle.std.proofs.Common.{◌≡◌, ◌++◌, drop}
use Rattle.gix_ref_edit.specs.Splits as spec
use Rattle.gix_ref_edit.proofs.splits.marked_places.Given as goal

abbrev pub invariant-loop-place : goal.invariant-loop-place
invariant-loop-place l = l.places.items ++ spec.marked l.place (drop l.place l.marks) ≡ spec.marked 0 l.marks
