use Rattle.std.proofs.Common.{◌≡◌, ◌+◌, length, take}
use Rattle.std.specs.Prelude.{flat_map}
use Rattle.gix_object_lines.proofs.write.add_lengths.Given as goal

abbrev pub invariant-loop-part : goal.invariant-loop-part
invariant-loop-part l = l.total ≡ l.before + length (flat_map (λ part. part.now) (take l.part-index l.parts))
