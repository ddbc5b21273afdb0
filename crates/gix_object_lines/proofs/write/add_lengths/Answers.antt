use Rattle.std.proofs.Common.{◌<◌, Bor, List, ℕ, [], length, arith}
use Rattle.std.proofs.lemmas.List.Folds.{length-flat_map-take}
use Rattle.gix_object_lines.proofs.write.add_lengths.Goals as goal

pub returns-in_err-total : goal.returns-in_err-total
returns-in_err-total c =
    let parts = c.args.parts.now in
    let at = c.loop-part.part-index in
    let none : Bor (List ℕ) = record { ref_ptr = (0, 0); now = [] } in
    let below : at < length parts = omega arith in
    let less = length-flat_map-take {X = Bor (List ℕ)} {Y = ℕ} (λ part. part.now) parts at none below in
    rw c.from_residual.ensures (omega (arith, less, c.loop-part.invariant, c.in_err-total.ensures))
