use Rattle.std.proofs.Common.{arith}
use Rattle.gix_object_tree.proofs.tree.mode_text.read_mode.Goals as goal

pub returns-in_err-value : goal.returns-in_err-value
returns-in_err-value c = rw c.from_residual.ensures (λ mode is.
    let large = c.in_err-value.ensures is.numeral in
    let fits = is.fits in
    let value = is.value in
    omega arith)
