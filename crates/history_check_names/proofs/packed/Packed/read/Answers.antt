use Rattle.std.proofs.Common.{◌∷◌, ◌+◌, refl}
use Rattle.std.proofs.lemmas.Result.{err_from_is_err_and}
use Rattle.history_check_names.proofs.Returns.{fault_bad, return_bad}
use Rattle.history_check_names.proofs.packed.Packed.read.Goals as goal

pub returns-in_err-read_plain-in-Some : goal.returns-in_err-read_plain-in-Some
returns-in_err-read_plain-in-Some c =
    let p = err_from_is_err_and c.from_residual.result c.from_residual.ensures.1 in
    rw (p.1, p.2) (fault_bad c.args.kind c.args.text.now c.in-Some.front.now (13 ∷ c.in-Some.field-0-1.now) c.whole_lines-count.result.0.now c.whole_lines-count.result.1 c.in-Some.ensures.0 c.whole_lines-count.ensures
    c.in_err-read_plain-in-Some.field-0.0 c.in_err-read_plain-in-Some.ensures)

pub returns-in_ok-read_plain-in-Some : goal.returns-in_ok-read_plain-in-Some
returns-in_ok-read_plain-in-Some c =
    return_bad c.args.kind c.args.text.now c.in-Some.front.now c.in-Some.field-0-1.now c.whole_lines-count.result.0.now c.whole_lines-count.result.1 c.in-Some.ensures.0 c.whole_lines-count.ensures
    (c.whole_lines-count.result.1 + 1) refl c.in_ok-read_plain-in-Some.ensures.good
