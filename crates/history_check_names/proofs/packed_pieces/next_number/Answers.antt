use Rattle.std.proofs.Common.{◌∙◌}
use Rattle.std.proofs.lemmas.Result.{err_from_is_err_and}
use Rattle.gix_ref_file.specs.Tree.{bytes_at}
use Rattle.history_model.specs.Places.{packed_place}
use Rattle.history_check_names.proofs.LongLines.{front_fault, good_front, packed_cause}
use Rattle.history_check_names.proofs.packed_pieces.next_number.Goals as goal

pub returns-in_err-read-clause-wrong : goal.returns-in_err-read-clause-wrong
returns-in_err-read-clause-wrong g c = λ honest.
    let text = bytes_at (g.F.Files.history c.args.files.now).tree packed_place in
    let p = err_from_is_err_and c.from_residual-in_err-read.result c.from_residual-in_err-read.ensures.1 in
    rw (p.1, p.2) (packed_cause g.F.Files.reading_may_fail c.args.kind text c.in_err-read.field-0.0
    (front_fault c.args.kind text c.deref.result.now c.whole_lines-count.result.0.now c.args.most c.whole_lines-count.result.1 c.in_err-read.field-0.0 (c.deref.ensures.value ∙ c.in_ok-front.ensures.bytes honest) c.whole_lines-count.ensures
    c.in_err-read.ensures))

pub returns-clause-good : goal.returns-clause-good
returns-clause-good g c = λ honest.
    let text = bytes_at (g.F.Files.history c.args.files.now).tree packed_place in
    good_front c.args.kind text c.deref.result.now c.whole_lines-count.result.0.now c.args.most c.whole_lines-count.result.1 (c.deref.ensures.value ∙ c.in_ok-front.ensures.bytes honest) c.whole_lines-count.ensures c.in_ok-read.ensures.good
