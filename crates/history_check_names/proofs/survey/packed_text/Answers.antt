use Rattle.std.proofs.lemmas.Result.{err_from_is_err_and}
use Rattle.gix_ref_file.specs.Tree.{bytes_at}
use Rattle.history_model.specs.Places.{packed_place}
use Rattle.history_check_names.specs.PackedRead.{IsPackedCause}
use Rattle.history_check_names.proofs.Surveyed.{seen_so}
use Rattle.history_check_names.proofs.Told.{long_cause}
use Rattle.history_check_names.proofs.survey.packed_text.Goals as goal

pub returns-in_err-test_long_packed-clause-wrong : goal.returns-in_err-test_long_packed-clause-wrong
returns-in_err-test_long_packed-clause-wrong g c = λ facts honest.
    let tree = (g.F.Files.history c.args.names.now.store.files).tree in
    let p = err_from_is_err_and c.from_residual.result c.from_residual.ensures.1 in
    rw (p.1, p.2) (long_cause g.F.Files.reading_may_fail c.args.names.now.kind facts tree c.in_err-test_long_packed.field-0.0
    (seen_so g.F.Files.is_honest (λ files kind. IsPackedCause g.F.Files.reading_may_fail kind (bytes_at (g.F.Files.history files).tree packed_place) c.in_err-test_long_packed.field-0.0) c.files.result.now c.args.names.now.store.files c.kind.result
    c.args.names.now.kind c.files.ensures c.kind.ensures honest c.in_err-test_long_packed.ensures.wrong))
