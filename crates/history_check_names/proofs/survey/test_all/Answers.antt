use Rattle.std.proofs.Common.{subst}
use Rattle.std.proofs.lemmas.Result.{err_from_is_err_and}
use Rattle.history_check_names.specs.PackedRead.{IsPackedFault, IsReadOf}
use Rattle.history_check_objects.specs.Stored.{facts_in}
use Rattle.history_check_names.proofs.Surveyed.{all_tested}
use Rattle.history_check_names.proofs.Told.{fault_cause}
use Rattle.history_check_names.proofs.survey.test_all.Goals as goal

pub test_folder-requires : goal.test_folder-requires
test_folder-requires g c = λ honest. subst (λ t. IsReadOf c.args.kind t c.in_ok-packed.packed) (c.requires honest) c.in_ok-packed.ensures

pub test_records-requires : goal.test_records-requires
test_records-requires g c = λ honest. subst (λ t. IsReadOf c.args.kind t c.in_ok-packed.packed) (c.requires honest) c.in_ok-packed.ensures

pub returns-in_err-packed-clause-wrong : goal.returns-in_err-packed-clause-wrong
returns-in_err-packed-clause-wrong g c = λ honest.
    let tree = (g.F.Files.history c.args.files.now).tree in
    let facts = facts_in c.args.stored.now in
    let p = err_from_is_err_and c.from_residual.result c.from_residual.ensures.1 in
    rw (p.1, p.2) (fault_cause g.F.Files.reading_may_fail c.args.kind facts tree c.in_err-packed.field-0.0
    (subst (λ t. IsPackedFault c.args.kind t c.in_err-packed.field-0.0) (c.requires honest) c.in_err-packed.ensures))

pub returns-clause-sound : goal.returns-clause-sound
returns-clause-sound g c = λ honest.
    let tree = (g.F.Files.history c.args.files.now).tree in
    let read = subst (λ t. IsReadOf c.args.kind t c.in_ok-packed.packed) (c.requires honest) c.in_ok-packed.ensures in
    all_tested c.args.kind (facts_in c.args.stored.now) tree c.test_records.result read.good (c.in_ok-test_folder.ensures.sound honest) (c.test_records.ensures.sound honest)
