use Rattle.std.proofs.Common.{option_map, refl, subst}
use Rattle.std.proofs.lemmas.Result.{err_from_is_err_and}
use Rattle.gix_ref_format.specs.PackedBuffer.{KeepsFile}
use Rattle.gix_ref_format.specs.PackedKept.{kept}
use Rattle.history_check_objects.specs.Stored.{facts_in}
use Rattle.history_check_names.specs.Causes.{HasCause}
use Rattle.history_check_names.specs.Sound.{IsSound}
use Rattle.history_check_names.proofs.Surveyed.{fault_alone, part_stands, seen_so, text_lent}
use Rattle.history_check_names.proofs.survey.survey_names.Goals as goal

pub test_all-requires : goal.test_all-requires
test_all-requires g c =
    text_lent g.F.Files.is_honest g.F.Files.history c.files.result.now c.args.names.now.store.files c.as_deref.result _ c.unwrap_or-bytes.result.now c.in_ok-text.text
    c.files.ensures (λ i. (c.unwrap_or-bytes.ensures i).now) refl c.as_deref.ensures.value c.in_ok-text.ensures.found

pub returns-in-Ok-clause-stands : goal.returns-in-Ok-clause-stands
returns-in-Ok-clause-stands g c = λ honest.
    let tree = (g.F.Files.history c.args.names.now.store.files).tree in
    let facts = facts_in c.args.stored.now in
    part_stands c.args.names.now.kind facts tree c.in_ok-branch.branch.items (g.met.F.Files.rooted c.args.names.now.store.files honest)
    (seen_so g.F.Files.is_honest (λ files kind. IsSound kind (facts_in c.args.stored.now) (g.F.Files.history files).tree) c.files.result.now c.args.names.now.store.files c.kind.result c.args.names.now.kind c.files.ensures c.kind.ensures honest c.in_ok-test_all.ensures.sound)
    (c.in_ok-branch.ensures.found honest)

pub returns-in_err-branch-clause-wrong : goal.returns-in_err-branch-clause-wrong
returns-in_err-branch-clause-wrong g c = λ honest.
    let tree = (g.F.Files.history c.args.names.now.store.files).tree in
    let facts = facts_in c.args.stored.now in
    let p = err_from_is_err_and c.from_residual.result c.from_residual.ensures.1 in
    rw (p.1, p.2) (c.in_err-branch.ensures.wrong facts honest)

pub returns-in_err-branch-clause-accepted : goal.returns-in_err-branch-clause-accepted
returns-in_err-branch-clause-accepted g c = λ r same are honest stands.
    let tree = (g.F.Files.history c.args.names.now.store.files).tree in
    let facts = facts_in c.args.stored.now in
    let p = err_from_is_err_and c.from_residual.result c.from_residual.ensures.1 in
    rw (p.1, p.2) (fault_alone g.F.Files.reading_may_fail c.args.names.now.kind facts tree r c.in_err-branch.field-0.0 same are stands (c.in_err-branch.ensures.wrong facts honest))

pub returns-in_err-text-clause-wrong : goal.returns-in_err-text-clause-wrong
returns-in_err-text-clause-wrong g c = λ honest.
    let facts = facts_in c.args.stored.now in
    let p = err_from_is_err_and c.from_residual-in_err-text.result c.from_residual-in_err-text.ensures.1 in
    rw (p.1, p.2) (c.in_err-text.ensures.wrong facts honest)

pub returns-in_err-text-clause-accepted : goal.returns-in_err-text-clause-accepted
returns-in_err-text-clause-accepted g c = λ r same are honest stands.
    let tree = (g.F.Files.history c.args.names.now.store.files).tree in
    let facts = facts_in c.args.stored.now in
    let p = err_from_is_err_and c.from_residual-in_err-text.result c.from_residual-in_err-text.ensures.1 in
    rw (p.1, p.2) (fault_alone g.F.Files.reading_may_fail c.args.names.now.kind facts tree r c.in_err-text.field-0.0 same are stands (c.in_err-text.ensures.wrong facts honest))

pub returns-in_err-test_all-clause-accepted : goal.returns-in_err-test_all-clause-accepted
returns-in_err-test_all-clause-accepted g c = λ r same are honest stands.
    let tree = (g.F.Files.history c.args.names.now.store.files).tree in
    let facts = facts_in c.args.stored.now in
    let p = err_from_is_err_and c.from_residual-in_err-test_all.result c.from_residual-in_err-test_all.ensures.1 in
    rw (p.1, p.2) (fault_alone g.F.Files.reading_may_fail c.args.names.now.kind facts tree r c.in_err-test_all.field-0.0 same are stands
    (seen_so g.F.Files.is_honest (λ files kind. HasCause g.F.Files.reading_may_fail kind (facts_in c.args.stored.now) (g.F.Files.history files).tree c.in_err-test_all.field-0.0) c.files.result.now c.args.names.now.store.files c.kind.result c.args.names.now.kind c.files.ensures c.kind.ensures honest
    c.in_err-test_all.ensures.wrong))

pub returns-in-Ok-clause-keeps : goal.returns-in-Ok-clause-keeps
returns-in-Ok-clause-keeps g c = λ honest.
    subst (λ file. KeepsFile c.keep_packed.new.self.kind file (option_map kept c.keep_packed.new.self.packed)) (c.in_ok-text.ensures.found honest) c.in-Ok.ensures.keeps
