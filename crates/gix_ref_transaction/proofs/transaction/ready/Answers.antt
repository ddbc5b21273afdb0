use Rattle.std.proofs.Common.{subst, List}
use Rattle.std.proofs.lemmas.Result.{IfErr-weaker, err_from_is_err_and}
use Rattle.gix_ref_edit.specs.declared.change.RefEdit.{RefEdit}
use Rattle.gix_ref_store.specs.Lookups.{reads_with}
use Rattle.gix_ref_store.specs.Stores.{base_of}
use Rattle.gix_ref_transaction.specs.Causes.{NotAllowed}
use Rattle.gix_ref_transaction.proofs.Readies.{are_ready, not_allowed, splitting_fault}
use Rattle.gix_ref_transaction.proofs.transaction.ready.Goals as goal

pub returns-in_err-pre_process-clause-failed : goal.returns-in_err-pre_process-clause-failed
returns-in_err-pre_process-clause-failed g c = λ honest.
    let tree = (g.F.Files.history c.args.store.now.files).tree in
    let p = err_from_is_err_and c.from_residual.result c.from_residual.ensures.1 in
    rw (p.1, p.2) (splitting_fault (reads_with c.args.store.now tree c.args.packed) (base_of c.args.store.now) c.args.store.now.options.precompose_unicode tree g.F.Files.reading_may_fail c.args.edits.now.items
    (g.F.Files.is_honest c.args.store.now.files) honest c.pre_process.new.self.items c.in_err-pre_process.field-0.0 c.in_err-pre_process.ensures.failed)

pub returns-clause-failed : goal.returns-clause-failed
returns-clause-failed g c = λ honest.
    let tree = (g.F.Files.history c.args.store.now.files).tree in
    IfErr-weaker c.allowed.result _ _ (λ error why. not_allowed (reads_with c.args.store.now tree c.args.packed) (base_of c.args.store.now) c.args.store.now.options.precompose_unicode tree g.F.Files.reading_may_fail c.args.edits.now.items
    c.pre_process.new.self.items error (_, c.in_ok-pre_process.ensures.splits honest)
    (subst (λ (es : List RefEdit). NotAllowed (base_of c.args.store.now) c.args.store.now.options.precompose_unicode es error) c.as_slice.ensures.value why)) c.allowed.ensures.failed

pub returns-clause-ready : goal.returns-clause-ready
returns-clause-ready g c =
    are_ready (base_of c.args.store.now) c.args.store.now.options.precompose_unicode c.pre_process.new.self.items c.as_slice.result.now c.allowed.result c.as_slice.ensures.value c.in_ok-pre_process.ensures.once
    c.allowed.ensures.known c.allowed.ensures.apart c.allowed.ensures.paths
