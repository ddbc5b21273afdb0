use Rattle.std.proofs.Common.{◌∙◌}
use Rattle.std.proofs.lemmas.Result.{err_from_is_err_and}
use Rattle.gix_ref_edit.proofs.SplitLemmas.{fault_before}
use Rattle.gix_ref_edit.proofs.splits.+further.Goals as goal

pub returns-in_err-rest-clause-failed : goal.returns-in_err-rest-clause-failed
returns-in_err-rest-clause-failed g t c =
    let p = err_from_is_err_and c.from_residual-in_err-rest.result c.from_residual-in_err-rest.ensures.1 in
    rw (p.1, p.2)
    (fault_before (g.F.FindTarget.is_honest c.args.finder.now) (g.F.FindTarget.may_fail c.args.finder.now) (g.F.FindTarget.targets c.args.finder.now)
    c.args.rounds c.args.edits.now c.as_slice.result.now c.in_err-rest.field-0.0 c.if-rounds-eq0.false
    (λ honest. c.as_slice.ensures.value ∙ c.in_ok-next.ensures.found honest)
    c.in_err-rest.ensures.failed)
