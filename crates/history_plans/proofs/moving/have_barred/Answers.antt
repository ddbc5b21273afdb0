use Rattle.std.proofs.Common.{◌≡◌, ◌∙◌, ◌+◌, ap, arith, refl, sym, take, Err}
use Rattle.std.specs.List.{list_any}
use Rattle.std.proofs.lemmas.List.{take_all}
use Rattle.std.proofs.lemmas.Result.{err_from_is_err_and}
use Rattle.history_plans.specs.Moving.{IsLine, bars}
use Rattle.history_repository.proofs.ReadingFaults.{gave_fault, gives_fault}
use Rattle.history_plans.proofs.LineLemmas.{named_at, one_more, one_there}
use Rattle.history_plans.proofs.SideBySide.{long_zip, next_of}
use Rattle.history_plans.proofs.moving.have_barred.Goals as goal

pub loop-line-init : goal.loop-line-init
loop-line-init g c = λ r tos h are named. refl

pub loop-line-preserved : goal.loop-line-preserved
loop-line-preserved g c = λ r tos h are named.
    let next = next_of (IsLine r) tos c.args.lines.now are c.loop-line.line-index c.line-item.result c.loop-line-test.true c.line-item.is in
    let formed = named_at tos (take c.loop-line.line-index tos) next.2 next.0 next.3 named in
    one_more (bars r) (take c.loop-line.line-index tos) (take (c.loop-line.line-index + 1) tos) next.0 (next.4 (c.loop-line.line-index + 1) (omega arith)) (c.loop-line.invariant r tos h are named)
    (sym (c.in_ok-is_barred.ensures r next.0 h next.1 formed) ∙ c.if-branch.false)

pub returns-in_err-is_barred : goal.returns-in_err-is_barred
returns-in_err-is_barred g c = λ r tos h are named.
    let MayFail = g.F.Files.reading_may_fail in
    let next = next_of (IsLine r) tos c.args.lines.now are c.loop-line.line-index c.line-item.result c.loop-line-test.true c.line-item.is in
    let formed = named_at tos (take c.loop-line.line-index tos) next.2 next.0 next.3 named in
    let stopped = err_from_is_err_and c.from_residual.result c.from_residual.ensures.1 in
    gives_fault MayFail (λ barred. barred ≡ list_any (bars r) tos) c.from_residual.result c.in_err-is_barred.field-0.0 (stopped.1 ∙ ap Err stopped.2)
    (gave_fault MayFail (λ barred. barred ≡ bars r next.0) c.is_barred.result c.in_err-is_barred.field-0.0 c.in_err-is_barred.was (c.is_barred.ensures r next.0 h next.1 formed))

pub returns-then-branch : goal.returns-then-branch
returns-then-branch g c = λ r tos h are named.
    let next = next_of (IsLine r) tos c.args.lines.now are c.loop-line.line-index c.line-item.result c.loop-line-test.true c.line-item.is in
    let formed = named_at tos (take c.loop-line.line-index tos) next.2 next.0 next.3 named in
    sym (one_there (bars r) (take c.loop-line.line-index tos) next.2 tos next.0 next.3 (sym (c.in_ok-is_barred.ensures r next.0 h next.1 formed) ∙ c.if-branch.true))

pub returns : goal.returns
returns g c = λ r tos h are named.
    let all = take_all c.loop-line.line-index tos (omega (arith, c.loop-line-test.false, long_zip (IsLine r) tos c.args.lines.now are)) in
    sym (ap (list_any (bars r)) (sym all) ∙ c.loop-line.invariant r tos h are named)
