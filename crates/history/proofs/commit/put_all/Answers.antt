use Rattle.std.proofs.Common.{◌∙◌, ap, refl, Ok, Err}
use Rattle.std.proofs.lemmas.Result.{err_from_is_err_and}
use Rattle.history.proofs.Puts.{alone_more, alone_then, all_put, begins_put, object_put, object_stopped}
use Rattle.history.proofs.commit.put_all.Goals as goal

pub loop-object-init : goal.loop-object-init
loop-object-init g c = begins_put g.F.Files c.args.objects.now c.args.repository.now

pub loop-object-preserved : goal.loop-object-preserved
loop-object-preserved g c =
    object_put g.F.Files c.args.objects.now c.loop-object.object-index c.object-item.result c.loop-object-test.true c.object-item.is
    c.args.repository.now c.loop-object.repository c.put.new.repository c.loop-object.invariant (Ok tt) c.in_ok-put.ensures.puts refl _ c.in_ok-put.ensures.alone (λ told. cc)

pub returns-in_err-put-clause-alone : goal.returns-in_err-put-clause-alone
returns-in_err-put-clause-alone g c =
    let stopped = err_from_is_err_and c.from_residual.result c.from_residual.ensures.1 in
    alone_then g.F.Files _ _ c.args.repository.now c.loop-object.repository c.put.new.repository c.loop-object.invariant.alone
    (alone_more g.F.Files _ _ c.loop-object.repository c.put.new.repository c.put.ensures.alone (λ told. cc (told, c.in_err-put.was, stopped.1, stopped.2))) (λ never. absurd never)

pub returns-in_err-put-clause-puts : goal.returns-in_err-put-clause-puts
returns-in_err-put-clause-puts g c =
    let stopped = err_from_is_err_and c.from_residual.result c.from_residual.ensures.1 in
    object_stopped g.F.Files c.args.objects.now c.loop-object.object-index c.object-item.result c.loop-object-test.true c.object-item.is
    c.args.repository.now c.loop-object.repository c.put.new.repository c.loop-object.invariant c.put.result c.put.ensures.puts
    c.from_residual.result c.in_err-put.field-0.0 c.in_err-put.was (stopped.1 ∙ ap Err stopped.2)

pub returns-clause-alone : goal.returns-clause-alone
returns-clause-alone g c = alone_more g.F.Files _ _ c.args.repository.now c.loop-object.repository c.loop-object.invariant.alone (λ never. absurd never)

pub returns-clause-puts : goal.returns-clause-puts
returns-clause-puts g c = λ more are. all_put g.F.Files c.args.objects.now c.loop-object.object-index c.args.repository.now c.loop-object.repository c.loop-object-test.false c.loop-object.invariant more are
