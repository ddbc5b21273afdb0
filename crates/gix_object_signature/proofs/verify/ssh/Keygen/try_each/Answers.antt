use Rattle.std.proofs.Common.{◌∙◌, ap, sym, Err, Ok}
use Rattle.std.proofs.lemmas.Result.{err_from_is_err_and}
use Rattle.gix_object_signature.specs.Run.{Answers}
use Rattle.gix_object_signature.specs.VerifyingSsh.{question_of, verify_request}
use Rattle.gix_object_signature.proofs.TryLemmas.{none_left, ended, refused}
use Rattle.gix_object_signature.proofs.verify.ssh.Keygen.try_each.Goals as goal

pub loop-name-init : goal.loop-name-init
loop-name-init g c = (c.requires, λ result after rest. rest)

pub loop-name-preserved : goal.loop-name-preserved
loop-name-preserved g c = (
  c.verify.ensures.callable,
  λ result after rest.
      c.loop-name.invariant.1 result after
      (refused (Answers g.F.FnMut) (verify_request (question_of c.args.self.now) c.args.content.now) c.loop-name.runner c.verify.new.runner after c.args.names.now c.loop-name.name-index _ c.loop-name.last c.in_ok-last.last result
      c.loop-name-test.true (rw c.in_ok-last.was at c.verify.ensures.told) (sym c.if-agrees.ensures) rest),
)

pub returns-in_err-last-clause-told : goal.returns-in_err-last-clause-told
returns-in_err-last-clause-told g c =
    let stopped = err_from_is_err_and c.from_residual.result c.from_residual.ensures.1 in
    rw (stopped.1 ∙ ap Err stopped.2)
    (c.loop-name.invariant.1 (Err c.in_err-last.field-0.0) c.verify.new.runner
    (ended (Answers g.F.FnMut) (verify_request (question_of c.args.self.now) c.args.content.now) c.loop-name.runner c.verify.new.runner c.args.names.now c.loop-name.name-index _ c.loop-name.last (Err c.in_err-last.field-0.0)
    c.loop-name-test.true (rw c.in_err-last.was at c.verify.ensures.told) tt))

pub returns-then-agrees-clause-told : goal.returns-then-agrees-clause-told
returns-then-agrees-clause-told g c =
    c.loop-name.invariant.1 (Ok c.in_ok-last.last) c.verify.new.runner
    (ended (Answers g.F.FnMut) (verify_request (question_of c.args.self.now) c.args.content.now) c.loop-name.runner c.verify.new.runner c.args.names.now c.loop-name.name-index _ c.loop-name.last (Ok c.in_ok-last.last)
    c.loop-name-test.true (rw c.in_ok-last.was at c.verify.ensures.told) (sym c.if-agrees.ensures))

pub returns-clause-told : goal.returns-clause-told
returns-clause-told g c =
    c.loop-name.invariant.1 (Ok c.loop-name.last) c.loop-name.runner
    (none_left (Answers g.F.FnMut) (verify_request (question_of c.args.self.now) c.args.content.now) c.loop-name.runner c.args.names.now c.loop-name.name-index c.loop-name.last c.loop-name-test.false)
