use Rattle.std.proofs.Common.{◌≡◌, ◌∙◌, ap, rules, true, false, Err, Ok}
use Rattle.std.proofs.lemmas.Result.{err_from_is_err_and}
use Rattle.gix_object_signature.specs.Run.{Answers}
use Rattle.gix_object_signature.specs.VerifyingSsh.{NotFound, NoSigner, finds, question_of}
use Rattle.gix_object_signature.proofs.TryLemmas.{asked_by_found}
use Rattle.gix_object_signature.proofs.verify.ssh.Keygen.ask.Goals as goal

pub returns-in_err-found-clause-told : goal.returns-in_err-found-clause-told
returns-in_err-found-clause-told g c =
    let stopped = err_from_is_err_and c.from_residual.result c.from_residual.ensures.1 in
    NotFound c.in_err-found.field-0.0 c.in_err-found.ensures.told (stopped.1 ∙ ap Err stopped.2)

pub returns-in_err-answer-clause-told : goal.returns-in_err-answer-clause-told
returns-in_err-answer-clause-told g c =
    let stopped = err_from_is_err_and c.from_residual-in_err-answer.result c.from_residual-in_err-answer.ensures.1 in
    let none : finds c.in_ok-found.found ≡ false = search rules in
    NoSigner c.in_ok-found.found _ c.in_ok-found.ensures.told none (Err c.in_err-answer.field-0.0) c.in_err-answer.ensures.told (stopped.1 ∙ ap Err stopped.2)

pub returns-then-not-finds-clause-told : goal.returns-then-not-finds-clause-told
returns-then-not-finds-clause-told g c =
    let none : finds c.in_ok-found.found ≡ false = search rules in
    NoSigner c.in_ok-found.found _ c.in_ok-found.ensures.told none (Ok c.in_ok-answer.answer) c.in_ok-answer.ensures.told c.outcome.ensures

pub returns-in_err-answer-2-clause-told : goal.returns-in_err-answer-2-clause-told
returns-in_err-answer-2-clause-told g c =
    let stopped = err_from_is_err_and c.from_residual-in_err-answer-2.result c.from_residual-in_err-answer-2.ensures.1 in
    let some : finds c.in_ok-found.found ≡ true = search rules in
    asked_by_found (Answers g.F.FnMut) c.args.runner.now _ _ (question_of c.args.self.now) c.args.content.now c.args.minimum_trust c.in_ok-found.found (Err c.in_err-answer-2.field-0.0) _
    c.in_ok-found.ensures.told some c.in_err-answer-2.ensures.told (stopped.1 ∙ ap Err stopped.2)

pub returns-clause-told : goal.returns-clause-told
returns-clause-told g c =
    let some : finds c.in_ok-found.found ≡ true = search rules in
    asked_by_found (Answers g.F.FnMut) c.args.runner.now _ _ (question_of c.args.self.now) c.args.content.now c.args.minimum_trust c.in_ok-found.found (Ok c.in_ok-answer-2.answer) _
    c.in_ok-found.ensures.told some c.in_ok-answer-2.ensures.told c.outcome-2.ensures
