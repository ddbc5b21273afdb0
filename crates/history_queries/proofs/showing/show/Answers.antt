use Rattle.std.proofs.Common.{subst}
use Rattle.history_model.specs.Bytes.{Bytes}
use Rattle.history_model.specs.Commands.{Show}
use Rattle.history_repository.specs.Reads.{OnlyAnswers}
use Rattle.history_queries.proofs.Answered.{unread, handed_on, show_refused}
use Rattle.history_queries.proofs.showing.show.Goals as goal

pub returns-in_err-commit : goal.returns-in_err-commit
returns-in_err-commit g c = λ r path s kept.
    let word = c.deref.result.now in
    let MayFail = g.F.Files.reading_may_fail in
    subst (λ (w : Bytes). OnlyAnswers MayFail r (Show w path) c.from_residual.result) c.deref.ensures.value
    (handed_on MayFail r (Show word path) c.from_residual.result _ c.from_residual.ensures.1
    (unread MayFail r (Show word path) word _ (show_refused r s.whole.whole word path) (c.in_err-commit.ensures r s)))
