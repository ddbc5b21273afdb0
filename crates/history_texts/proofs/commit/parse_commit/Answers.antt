use Rattle.std.proofs.lemmas.Result.{IfOk-weaker}
use Rattle.history_texts.proofs.CommitTexts.{none_answered, value_answered, value_spelled}
use Rattle.history_texts.proofs.commit.parse_commit.Goals as goal

pub returns-in-Ok-clause-read : goal.returns-in-Ok-clause-read
returns-in-Ok-clause-read c =
    IfOk-weaker c.commit_of.result _ _ (λ found told value formed is.
    value_answered c.args.kind value _ found formed (c.in-Ok.ensures.every _ (value_spelled c.args.kind value c.args.content.now formed is)) told) c.commit_of.ensures

pub returns-in_default-clause-read : goal.returns-in_default-clause-read
returns-in_default-clause-read c value formed is =
    c.in_default.not-Memory (c.in-Err.ensures.every _ (value_spelled c.args.kind value c.args.content.now formed is))

pub returns-in-Ok-clause-none : goal.returns-in-Ok-clause-none
returns-in-Ok-clause-none c =
    IfOk-weaker c.commit_of.result _ _ (λ found told. none_answered c.args.kind c.args.content.now _ found c.in-Ok.ensures.every told) c.commit_of.ensures

pub returns-in_default-clause-none : goal.returns-in_default-clause-none
returns-in_default-clause-none c parts spelled plain = c.in_default.not-Memory (c.in-Err.ensures.every parts spelled)
