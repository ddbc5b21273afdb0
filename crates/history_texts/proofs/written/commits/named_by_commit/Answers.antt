use Rattle.std.proofs.lemmas.Result.{IfOk-weaker}
use Rattle.history_texts.proofs.CommitNames.{content_answered, spelled_so}
use Rattle.history_texts.proofs.written.commits.named_by_commit.Goals as goal

pub returns-in-Ok : goal.returns-in-Ok
returns-in-Ok c =
    IfOk-weaker c.named_by_parts.result _ _ (λ found told. content_answered c.args.digests c.args.content.now _ found c.in-Ok.ensures.read c.in-Ok.ensures.every told) c.named_by_parts.ensures

pub returns-in_default : goal.returns-in_default
returns-in_default c named names = c.in_default.not-Memory (c.in-Err.ensures.every names.parts (spelled_so c.args.digests c.args.content.now named names))
