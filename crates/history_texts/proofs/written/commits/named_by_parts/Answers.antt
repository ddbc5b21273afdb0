use Rattle.std.proofs.Common.{◌∙◌, sym}
use Rattle.history_texts.proofs.CommitNames.{names_of_commit, none_named, over_limit}
use Rattle.history_texts.proofs.written.commits.named_by_parts.Goals as goal

pub returns-in_default : goal.returns-in_default
returns-in_default c = none_named c.args.digests _ (rw c.in_default.is at c.in_ok-commit.ensures)

pub returns-then-is_within_limits : goal.returns-then-is_within_limits
returns-then-is_within_limits c =
    let told = rw c.in-Some.is at c.in_ok-commit.ensures in
    names_of_commit c.args.digests _ c.in-Some.commit _ told.0 told.1 (sym c.is_within_limits.ensures ∙ c.if-is_within_limits.true) c.in_ok-names_of.ensures

pub returns : goal.returns
returns c =
    let told = rw c.in-Some.is at c.in_ok-commit.ensures in
    over_limit c.args.digests _ c.in-Some.commit told.0 told.1 (sym c.is_within_limits.ensures ∙ c.if-is_within_limits.false)
