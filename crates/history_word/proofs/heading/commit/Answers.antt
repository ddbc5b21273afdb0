use Rattle.history_word.proofs.TargetLemmas.{commit_bare}
use Rattle.history_word.proofs.heading.commit.Goals as goal

pub returns-in_err-expect : goal.returns-in_err-expect
returns-in_err-expect c = rw c.from_residual-in_err-expect.ensures (commit_bare _ _ _ c.in_ok-name.ensures.found c.in_err-expect.ensures)
