use Rattle.std.proofs.Common.{◌∙◌, ap, subst}
use Rattle.history_repository.specs.Meanings.{commit_or_cause}
use Rattle.history_word.specs.Commands.{IsExpect}
use Rattle.history_word.specs.declared.command.Expect.{Expect}
use Rattle.history_plans.proofs.BaseLemmas.{at_sent}
use Rattle.history_plans.proofs.base.read_expected.Goals as goal

pub returns-in_ok-read_word-in-At-clause-reads : goal.returns-in_ok-read_word-in-At-clause-reads
returns-in_ok-read_word-in-At-clause-reads g c = λ r sent h is known.
    at_sent r c.in-At.word c.in_ok-read_word-in-At.field-0 sent (subst (λ (e : Expect). IsExpect e sent) c.in-At.is is) ((c.in_ok-read_word-in-At.ensures r h known).0.means ∙ ap (commit_or_cause r) c.deref.ensures.value)

pub returns-in_ok-read_word-in-At-clause-kept : goal.returns-in_ok-read_word-in-At-clause-kept
returns-in_ok-read_word-in-At-clause-kept g c = λ r h known. (c.in_ok-read_word-in-At.ensures r h known).1
