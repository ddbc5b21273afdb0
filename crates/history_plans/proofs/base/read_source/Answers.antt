use Rattle.std.proofs.Common.{◌∙◌, ap, subst}
use Rattle.history_repository.specs.Meanings.{commit_or_cause}
use Rattle.history_word.specs.Commands.{IsEdit}
use Rattle.history_word.specs.declared.command.Edit.{Edit}
use Rattle.history_plans.proofs.SourceLemmas.{source_sent}
use Rattle.history_plans.proofs.base.read_source.Goals as goal

pub returns-in_ok-read_word-in-Graft-clause-reads : goal.returns-in_ok-read_word-in-Graft-clause-reads
returns-in_ok-read_word-in-Graft-clause-reads g c = λ r line h is known.
    let read = c.in_ok-read_word-in-Graft.ensures r h known in
    (source_sent r c.in-Graft.graft c.in_ok-read_word-in-Graft.field-0 line (subst (λ (e : Edit). IsEdit e line) c.in-Graft.is is) (read.0.means ∙ ap (commit_or_cause r) c.deref.ensures.value), read.0.rooted)

pub returns-in_ok-read_word-in-Graft-clause-kept : goal.returns-in_ok-read_word-in-Graft-clause-kept
returns-in_ok-read_word-in-Graft-clause-kept g c = λ r h known. (c.in_ok-read_word-in-Graft.ensures r h known).1
