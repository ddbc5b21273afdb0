use Rattle.std.proofs.Common.{◌≡◌, ◌∙◌, ap, subst, sym}
use Rattle.history_model.specs.Bytes.{Bytes}
use Rattle.history_repository.specs.Held.{IsHeld}
use Rattle.history_repository.specs.Meanings.{commit_or_cause}
use Rattle.history_repository.proofs.ReadingFaults.{fault_told}
use Rattle.history_repository.proofs.WordCauses.{commit_told}
use Rattle.history_plans.proofs.moving.read_line.Goals as goal

pub returns-in_err-expected-clause-reads : goal.returns-in_err-expected-clause-reads
returns-in_err-expected-clause-reads g c = λ r sent h is known.
    fault_told g.F.Files.reading_may_fail _ c.from_residual.result _ c.from_residual.ensures.1 (c.in_err-expected.ensures.reads r sent.expect h is.expect known)

pub returns-in_err-word-clause-reads : goal.returns-in_err-word-clause-reads
returns-in_err-word-clause-reads g c = λ r sent h is known.
    fault_told g.F.Files.reading_may_fail _ c.from_residual-in_err-word.result _ c.from_residual-in_err-word.ensures.1 (c.in_err-word.ensures r h (c.in_ok-expected.ensures.kept r h known))

pub returns-in_err-held-clause-reads : goal.returns-in_err-held-clause-reads
returns-in_err-held-clause-reads g c = λ r sent h is known.
    fault_told g.F.Files.reading_may_fail _ c.from_residual-in_err-held.result _ c.from_residual-in_err-held.ensures.1 (c.in_err-held.ensures r h (c.in_ok-word.ensures r h (c.in_ok-expected.ensures.kept r h known)).1)

pub returns-clause-reads : goal.returns-clause-reads
returns-clause-reads g c = λ r sent h is known.
    let read = c.in_ok-word.ensures r h (c.in_ok-expected.ensures.kept r h known) in
    let word = read.0.means ∙ ap (commit_or_cause r) (c.deref.ensures.value ∙ is.word) in
    let place : c.deref-2.result.now ≡ sent.name = c.deref-2.ensures.value ∙ is.name in
    record {
      name = is.name;
      expected = c.in_ok-expected.ensures.reads r sent.expect h is.expect known;
      held = subst (λ (n : Bytes). IsHeld r n c.in_ok-held.held) place (c.in_ok-held.ensures r h read.1).0;
      word = word;
      commit = sym (commit_told r sent.word c.in_ok-word.word word);
    }

pub returns-clause-kept : goal.returns-clause-kept
returns-clause-kept g c = λ r h known. (c.in_ok-held.ensures r h (c.in_ok-word.ensures r h (c.in_ok-expected.ensures.kept r h known)).1).1
