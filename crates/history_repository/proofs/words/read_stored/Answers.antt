use Rattle.std.proofs.Common.{◌≡◌, ◌∙◌, ap, option_map, sym, subst, MatchOption, Option}
use Rattle.std.specs.Prelude.{⊤}
use Rattle.std.specs.Option.{ok_or}
use Rattle.history_model.specs.declared.Cause.TheVariants.{NotACommit}
use Rattle.history_repository.specs.Meant.{HasRoot, peeled_id}
use Rattle.history_repository.specs.declared.stored.PeeledCommit.{PeeledCommit}
use Rattle.history_repository.proofs.ReadingFaults.{fault_told}
use Rattle.history_repository.proofs.words.read_stored.Goals as goal

pub returns-in_err-commit : goal.returns-in_err-commit
returns-in_err-commit g c = λ r value h at known.
    fault_told g.F.Files.reading_may_fail _ c.from_residual.result _ c.from_residual.ensures.1 (c.in_err-commit.ensures r value h at known)

pub returns-in-Some : goal.returns-in-Some
returns-in-Some g c = λ r value h at known.
    let is = c.in_ok-commit.ensures r value h at known in (
      record {
        means = ap (λ found. ok_or found NotACommit) (sym (ap (option_map peeled_id) c.in-Some.is) ∙ is.0.peels);
        rooted = subst (λ (o : Option PeeledCommit). MatchOption o ⊤ (HasRoot r)) c.in-Some.is is.0.rooted;
      },
      is.1,
    )

pub returns-in-None : goal.returns-in-None
returns-in-None g c = λ r value h at known.
    let is = c.in_ok-commit.ensures r value h at known in
    (record { means = ap (λ found. ok_or found NotACommit) (sym (ap (option_map peeled_id) c.in-None.is) ∙ is.0.peels); rooted = tt }, is.1)
