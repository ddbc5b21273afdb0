use Rattle.std.proofs.Common.{◌∙◌, sym}
use Rattle.history_repository.proofs.ReadingFaults.{fault_told}
use Rattle.history_repository.proofs.stored.peeled.Goals as goal

pub returns-in-Some : goal.returns-in-Some
returns-in-Some g c r value stands at known = (known.objects c.args.id c.in-Some.commit (sym c.known.ensures ∙ c.in-Some.is), known)

pub returns-in_err-commit : goal.returns-in_err-commit
returns-in_err-commit g c r value stands at known =
    fault_told g.F.Files.reading_may_fail _ c.from_residual.result _ c.from_residual.ensures.1 (c.in_err-commit.ensures r value stands at known)

pub returns : goal.returns
returns g c r value stands at known =
    let read = c.in_ok-commit.ensures r value stands at known in
    (read.0, c.in_ok-know.ensures r read.1 read.0)
