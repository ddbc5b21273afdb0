use Rattle.std.proofs.Common.{◌∙◌, ap, option_map, subst, sym, Some}
use Rattle.history_plans.specs.Bases.{IsHeldSource}
use Rattle.history_repository.specs.Meant.{peeled_id}
use Rattle.history_repository.proofs.ReadingFaults.{fault_told}
use Rattle.history_plans.proofs.base.root_source.Goals as goal

pub returns-in_err-rooted-in-Some : goal.returns-in_err-rooted-in-Some
returns-in_err-rooted-in-Some g c = λ r h held known.
    let own = subst (IsHeldSource r) c.in-Some.is held in
    fault_told g.F.Files.reading_may_fail _ c.from_residual.result _ c.from_residual.ensures.1 (c.in_err-rooted-in-Some.ensures r h own.0 own.1 known)

pub returns-in_ok-rooted-in-Some : goal.returns-in_ok-rooted-in-Some
returns-in_ok-rooted-in-Some g c = λ r h held known.
    let own = subst (IsHeldSource r) c.in-Some.is held in
    let read = c.in_ok-rooted-in-Some.ensures r h own.0 own.1 known in
    ((ap Some read.0.0 ∙ sym (ap (option_map peeled_id) c.in-Some.is), read.0.1), read.1)

pub returns-in-None : goal.returns-in-None
returns-in-None g c = λ r h held known. ((sym (ap (option_map peeled_id) c.in-None.is), tt), known)
