use Rattle.history_model.specs.Lines.{ToHeading}
use Rattle.history_word.specs.declared.heading.Heading.TheVariants.{To}
use Rattle.history_word.proofs.TargetLemmas.{target_bare, target_said}
use Rattle.history_word.proofs.targets.to.Goals as goal

pub returns-in_err-target : goal.returns-in_err-target
returns-in_err-target c = rw c.from_residual.ensures (target_bare ToHeading _ c.in_err-target.ensures)

pub returns : goal.returns
returns c = target_said ToHeading To (λ to name e word told. told) _ _ c.in_ok-target.ensures
