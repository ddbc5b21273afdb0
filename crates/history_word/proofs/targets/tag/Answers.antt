use Rattle.history_model.specs.Lines.{TagHeading}
use Rattle.history_word.specs.declared.heading.Heading.TheVariants as heading
use Rattle.history_word.specs.declared.heading.Opening.TheVariants as opening
use Rattle.history_word.proofs.TargetLemmas.{target_bare, target_said}
use Rattle.history_word.proofs.targets.tag.Goals as goal

pub returns-in_err-target : goal.returns-in_err-target
returns-in_err-target c = rw c.from_residual.ensures (target_bare TagHeading _ c.in_err-target.ensures)

pub returns : goal.returns
returns c = target_said TagHeading (λ to. heading.Opening (opening.Tag to)) (λ to name e word told. told) _ _ c.in_ok-target.ensures
