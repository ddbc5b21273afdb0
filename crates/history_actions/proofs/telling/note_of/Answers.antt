use Rattle.history_actions.proofs.Noted.{of_no_cause}
use Rattle.history_actions.proofs.telling.note_of.Goals as goal

pub returns-in_default : goal.returns-in_default
returns-in_default c = of_no_cause c.args.kind c.args.failure.now c.in_default.not-Unopened
