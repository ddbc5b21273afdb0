use Rattle.history_actions.proofs.Noted.{of_no_stray}
use Rattle.history_actions.proofs.telling.note_of_cause.Goals as goal

pub returns-in_default : goal.returns-in_default
returns-in_default c = of_no_stray c.args.kind c.args.cause.now c.in_default.not-Stray
