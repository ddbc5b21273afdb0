use Rattle.history_actions.proofs.Writing.{behind, stopped, two_values}
use Rattle.history_actions.proofs.values.write_named.Goals as goal

pub returns-in_err-write_id : goal.returns-in_err-write_id
returns-in_err-write_id g c =
    stopped _ _ _ _ _ _ c.from_residual.result c.from_residual.ensures.0 (two_values _ _) c.in_err-write_id.ensures

pub returns : goal.returns
returns g c =
    behind _ _ _ _ _ _ _ c.write_namer.result (two_values _ _) c.in_ok-write_id.ensures c.write_namer.ensures
