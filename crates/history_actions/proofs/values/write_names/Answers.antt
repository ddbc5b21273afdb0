use Rattle.history_actions.proofs.Writing.{behind, stopped, two_values}
use Rattle.history_actions.proofs.values.write_names.Goals as goal

pub returns-in_err-write_value : goal.returns-in_err-write_value
returns-in_err-write_value g c =
    stopped _ _ _ _ _ _ c.from_residual.result c.from_residual.ensures.0 (two_values c.args.name.now c.args.other.now) c.in_err-write_value.ensures

pub returns : goal.returns
returns g c =
    behind _ _ _ _ _ _ _ c.write_value-2.result (two_values c.args.name.now c.args.other.now) c.in_ok-write_value.ensures c.write_value-2.ensures
