use Rattle.std.proofs.Common.{[], ◌∷◌}
use Rattle.history_actions.proofs.Writing.{behind, one, one_value}
use Rattle.history_actions.proofs.values.write_value.Goals as goal

pub returns : goal.returns
returns g c =
    behind _ _ _ _ (32 ∷ []) c.args.value.now _ c.write_all-2.result (one_value c.args.value.now) c.in_ok-write_all.ensures.ok
    (one _ _ _ _ c.write_all-2.result c.write_all-2.ensures.ok c.write_all-2.ensures.err)
