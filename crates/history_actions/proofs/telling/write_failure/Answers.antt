use Rattle.history_actions.specs.Told.{failure_line, failure_note}
use Rattle.history_actions.proofs.Writing.{behind, one, stopped}
use Rattle.std.proofs.Common.{◌++◌, ap, sym, refl}
use Rattle.history_model.specs.Bytes.{Bytes}
use Rattle.history_actions.proofs.telling.write_failure.Goals as goal

pub returns-in_err-write_failure_line : goal.returns-in_err-write_failure_line
returns-in_err-write_failure_line g c =
    stopped _ _ _ (failure_line c.args.failure.now) (failure_note c.args.kind c.args.failure.now) _ c.from_residual.result c.from_residual.ensures.0 refl c.in_err-write_failure_line.ensures

pub returns : goal.returns
returns g c =
    behind _ _ _ _ (failure_line c.args.failure.now) c.note_of.result.now _ c.write_all.result
    (ap (λ (n : Bytes). failure_line c.args.failure.now ++ n) (sym c.note_of.ensures)) c.in_ok-write_failure_line.ensures
    (one _ _ _ _ c.write_all.result c.write_all.ensures.ok c.write_all.ensures.err)
