use Rattle.std.proofs.Common.{◌++◌, [], ◌∷◌, ap, sym}
use Rattle.std.proofs.KnownBytes.{Appends-trans}
use Rattle.history_model.specs.Bytes.{Bytes}
use Rattle.history_actions.proofs.Writing.{behind, one, stopped_behind}
use Rattle.history_actions.specs.Told.{failure_values, values_text}
use Rattle.history_actions.proofs.telling.write_failure_line.Goals as goal

pub returns-in_err-write_values : goal.returns-in_err-write_values
returns-in_err-write_values g c =
    let values = values_text (failure_values c.args.failure.now) in
    stopped_behind _ _ _ _ c.word_of.result.now values (10 ∷ []) _ c.from_residual-in_err-write_values.result c.from_residual-in_err-write_values.ensures.0
    (ap (λ (w : Bytes). (w ++ values) ++ 10 ∷ []) (sym c.word_of.ensures)) c.in_ok-write_all.ensures.ok c.in_err-write_values.ensures

pub returns : goal.returns
returns g c =
    let values = values_text (failure_values c.args.failure.now) in
    behind _ _ _ _ (c.word_of.result.now ++ values) (10 ∷ []) _ c.write_all-2.result
    (ap (λ (w : Bytes). (w ++ values) ++ 10 ∷ []) (sym c.word_of.ensures))
    (Appends-trans _ _ _ c.word_of.result.now values c.in_ok-write_all.ensures.ok c.in_ok-write_values.ensures)
    (one _ _ _ _ c.write_all-2.result c.write_all-2.ensures.ok c.write_all-2.ensures.err)
