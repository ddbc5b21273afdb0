use Rattle.std.proofs.Common.{◌∙◌, sym, subst}
use Rattle.history_actions.proofs.Writing.{is_failed, is_loud, is_told, took}
use Rattle.history_actions.specs.Told.{Took}
use Rattle.history_actions.proofs.telling.report.Goals as goal

pub returns : goal.returns
returns g c =
    let text = is_told c.args.kind c.args.answer.now c.in-Err.failure c.in-Err.is c.in_default-failure.not-Ended in
    record {
      status = is_failed c.args.answer.now c.in-Err.failure c.in-Err.is;
      told = subst (Took (g.E.Sink.contents c.args.errors.now) (g.E.Sink.contents c.write_failure.new.errors) (g.E.Sink.has_failed c.write_failure.new.errors)) (sym text) (took _ _ _ _ c.write_failure.result c.write_failure.ensures);
      silent = λ none. absurd (is_loud _ _ (sym text ∙ none));
    }
