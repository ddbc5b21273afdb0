use Rattle.std.proofs.Common.{◌∙◌, [], ◌∷◌, ap, subst}
use Rattle.history_model.specs.Bytes.{Bytes}
use Rattle.history_actions.specs.Told.{Writes, values_text}
use Rattle.history_actions.proofs.values.write_number.Goals as goal

pub returns : goal.returns
returns g c =
    subst (λ (d : Bytes). Writes (g.E.Sink.contents c.args.errors.now) (g.E.Sink.contents c.write_value.new.errors) (g.E.Sink.has_failed c.write_value.new.errors) (values_text (d ∷ [])) c.write_value.result)
    (c.as_bytes.ensures.value ∙ c.format.ensures.text) c.write_value.ensures
