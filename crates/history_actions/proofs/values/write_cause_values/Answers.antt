use Rattle.std.proofs.Common.{◌≡◌, ◌∙◌, [], ◌∷◌, inl, inr, ap, subst, sym, decimal}
use Rattle.history_model.specs.Bytes.{Bytes}
use Rattle.history_actions.specs.Told.{Writes, cause_values, values_text}
use Rattle.history_actions.proofs.values.write_cause_values.Goals as goal

pub returns-in-BadLog : goal.returns-in-BadLog
returns-in-BadLog g c =
    let values : cause_values c.args.cause.now ≡ c.in-BadLog.path.items ∷ decimal c.in-BadLog.number ∷ [] = elim c.in-BadLog.is [
      | inl e ↦ ap cause_values e
      | inr e ↦ ap cause_values e
    ] in
    let same = ap (λ (p : Bytes). values_text (p ∷ decimal c.in-BadLog.number ∷ [])) c.deref-in-BadLog.ensures.value ∙ ap values_text (sym values) in
    subst (λ t. Writes (g.E.Sink.contents c.args.errors.now) (g.E.Sink.contents c.write_place.new.errors) (g.E.Sink.has_failed c.write_place.new.errors) t c.write_place.result) same c.write_place.ensures

pub returns-in-Collides : goal.returns-in-Collides
returns-in-Collides g c =
    let values : cause_values c.args.cause.now ≡ c.in-Collides.name.items ∷ c.in-Collides.other.items ∷ [] = ap cause_values c.in-Collides.is in
    let same = (λ i. values_text (c.deref.ensures.value i ∷ c.deref-in-Collides.ensures.value i ∷ [])) ∙ ap values_text (sym values) in
    subst (λ t. Writes (g.E.Sink.contents c.args.errors.now) (g.E.Sink.contents c.write_names.new.errors) (g.E.Sink.has_failed c.write_names.new.errors) t c.write_names.result) same c.write_names.ensures
