use Rattle.std.proofs.Common.{◌∙◌, ap, ◌∷◌, ◌++◌}
use Rattle.history_check_names.proofs.LogTexts.{no_first, no_second, no_third}
use Rattle.history_check_names.proofs.log.LineParts.cut.Goals as goal

pub returns-in_err-before : goal.returns-in_err-before
returns-in_err-before c = rw c.from_residual.ensures (no_first c.args.line.now c.in_err-before.ensures)

pub returns-in_err-after : goal.returns-in_err-after
returns-in_err-after c =
    rw c.from_residual-in_err-after.ensures
    (no_second c.args.line.now c.in_ok-before.before.now c.in_ok-before.rest.now c.in_ok-before.ensures.0 c.in_ok-before.ensures.1 c.in_err-after.ensures)

pub returns-in_err-actor : goal.returns-in_err-actor
returns-in_err-actor c =
    rw c.from_residual-in_err-actor.ensures
    (no_third c.args.line.now c.in_ok-before.before.now c.in_ok-after.after.now c.in_ok-after.rest.now
    (c.in_ok-before.ensures.0 ∙ ap (λ rest. c.in_ok-before.before.now ++ 32 ∷ rest) c.in_ok-after.ensures.0) c.in_ok-before.ensures.1 c.in_ok-after.ensures.1 c.in_err-actor.ensures)

pub returns : goal.returns
returns c = record {
  spelled = c.in_ok-before.ensures.0 ∙ ap (λ rest. c.in_ok-before.before.now ++ 32 ∷ rest) (c.in_ok-after.ensures.0 ∙ ap (λ rest. c.in_ok-after.after.now ++ 32 ∷ rest) c.in_ok-actor.ensures.0);
  before = c.in_ok-before.ensures.1;
  after = c.in_ok-after.ensures.1;
  actor = c.in_ok-actor.ensures.1;
}
