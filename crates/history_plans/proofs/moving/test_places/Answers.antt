use Rattle.std.proofs.Common.{◌∙◌, ◌||◌, ap, cond, sym, None, Some}
use Rattle.std.specs.List.{list_any}
use Rattle.history_model.specs.declared.Cause.TheVariants.{Collides}
use Rattle.history_plans.specs.Moving.{bars}
use Rattle.history_plans.proofs.ApartLemmas.{collide_parts}
use Rattle.history_plans.proofs.moving.test_places.Goals as goal

pub returns-then-branch : goal.returns-then-branch
returns-then-branch g c = λ r sent h are named.
    ap (λ b. cond b (Some Collides) None) (collide_parts r sent c.args.lines.now are
    ∙ ap (λ b. b || list_any (bars r) sent.to) (sym c.in_ok-do_lines_collide.ensures ∙ c.if-branch.true))

pub returns-then-branch-2 : goal.returns-then-branch-2
returns-then-branch-2 g c = λ r sent h are named.
    ap (λ b. cond b (Some Collides) None) (collide_parts r sent c.args.lines.now are
    ∙ ap (λ b. b || list_any (bars r) sent.to) (sym c.in_ok-do_lines_collide.ensures ∙ c.if-branch.false)
    ∙ sym (c.in_ok-have_barred.ensures r sent.to h are named) ∙ c.if-branch-2.true)

pub returns : goal.returns
returns g c = λ r sent h are named. (
  ap (λ b. cond b (Some Collides) None) (collide_parts r sent c.args.lines.now are
      ∙ ap (λ b. b || list_any (bars r) sent.to) (sym c.in_ok-do_lines_collide.ensures ∙ c.if-branch.false)
      ∙ sym (c.in_ok-have_barred.ensures r sent.to h are named) ∙ c.if-branch-2.false),
  tt,
)
