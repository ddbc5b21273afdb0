use Rattle.std.proofs.Common.{◌∙◌, ap, arith, sym}
use Rattle.std.specs.List.{list_any}
use Rattle.std.proofs.lemmas.List.{take_all}
use Rattle.std.proofs.lemmas.List.Folds.{list_any_at}
use Rattle.history_plans.specs.Apart.{names_in, reaches}
use Rattle.history_plans.proofs.ApartLemmas.{lines_reached}
use Rattle.history_plans.proofs.apart.do_lines_collide.Goals as goal

pub returns-then-is_reached : goal.returns-then-is_reached
returns-then-is_reached c =
    let all = names_in c.in_ok-all.all.keys in
    let made = names_in c.in_ok-made.made.keys in
    sym (list_any_at (reaches all made) c.args.lines.now c.loop-line.line-index c.line-item.result c.loop-line-test.true (ap (reaches all made) (sym c.line-item.is) ∙ sym c.is_reached.ensures ∙ c.if-is_reached.true))
    ∙ lines_reached c.args.lines.now all made c.in_ok-all.ensures c.in_ok-made.ensures

pub returns : goal.returns
returns c =
    let all = names_in c.in_ok-all.all.keys in
    let made = names_in c.in_ok-made.made.keys in
    let whole = take_all c.loop-line.line-index c.args.lines.now (omega (arith, c.loop-line-test.false)) in
    sym (sym (lines_reached c.args.lines.now all made c.in_ok-all.ensures c.in_ok-made.ensures) ∙ ap (list_any (reaches all made)) (sym whole) ∙ c.loop-line.invariant)
