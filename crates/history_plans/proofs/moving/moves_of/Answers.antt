use Rattle.std.proofs.Common.{◌≡◌, ◌∙◌, arith, map-id, subst, sym}
use Rattle.std.specs.List.{AllZip}
use Rattle.std.proofs.lemmas.Iterator.Adapters.{YieldsList-from_vec}
use Rattle.std.proofs.lemmas.Iterator.Consumers.{YieldsList-end}
use Rattle.history_plans.specs.Moving.{IsLineMove}
use Rattle.history_plans.proofs.LineLemmas.{moves_added, none_zip, swapped, turned}
use Rattle.history_plans.proofs.moving.moves_of.Goals as goal

pub loop-line-init : goal.loop-line-init
loop-line-init c = λ r sent orders are kind teller. none_zip (swapped r) (IsLineMove r sent) orders c.new-moves.result.items c.new-moves.ensures.items are

pub loop-line-preserved : goal.loop-line-preserved
loop-line-preserved c = λ r sent orders are kind teller.
    moves_added r sent c.loop-line.yielded c.in-Some.line orders c.loop-line.moves.items c.push.new.self.items c.in_ok-into_moves.field-0 are (λ front are. c.loop-line.invariant r sent front are kind teller)
    (λ to is. c.in_ok-into_moves.ensures r sent to is kind teller) c.in_ok-push.ensures.items

pub returns : goal.returns
returns c = λ r sent are kind teller.
    let gives = c.into_iter-line-iterator.ensures.into_iter_gives in
    let ends = YieldsList-end (YieldsList-from_vec {s = c.into_iter-line-iterator.result} c.args.lines.items gives.0 (omega (arith, gives.1, c.args.lines.ok.0))) c.loop-line.yielded c.loop-line.line-iterator c.loop-line.yielded_by c.next.result c.next.new.self c.in-None.is c.next.ensures.steps in
    let all : c.loop-line.yielded ≡ c.args.lines.items = sym (map-id c.loop-line.yielded) ∙ ends.0 in
    c.loop-line.invariant r sent sent.to (subst (λ lines. AllZip (swapped r) lines sent.to) (sym all) (turned r sent.to c.args.lines.items are)) kind teller
