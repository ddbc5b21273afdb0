use Rattle.std.proofs.Common.{◌≡◌, ◌∙◌, subst, sym, arith, length, map-id}
use Rattle.std.proofs.lemmas.Iterator.Adapters.{YieldsList-from_vec}
use Rattle.std.proofs.lemmas.Iterator.Consumers.{YieldsList-end, YieldsList-turn}
use Rattle.history_word.specs.Commands.{AreTos, IsTo}
use Rattle.history_word.specs.declared.command.To.{To}
use Rattle.history_plans.specs.Moving.{IsLine}
use Rattle.history_repository.proofs.ReadingFaults.{fault_told}
use Rattle.history_plans.proofs.LineLemmas.{line_added, none_zip, zip_at}
use Rattle.history_plans.proofs.moving.read_lines.Goals as goal

pub loop-to-init : goal.loop-to-init
loop-to-init g c = λ r h. (λ orders are. none_zip IsTo (IsLine r) orders c.new-lines.result.items c.new-lines.ensures.items are, c.new-read.ensures r)

pub loop-to-preserved : goal.loop-to-preserved
loop-to-preserved g c = λ r h.
    let so_far = c.loop-to.invariant r h in (
      λ orders are. line_added r c.loop-to.yielded c.in-Some.to orders c.loop-to.lines.items c.push.new.self.items c.in_ok-read_line.field-0 are so_far.0 (λ sent is. c.in_ok-read_line.ensures.reads r sent h is so_far.1) c.in_ok-push.ensures.items,
      c.in_ok-read_line.ensures.kept r h so_far.1,
    )

pub returns-in_err-read_line : goal.returns-in_err-read_line
returns-in_err-read_line g c = λ r orders h are.
    let gives = c.into_iter-to-iterator.ensures.into_iter_gives in
    let turn = YieldsList-turn (YieldsList-from_vec {s = c.into_iter-to-iterator.result} c.args.to.items gives.0 (omega (arith, gives.1, c.args.to.ok.0))) c.loop-to.yielded c.loop-to.to-iterator c.loop-to.yielded_by c.next.result c.next.new.self c.in-Some.to c.in-Some.is c.next.ensures.steps in
    let at = zip_at IsTo c.args.to.items orders c.in-Some.to (length c.loop-to.yielded) turn.0 are in
    let is = subst (λ (to : To). IsTo to at.0) (sym turn.1) at.1 in
    fault_told g.F.Files.reading_may_fail _ c.from_residual.result _ c.from_residual.ensures.1 (c.in_err-read_line.ensures.reads r at.0 h is (c.loop-to.invariant r h).1)

pub returns : goal.returns
returns g c = λ r orders h are.
    let gives = c.into_iter-to-iterator.ensures.into_iter_gives in
    let ends = YieldsList-end (YieldsList-from_vec {s = c.into_iter-to-iterator.result} c.args.to.items gives.0 (omega (arith, gives.1, c.args.to.ok.0))) c.loop-to.yielded c.loop-to.to-iterator c.loop-to.yielded_by c.next.result c.next.new.self c.in-None.is c.next.ensures.steps in
    let all : c.loop-to.yielded ≡ c.args.to.items = sym (map-id c.loop-to.yielded) ∙ ends.0 in
    (c.loop-to.invariant r h).0 orders (subst (λ tos. AreTos tos orders) (sym all) are)
