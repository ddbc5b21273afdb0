use Rattle.std.proofs.Common.{◌∙◌, sym, ◌<◌, ◌≤◌, arith}
use Rattle.history_recovery.proofs.Lines.{shorter_too, ends_there, nothing_left}
use Rattle.history_recovery.proofs.cutting.whole_lines.Goals as goal
use Rattle.history_recovery.proofs.cutting.whole_lines.Goals.{then-loop-end-test+else-text-end-ne10, else-loop-end-test}

pub loop-end-preserved : goal.loop-end-preserved
loop-end-preserved c =
    let some : 0 < c.loop-end.end = omega arith in
    (omega arith, c.loop-end.invariant.1 ∙ shorter_too c.loop-end.end c.args.text.now some c.loop-end.invariant.0 c.if-text-end-ne10.true)

pub returns : goal.returns
returns c = elim c.loop-end-test.branch [
  | then-loop-end-test+else-text-end-ne10 w ↦
      let some : 0 < c.loop-end.end = omega arith in
      sym (c.loop-end.invariant.1 ∙ ends_there c.loop-end.end c.args.text.now some c.loop-end.invariant.0 w.if-text-end-ne10.false)
  | else-loop-end-test w ↦
      let none : c.loop-end.end ≤ 0 = omega arith in
      sym (c.loop-end.invariant.1 ∙ nothing_left c.loop-end.end c.args.text.now none)
]
