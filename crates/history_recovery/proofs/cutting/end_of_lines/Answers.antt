use Rattle.std.proofs.Common.{◌∙◌, ◌+◌, ◌-◌, length, take, sym, ap, arith}
use Rattle.std.specs.Prelude.{min}
use Rattle.std.proofs.lemmas.List.{take_all}
use Rattle.gix_ref_file.specs.Tree.{bytes_at}
use Rattle.history_model.specs.Logs.{whole_lines}
use Rattle.history_recovery.specs.Clearing.{max_piece}
use Rattle.history_recovery.proofs.Lines.{lines_earlier, lines_end, lines_short, no_lines, some_lines}
use Rattle.history_recovery.proofs.cutting.end_of_lines.Goals as goal

pub pieces-init : goal.pieces-init
pieces-init g c = record {
  within = omega arith;
  so_far = λ honest. ap whole_lines (sym (take_all c.args.len (bytes_at (g.F.Files.history c.args.files.now).tree c.args.path.now) (omega (arith, c.requires.size honest))));
}

pub overflow_add-result : goal.overflow_add-result
overflow_add-result g c = omega (
  arith,
  c.pieces.invariant.within,
  c.saturating_sub-start.ensures,
  ap length c.whole_lines-whole.ensures,
  lines_short c.deref.result.now,
  ap length c.deref.ensures.value,
  c.in_ok-piece.ensures.few,
)

pub returns-then-not-is_empty-clause-found : goal.returns-then-not-is_empty-clause-found
returns-then-not-is_empty-clause-found g c = λ honest.
    let text = bytes_at (g.F.Files.history c.args.files.now).tree c.args.path.now in
    let piece = c.deref.result.now in
    let start = c.saturating_sub-start.result in
    ap (λ w. take (start + length w) text) c.whole_lines-whole.ensures
    ∙ lines_end text piece start (min (c.pieces.end - start) max_piece) c.pieces.end (c.deref.ensures.value ∙ c.in_ok-piece.ensures.bytes honest)
    (omega (arith, c.saturating_sub-start.ensures)) (c.pieces.invariant.so_far honest)
    (λ none. some_lines c.whole_lines-whole.result.now (sym c.is_empty.ensures ∙ c.if-not-is_empty.true) (c.whole_lines-whole.ensures ∙ none))

pub pieces-preserved : goal.pieces-preserved
pieces-preserved g c = record {
  within = omega (arith, c.pieces.invariant.within, c.saturating_sub-start.ensures);
  so_far = λ honest.
      let text = bytes_at (g.F.Files.history c.args.files.now).tree c.args.path.now in
      let piece = c.deref.result.now in
      let start = c.saturating_sub-start.result in
      lines_earlier text piece start (min (c.pieces.end - start) max_piece) c.pieces.end (c.deref.ensures.value ∙ c.in_ok-piece.ensures.bytes honest)
      (omega (arith, c.saturating_sub-start.ensures)) (c.pieces.invariant.so_far honest)
      (sym c.whole_lines-whole.ensures ∙ no_lines c.whole_lines-whole.result.now (sym c.is_empty.ensures ∙ c.if-not-is_empty.false));
}
