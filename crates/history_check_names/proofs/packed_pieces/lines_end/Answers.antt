use Rattle.std.proofs.Common.{◌≡◌, ◌∙◌, ◌+◌, ◌-◌, ◌≤◌, ap, arith, length}
use Rattle.std.specs.Prelude.{min}
use Rattle.gix_ref_file.specs.Tree.{bytes_at}
use Rattle.history_model.specs.Places.{packed_place}
use Rattle.history_check_names.specs.Logs.{max_piece}
use Rattle.history_check_names.proofs.LongLines.{emptied, filled, header_endless, header_passed, piece_passed, same_search, stopped}
use Rattle.history_check_names.proofs.packed_pieces.lines_end.Goals as goal
use Rattle.history_check_names.proofs.packed_pieces.lines_end.Goals.{then-not-is_empty, else-not-is_empty+then-in_header}

pub pieces-preserved : goal.pieces-preserved
pieces-preserved g c =
    let Honest = g.F.Files.is_honest c.args.files.now in
    let text = bytes_at (g.F.Files.history c.args.files.now).tree packed_place in
    let piece = c.deref-in-pieces.result.now in
    let whole = c.whole_lines.result.0.now in
    let few : length piece ≤ c.args.len - c.pieces.at = omega (arith, ap length c.deref-in-pieces.ensures.value, c.in_ok-piece.ensures.few) in
    elim c.if-not-is_empty.branch [
      | then-not-is_empty w ↦
          let next : c.if-not-is_empty.at ≡ c.pieces.at + length whole = omega (arith, w.at-is) in
          same_search Honest text c.args.len (c.pieces.at + length whole) c.if-not-is_empty.at _ c.if-not-is_empty.in_header next w.in_header-is
          (piece_passed Honest text piece whole c.args.len c.pieces.at c.whole_lines.result.1 c.pieces.in_header c.pieces.invariant c.requires c.pieces-test.true
          (λ honest. c.deref-in-pieces.ensures.value ∙ c.in_ok-piece.ensures.bytes honest) few c.whole_lines.ensures (filled whole c.is_empty.result c.is_empty.ensures w.if-not-is_empty.true))
      | else-not-is_empty+then-in_header w ↦
          let next : c.if-not-is_empty.at ≡ c.pieces.at + min (c.args.len - c.pieces.at) max_piece = omega (arith, w.at-is, w.min.ensures) in
          same_search Honest text c.args.len (c.pieces.at + min (c.args.len - c.pieces.at) max_piece) c.if-not-is_empty.at _ c.if-not-is_empty.in_header next (w.in_header-is ∙ w.if-in_header.true)
          (header_passed Honest text piece whole c.args.len c.pieces.at c.whole_lines.result.1 c.pieces.in_header c.pieces.invariant c.requires c.pieces-test.true
          (λ honest. c.deref-in-pieces.ensures.value ∙ c.in_ok-piece.ensures.bytes honest) few c.whole_lines.ensures (emptied whole c.is_empty.result c.is_empty.ensures w.if-not-is_empty.false) w.if-in_header.true)
    ]

pub returns-else-in_header-clause-found : goal.returns-else-in_header-clause-found
returns-else-in_header-clause-found g c =
    let text = bytes_at (g.F.Files.history c.args.files.now).tree packed_place in
    let piece = c.deref-in-pieces.result.now in
    let whole = c.whole_lines.result.0.now in
    let few : length piece ≤ c.args.len - c.pieces.at = omega (arith, ap length c.deref-in-pieces.ensures.value, c.in_ok-piece.ensures.few) in
    stopped (g.F.Files.is_honest c.args.files.now) text piece whole c.args.len c.pieces.at c.whole_lines.result.1 c.pieces.in_header c.pieces.invariant c.requires c.pieces-test.true
    (λ honest. c.deref-in-pieces.ensures.value ∙ c.in_ok-piece.ensures.bytes honest) few c.whole_lines.ensures (emptied whole c.is_empty.result c.is_empty.ensures c.if-not-is_empty.false) c.if-in_header.false

pub returns-then-in_header-2-clause-found : goal.returns-then-in_header-2-clause-found
returns-then-in_header-2-clause-found g c =
    header_endless (g.F.Files.is_honest c.args.files.now) (bytes_at (g.F.Files.history c.args.files.now).tree packed_place) c.args.len c.pieces.at c.pieces.in_header c.pieces.invariant c.requires c.pieces-test.false c.if-in_header-2.true
