use Rattle.std.proofs.Common.{arith}
use Rattle.std.proofs.lemmas.Result.{err_from_is_err_and}
use Rattle.history_check_names.proofs.LogPieces.{behind_shorter, line_fails, line_taken, lines_within, none_taken, piece_endless, piece_lacks, rest_told, rest_within}
use Rattle.history_check_names.proofs.log.test_piece.Goals as goal

pub lines-init : goal.lines-init
lines-init c = none_taken c.args.kind c.args.piece.now c.args.before

pub overflow_add-number : goal.overflow_add-number
overflow_add-number c = omega (arith, c.requires.room, c.lines.invariant.room, behind_shorter c.lines.rest.now c.in-Some.line.now c.in-Some.behind.now c.in-Some.ensures.0)

pub lines-preserved : goal.lines-preserved
lines-preserved c =
    line_taken c.args.kind c.args.piece.now c.lines.rest.now c.in-Some.line.now c.in-Some.behind.now c.args.before c.lines.number c.lines.invariant c.in-Some.ensures.0 c.in_ok-test_line.ensures

pub lines-smaller : goal.lines-smaller
lines-smaller c = behind_shorter c.lines.rest.now c.in-Some.line.now c.in-Some.behind.now c.in-Some.ensures.0

pub overflow_sub-taken : goal.overflow_sub-taken
overflow_sub-taken c = rest_within c.args.kind c.args.piece.now c.lines.rest.now c.args.before c.lines.number c.lines.invariant

pub returns-in_err-test_line-clause-wrong : goal.returns-in_err-test_line-clause-wrong
returns-in_err-test_line-clause-wrong c = λ log more start piece.
    let p = err_from_is_err_and c.from_residual.result c.from_residual.ensures.1 in
    rw (p.1, p.2) (line_fails c.args.kind log c.lines.rest.now more c.in-Some.line.now c.in-Some.behind.now c.lines.number c.in_err-test_line.field-0.0 (c.lines.invariant.told log more start) c.in-Some.ensures.0 c.in-Some.ensures.1 c.in_err-test_line.ensures)

pub returns-then-taken-eq0-clause-wrong : goal.returns-then-taken-eq0-clause-wrong
returns-then-taken-eq0-clause-wrong c = λ log more start piece.
    piece_endless c.args.kind log c.args.piece.now more c.args.before c.unended_line_fault.result start piece
    (piece_lacks c.args.kind c.args.piece.now c.lines.rest.now c.args.before c.lines.number c.lines.invariant c.if-taken-eq0.true c.in_default.ensures)
    c.unended_line_fault.ensures

pub returns-clause-lines : goal.returns-clause-lines
returns-clause-lines c = rest_told c.args.kind c.args.piece.now c.lines.rest.now c.args.before c.lines.number c.lines.invariant

pub returns-clause-taken : goal.returns-clause-taken
returns-clause-taken c = (
  omega (arith, c.if-taken-eq0.false),
  omega arith,
  lines_within c.args.kind c.args.piece.now c.lines.rest.now c.args.before c.lines.number c.lines.invariant,
)
