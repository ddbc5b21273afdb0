use Rattle.std.proofs.Common.{◌≡◌, ◌∙◌, ◌-◌, ◌≤◌, ap, arith, length}
use Rattle.std.specs.Prelude.{min}
use Rattle.gix_ref_file.specs.Tree.{bytes_at, part}
use Rattle.history_check_names.specs.Logs.{max_piece}
use Rattle.history_check_names.proofs.LogPieces.{all_read, none_read, piece_fails, piece_read}
use Rattle.history_check_names.proofs.log.log_fault.Goals as goal

pub pieces-init : goal.pieces-init
pieces-init g c = none_read (g.F.Files.is_honest c.args.files.now) c.args.kind (bytes_at (g.F.Files.history c.args.files.now).tree c.args.path.now) c.args.len

pub test_piece-requires-clause-room : goal.test_piece-requires-clause-room
test_piece-requires-clause-room g c = omega (arith, c.pieces.invariant.counted, c.pieces-test.true, ap length c.deref.ensures.value, c.in_ok-piece.ensures.few)

pub test_piece-requires-clause-next : goal.test_piece-requires-clause-next
test_piece-requires-clause-next g c = omega (arith, c.pieces.invariant.counted, c.pieces-test.true)

pub overflow_add-at : goal.overflow_add-at
overflow_add-at g c = omega (arith, c.pieces-test.true, ap length c.deref.ensures.value, c.in_ok-piece.ensures.few, c.in-Ok.ensures.taken.1)

pub pieces-smaller : goal.pieces-smaller
pieces-smaller g c = omega (arith, c.pieces-test.true, c.in-Ok.ensures.taken.0)

pub pieces-preserved : goal.pieces-preserved
pieces-preserved g c =
    piece_read (g.F.Files.is_honest c.args.files.now) c.args.kind (bytes_at (g.F.Files.history c.args.files.now).tree c.args.path.now) c.deref.result.now c.args.len c.pieces.at c.pieces.lines c.in-Ok.last c.in-Ok.taken
    c.pieces.invariant c.pieces-test.true (omega (arith, ap length c.deref.ensures.value, c.in_ok-piece.ensures.few)) (λ honest. c.deref.ensures.value ∙ c.in_ok-piece.ensures.bytes honest) c.in-Ok.ensures.taken c.in-Ok.ensures.lines

pub returns-in-Err-clause-found : goal.returns-in-Err-clause-found
returns-in-Err-clause-found g c = λ honest.
    piece_fails c.args.kind (bytes_at (g.F.Files.history c.args.files.now).tree c.args.path.now) c.deref.result.now c.args.len c.pieces.at c.pieces.lines
    (c.deref.ensures.value ∙ c.in_ok-piece.ensures.bytes honest) c.pieces-test.true (c.requires honest) c.in-Err.fault (c.pieces.invariant.told honest) c.in-Err.ensures.wrong

pub returns-clause-found : goal.returns-clause-found
returns-clause-found g c = λ honest.
    all_read c.args.kind (bytes_at (g.F.Files.history c.args.files.now).tree c.args.path.now) c.args.len c.pieces.at c.pieces.lines (c.pieces.invariant.told honest) c.pieces-test.false (c.requires honest)
