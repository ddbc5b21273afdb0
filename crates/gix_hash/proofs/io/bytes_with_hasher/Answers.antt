use Rattle.std.proofs.Common.{◌≡◌, ◌<◌, ◌-◌, ◌*◌, ◌++◌, ◌∙◌, List, [], zero, suc, Bool, true, false, length, length-append, length-drop, take, drop, min, refl, subst, rules, arith}
use Rattle.std.proofs.lemmas.List.{length-take-le}
use Rattle.gix_hash.specs.Fed.{fed_none, fed_then}
use Rattle.gix_hash.specs.Faults.{IsIo}
use Rattle.gix_hash.specs.Pieces.{ReadsPieces}
use Rattle.gix_hash.proofs.PieceLemmas.{pieces_more, pieces_stop, if_err, consumes_none, replicate_more}
use Rattle.gix_hash.proofs.io.bytes_with_hasher.Goals as goal

pub pieces-init : goal.pieces-init
pieces-init g c = (
  search rules,
  zero,
  [],
  record {
    count = omega arith;
    read = consumes_none (g.R.Read.remaining c.args.read.now);
    tells = record { progressed = refl; asked = refl };
  },
  record { rest = omega arith; needed = omega arith },
  fed_none c.args.hasher,
)

pub returns-then-asked-clause-interrupted : goal.returns-then-asked-clause-interrupted
returns-then-asked-clause-interrupted g c =
    let inv = c.pieces.invariant in
    let piece = c.in_ok-hash_piece.ensures.ok in
    let left = inv.4.rest in
    let some = c.pieces-test.true in
    let least = c.min-len.ensures in
    let room = inv.0 in
    let begins : 65535 * inv.1 < c.args.num_bytes_from_start = omega arith in
    let len : c.min-len.result ≡ min 65535 (c.args.num_bytes_from_start - 65535 * inv.1) = omega arith in
    let whole : length (take c.min-len.result c.pieces.buffer) ≡ c.min-len.result = length-take-le c.min-len.result c.pieces.buffer (omega arith) in
    let answer = subst (λ (b : Bool). g.I.Interrupt.answered c.pieces.should_interrupt b c.asked.new.self) c.if-asked.true c.asked.ensures in
    λ _. (
      inv.1,
      inv.2 ++ piece.0,
      begins,
      pieces_more g.R.Read.remaining g.P.Progress.told g.I.Interrupt.answered _ _ _ _ _ _ _ _ _ c.args.num_bytes_from_start inv.1 c.min-len.result true inv.2 piece.0
          inv.3 begins len (piece.1 ∙ whole) piece.2 c.inc_by.ensures answer,
    )

pub pieces-preserved : goal.pieces-preserved
pieces-preserved g c =
    let inv = c.pieces.invariant in
    let piece = c.in_ok-hash_piece.ensures.ok in
    let left = inv.4.rest in
    let needed = inv.4.needed in
    let some = c.pieces-test.true in
    let least = c.min-len.ensures in
    let room = inv.0 in
    let begins : 65535 * inv.1 < c.args.num_bytes_from_start = omega arith in
    let len : c.min-len.result ≡ min 65535 (c.args.num_bytes_from_start - 65535 * inv.1) = omega arith in
    let whole : length (take c.min-len.result c.pieces.buffer) ≡ c.min-len.result = length-take-le c.min-len.result c.pieces.buffer (omega arith) in
    let answer = subst (λ (b : Bool). g.I.Interrupt.answered c.pieces.should_interrupt b c.asked.new.self) c.if-asked.false c.asked.ensures in
    let more = pieces_more g.R.Read.remaining g.P.Progress.told g.I.Interrupt.answered _ _ _ _ _ _ _ _ _ c.args.num_bytes_from_start inv.1 c.min-len.result false inv.2 piece.0
    inv.3 begins len (piece.1 ∙ whole) piece.2 c.inc_by.ensures answer in (
      (let kept = c.hash_piece.auto.piece in let sum = length-append c.hash_piece.new.piece (drop c.min-len.result c.pieces.buffer) in let rest = length-drop c.min-len.result c.pieces.buffer in omega arith),
      suc inv.1,
      inv.2 ++ piece.0,
      subst (λ (answers : List Bool). ReadsPieces g.R.Read.remaining g.P.Progress.told g.I.Interrupt.answered c.args.read.now c.hash_piece.new.read c.args.progress.now c.inc_by.new.self c.args.should_interrupt.now c.asked.new.self c.args.num_bytes_from_start (suc inv.1) answers (inv.2 ++ piece.0)) (replicate_more inv.1) more,
      record { rest = omega arith; needed = omega arith },
      fed_then _ _ _ inv.2 piece.0 inv.5 piece.3,
    )

pub returns-in_err-hash_piece-clause-io : goal.returns-in_err-hash_piece-clause-io
returns-in_err-hash_piece-clause-io g c =
    let inv = c.pieces.invariant in
    let few = c.in_err-hash_piece.ensures.stopped in
    let left = inv.4.rest in
    let some = c.pieces-test.true in
    let least = c.min-len.ensures in
    let room = inv.0 in
    let begins : 65535 * inv.1 < c.args.num_bytes_from_start = omega arith in
    let len : c.min-len.result ≡ min 65535 (c.args.num_bytes_from_start - 65535 * inv.1) = omega arith in
    let whole : length (take c.min-len.result c.pieces.buffer) ≡ c.min-len.result = length-take-le c.min-len.result c.pieces.buffer (omega arith) in
    if_err IsIo c.from_residual.result (
      inv.1,
      inv.2 ++ few.0,
      pieces_stop g.R.Read.remaining g.P.Progress.told g.I.Interrupt.answered _ _ _ _ _ _ _ c.args.num_bytes_from_start inv.1 c.min-len.result inv.2 few.0
          inv.3 begins len (omega (arith, few.1, whole)) few.2,
    )
