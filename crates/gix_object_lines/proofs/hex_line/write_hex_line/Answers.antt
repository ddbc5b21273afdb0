use Rattle.std.proofs.Common.{◌++◌, ◌∷◌, []}
use Rattle.std.proofs.KnownBytes.{Appends-trans}
use Rattle.gix_object_lines.proofs.Fronts.{front_of, front_then}
use Rattle.gix_object_lines.proofs.HexLines.{after_word, after_space, after_digits, at_end}
use Rattle.gix_object_lines.proofs.Refusals.{on_err, on_err_by}
use Rattle.gix_object_lines.proofs.hex_line.write_hex_line.Goals as goal

pub returns-in_err-write_bytes-clause-err : goal.returns-in_err-write_bytes-clause-err
returns-in_err-write_bytes-clause-err g c =
    on_err c.from_residual.result (front_of _ _ c.args.word.now _ _ (after_word c.args.word.now c.args.digits.now) c.in_err-write_bytes.ensures.stopped)

pub returns-in_err-write_bytes-2-clause-err : goal.returns-in_err-write_bytes-2-clause-err
returns-in_err-write_bytes-2-clause-err g c =
    on_err c.from_residual-in_err-write_bytes-2.result
    (front_then _ _ _ c.args.word.now (32 ∷ []) _ _ (after_space c.args.word.now c.args.digits.now) c.in_ok-write_bytes.ensures.written c.in_err-write_bytes-2.ensures.stopped)

pub returns-in_err-write_bytes-3-clause-err : goal.returns-in_err-write_bytes-3-clause-err
returns-in_err-write_bytes-3-clause-err g c =
    let word = c.args.word.now in
    let two = Appends-trans _ _ _ word (32 ∷ []) c.in_ok-write_bytes.ensures.written c.in_ok-write_bytes-2.ensures.written in
    on_err c.from_residual-in_err-write_bytes-3.result
    (front_then _ _ _ (word ++ 32 ∷ []) c.args.digits.now _ _ (after_digits word c.args.digits.now) two c.in_err-write_bytes-3.ensures.stopped)

pub returns-clause-err : goal.returns-clause-err
returns-clause-err g c =
    let word = c.args.word.now in
    let digits = c.args.digits.now in
    let two = Appends-trans _ _ _ word (32 ∷ []) c.in_ok-write_bytes.ensures.written c.in_ok-write_bytes-2.ensures.written in
    let three = Appends-trans _ _ _ (word ++ 32 ∷ []) digits two c.in_ok-write_bytes-3.ensures.written in
    on_err_by c.write_bytes-4.result (λ front. front_then _ _ _ ((word ++ 32 ∷ []) ++ digits) (10 ∷ []) [] _ (at_end word digits) three front) c.write_bytes-4.ensures.stopped
