use Rattle.std.proofs.Common.{◌-◌, length, take, drop, sym, subst, arith}
use Rattle.std.proofs.Math.Seq.{take-add}
use Rattle.std.proofs.lemmas.List.{length-drop, length-take, take_rest}
use Rattle.std.proofs.lemmas.Result.{err_from_is_err_and}
use Rattle.std.specs.Io.KnownBytes.{Appends}
use Rattle.history_word.proofs.SinkLemmas.{appends_then, keeps_after}
use Rattle.history_word.proofs.streams.write_all.Goals as goal

pub returns-in_err-done-clause-err : goal.returns-in_err-done-clause-err
returns-in_err-done-clause-err g c =
    let p = err_from_is_err_and c.from_residual.result c.from_residual.ensures.1 in
    let bytes = c.args.bytes.now in
    let n = c.loop-done.done in
    let room = c.loop-done-test.true in
    rw p.1 (sym c.in_err-done.ensures.failed, (n, room, keeps_after _ _ _ (take n bytes) c.loop-done.invariant.0 c.in_err-done.ensures.bytes))

pub loop-done-preserved : goal.loop-done-preserved
loop-done-preserved g c =
    let n = c.loop-done.done in
    let k = c.in_ok-done.field-0 in
    let bytes = c.args.bytes.now in
    let rest = take_rest bytes n in (
      rw (take-add n k bytes) (appends_then _ _ _ (take n bytes) (take k (drop n bytes)) c.loop-done.invariant.0 (subst (λ xs. Appends (g.W.Sink.contents c.loop-done.writer) (g.W.Sink.contents c.write.new.self) (take k xs)) rest c.in_ok-done.ensures.bytes)),
      omega (arith, c.in_ok-done.ensures.bound, length-take (length bytes - n) (drop n bytes), length-drop n bytes),
    )
