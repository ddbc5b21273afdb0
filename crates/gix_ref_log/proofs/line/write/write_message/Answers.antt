use Rattle.std.proofs.Common.{refl, sym, ◌∷◌, []}
use Rattle.std.proofs.KnownBytes.{Appends-trans}
use Rattle.std.proofs.lemmas.List.{append-nil}
use Rattle.gix_object_lines.proofs.Fronts.{front_then}
use Rattle.gix_object_lines.proofs.Refusals.{on_err, on_err_by}
use Rattle.gix_ref_log.proofs.line.write.write_message.Goals as goal

pub returns-in_err-write_bytes-2-clause-err : goal.returns-in_err-write_bytes-2-clause-err
returns-in_err-write_bytes-2-clause-err g c =
    on_err c.from_residual-in_err-write_bytes-2.result (front_then _ _ _ (9 ∷ []) c.args.message.now (10 ∷ []) _ refl c.in_ok-write_bytes.ensures.written c.in_err-write_bytes-2.ensures.stopped)

pub returns-clause-err : goal.returns-clause-err
returns-clause-err g c =
    let message = c.args.message.now in
    let two = Appends-trans _ _ _ (9 ∷ []) message c.in_ok-write_bytes.ensures.written c.in_ok-write_bytes-2.ensures.written in
    on_err_by c.write_bytes-3.result (λ front. front_then _ _ _ (9 ∷ message) (10 ∷ []) [] _ (sym (append-nil _)) two front) c.write_bytes-3.ensures.stopped
