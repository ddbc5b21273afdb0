use Rattle.std.proofs.Common.{◌∙◌, refl, sym, subst, ◌∷◌, []}
use Rattle.std.proofs.lemmas.List.{append-nil}
use Rattle.std.specs.Io.KnownBytes.{Appends}
use Rattle.gix_hash.specs.Id.{id_of}
use Rattle.gix_hash.specs.Spelling.{hex_text}
use Rattle.gix_hash.specs.Writes.{AppendsFewer}
use Rattle.gix_object_lines.proofs.Fronts.{front_of, front_then}
use Rattle.gix_object_lines.proofs.Refusals.{on_err, on_err_by}
use Rattle.gix_ref_log.proofs.line.write.write_id.Goals as goal

pub returns-in_err-write_bytes-clause-err : goal.returns-in_err-write_bytes-clause-err
returns-in_err-write_bytes-clause-err g c =
    let hex = hex_text (id_of c.args.id).digits in
    on_err c.from_residual.result (front_of _ _ hex (32 ∷ []) _ refl (subst (AppendsFewer _ _) (c.as_bytes.ensures.value ∙ c.hex_to_buf.ensures) c.in_err-write_bytes.ensures.stopped))

pub returns-clause-err : goal.returns-clause-err
returns-clause-err g c =
    let hex = hex_text (id_of c.args.id).digits in
    let digits = subst (Appends _ _) (c.as_bytes.ensures.value ∙ c.hex_to_buf.ensures) c.in_ok-write_bytes.ensures.written in
    on_err_by c.write_bytes-2.result (λ front. front_then _ _ _ hex (32 ∷ []) [] _ (sym (append-nil _)) digits front) c.write_bytes-2.ensures.stopped
