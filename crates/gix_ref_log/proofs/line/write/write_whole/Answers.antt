use Rattle.std.proofs.Common.{◌++◌, ◌∷◌, []}
use Rattle.std.proofs.KnownBytes.{Appends-trans}
use Rattle.gix_hash.specs.Id.{id_of}
use Rattle.gix_hash.specs.Spelling.{hex_text}
use Rattle.gix_object_lines.specs.Actor.{actor_text}
use Rattle.gix_object_lines.proofs.Fronts.{front_of, front_then}
use Rattle.gix_object_lines.proofs.Refusals.{on_err, on_err_by}
use Rattle.gix_ref_log.proofs.LogWriteLemmas.{all_four, in_four, three_then_one, two_then_two}
use Rattle.gix_ref_log.proofs.line.write.write_whole.Goals as goal

pub returns-in_err-write_id-clause-err : goal.returns-in_err-write_id-clause-err
returns-in_err-write_id-clause-err g c =
    let l = c.args.line.now in
    let b = hex_text (id_of l.previous_oid).digits in
    let a = hex_text (id_of l.new_oid).digits in
    let x = actor_text l.signature.name l.signature.email l.signature.time in
    on_err c.from_residual.result (front_of _ _ (b ++ 32 ∷ []) _ _ (in_four b a x l.message) c.in_err-write_id.ensures.err)

pub returns-in_err-write_id-2-clause-err : goal.returns-in_err-write_id-2-clause-err
returns-in_err-write_id-2-clause-err g c =
    let l = c.args.line.now in
    let b = hex_text (id_of l.previous_oid).digits in
    let a = hex_text (id_of l.new_oid).digits in
    let x = actor_text l.signature.name l.signature.email l.signature.time in
    on_err c.from_residual-in_err-write_id-2.result (front_then _ _ _ (b ++ 32 ∷ []) (a ++ 32 ∷ []) _ _ (two_then_two b a x l.message) c.in_ok-write_id.ensures.ok c.in_err-write_id-2.ensures.err)

pub returns-in_err-write_signature-clause-err : goal.returns-in_err-write_signature-clause-err
returns-in_err-write_signature-clause-err g c =
    let l = c.args.line.now in
    let b = hex_text (id_of l.previous_oid).digits in
    let a = hex_text (id_of l.new_oid).digits in
    let x = actor_text l.signature.name l.signature.email l.signature.time in
    let two = Appends-trans _ _ _ (b ++ 32 ∷ []) (a ++ 32 ∷ []) c.in_ok-write_id.ensures.ok c.in_ok-write_id-2.ensures.ok in
    on_err c.from_residual-in_err-write_signature.result (front_then _ _ _ ((b ++ 32 ∷ []) ++ (a ++ 32 ∷ [])) x _ _ (three_then_one b a x l.message) two c.in_err-write_signature.ensures.err)

pub returns-clause-err : goal.returns-clause-err
returns-clause-err g c =
    let l = c.args.line.now in
    let b = hex_text (id_of l.previous_oid).digits in
    let a = hex_text (id_of l.new_oid).digits in
    let x = actor_text l.signature.name l.signature.email l.signature.time in
    let two = Appends-trans _ _ _ (b ++ 32 ∷ []) (a ++ 32 ∷ []) c.in_ok-write_id.ensures.ok c.in_ok-write_id-2.ensures.ok in
    let three = Appends-trans _ _ _ ((b ++ 32 ∷ []) ++ (a ++ 32 ∷ [])) x two c.in_ok-write_signature.ensures.ok in
    on_err_by c.write_message.result (λ front. front_then _ _ _ (((b ++ 32 ∷ []) ++ (a ++ 32 ∷ [])) ++ x) (9 ∷ (l.message ++ 10 ∷ [])) [] _ (all_four b a x l.message) three front) (rw c.as_bytes.ensures at c.write_message.ensures.err)
