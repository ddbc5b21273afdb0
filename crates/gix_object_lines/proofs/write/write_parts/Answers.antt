use Rattle.std.proofs.Common.{◌≡◌, ◌∙◌, ap, sym, Bor, List, ℕ, suc, [], ◌∷◌, ◌++◌, ◌<◌, length, get_or, take, drop, append_assoc, arith}
use Rattle.std.specs.Prelude.{flat_map}
use Rattle.std.proofs.Math.Seq.{split_at}
use Rattle.std.proofs.lemmas.Grind.{flat_map-append}
use Rattle.gix_object_lines.proofs.Fronts.{front_then}
use Rattle.gix_object_lines.proofs.Refusals.{on_err}
use Rattle.gix_object_lines.proofs.write.write_parts.Goals as goal

abbrev all_bytes : List (Bor (List ℕ)) → List ℕ
all_bytes parts = flat_map {X = Bor (List ℕ)} {A = ℕ} (λ part. part.now) parts

-- a part is between those before and those after
whole_is : (parts before behind : List (Bor (List ℕ))) (part : Bor (List ℕ)) → parts ≡ before ++ part ∷ behind → all_bytes parts ≡ (all_bytes before ++ part.now) ++ all_bytes behind
whole_is parts before behind part cut =
    ap all_bytes cut
    ∙ flat_map-append (λ (p : Bor (List ℕ)). p.now) before (part ∷ behind)
    ∙ sym (append_assoc (all_bytes before) part.now (all_bytes behind))

pub returns-in_err-write_bytes-clause-err : goal.returns-in_err-write_bytes-clause-err
returns-in_err-write_bytes-clause-err g c =
    let parts = c.args.parts.now in
    let at = c.loop-part.part-index in
    let none : Bor (List ℕ) = record { ref_ptr = (0, 0); now = [] } in
    let below : at < length parts = omega arith in
    let before = take at parts in
    let part = get_or parts at none in
    let behind = drop (suc at) parts in
    let whole = whole_is parts before behind part (split_at parts at none below) in
    on_err c.from_residual.result
    (front_then _ _ _ (all_bytes before) part.now (all_bytes behind) _ whole c.loop-part.invariant c.in_err-write_bytes.ensures.stopped)
