use Rattle.std.proofs.Common.{◌≡◌, ◌∷◌, ◌++◌, [], length, map, ap, refl, sym, append-nil, arith, ◌∙◌, Bor}
use Rattle.std.specs.Prelude.{codes, decimal}
use Rattle.std.specs.List.{flat_map}
use Rattle.std.proofs.lemmas.List.{take_all}
use Rattle.history_model.specs.Bytes.{Bytes, line}
use Rattle.history_model.specs.Spelling.{Line, part_text}
use Rattle.history_queries.proofs.PastTexts.{bodies, bodies_lack, log_of_bodies, past_told}
use Rattle.history_queries.proofs.ReplyTexts.{same_line}
use Rattle.history_queries.proofs.pasts.past_text.Goals as goal

pub returns : goal.returns
returns c = λ kind moves formed is_log.
    let found = c.deref-entry-items.result.now in
    let are : map (λ (entry : Bor Bytes). entry.now) found ≡ bodies moves =
    ap (map (λ (entry : Bor Bytes). entry.now)) c.deref-entry-items.ensures.value ∙ c.in_ok-moves.ensures (bodies moves) [] (bodies_lack kind moves formed) refl (is_log ∙ log_of_bodies moves ∙ sym (append-nil _)) in
    let written : c.format.result.now ≡ decimal c.len.result = c.format.ensures.text in
    let count : c.as_bytes.result.now ≡ decimal (length found) = c.as_bytes.ensures.value ∙ written ∙ ap decimal (let same : c.len.result ≡ length found = omega arith in same) in
    let heading = same_line (c.as_slice.result.now ∷ c.as_slice-2.result.now ∷ c.as_bytes.result.now ∷ []) (codes "ok" ∷ codes "past" ∷ decimal (length found) ∷ []) c.new-text.result.items c.line.new.text.items c.in_ok-line.ensures (cc) in
    let start : c.line.new.text.items ≡ part_text (Line (codes "ok" ∷ codes "past" ∷ decimal (length found) ∷ [])) =
    heading ∙ ap (λ t. t ++ part_text (Line (codes "ok" ∷ codes "past" ∷ decimal (length found) ∷ []))) c.new-text.ensures.items in
    past_told moves found c.line.new.text.items c.loop-entry.text.items are start
    (c.loop-entry.invariant ∙ ap (λ entries. c.line.new.text.items ++ flat_map (λ (entry : Bor Bytes). line entry.now) entries) (take_all c.loop-entry.entry-index found c.loop-entry-test.false))
