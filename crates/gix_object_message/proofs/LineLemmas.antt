-- The first line of a text.
use Rattle.std.proofs.Common.{◌≡◌, ◌∙◌, ap, refl, ℕ, zero, suc, ◌<◌, List, [], ◌∷◌, length, take, drop, arith}
use Rattle.std.specs.Prelude.{slice_index}
use Rattle.std.proofs.lemmas.Bool.{cond-true, cond-false, eq-eqb, ne_eqb}
use Rattle.std.specs.List.{filter_map}
use Rattle.gix_object_message.specs.Lines.{lines_of, onto_first}
use Rattle.gix_object_message.specs.Trailer.{trailers_in, trailer_of}

pub lines_of-nil : lines_of [] ≡ []
unfolding lines_of
lines_of-nil = refl

-- up to the first line feed
pub lines_of_cut : (text : List ℕ) (at : ℕ) → at < length text → slice_index text at ≡ 10 → ((k : ℕ) → k < at → slice_index text k ≡ 10 → ⊥) → lines_of text ≡ take (suc at) text ∷ lines_of (drop (suc at) text)
unfolding lines_of
lines_of_cut [] at below is before = absurd (omega arith)
lines_of_cut (b ∷ text) zero below is before = cond-true _ _ _ (eq-eqb b 10 is)
lines_of_cut (b ∷ text) (suc at) below is before =
    cond-false _ _ _ (ne_eqb b 10 (before 0 (omega arith)))
    ∙ ap (onto_first (b ∷ [])) (lines_of_cut text at (omega arith) is (λ k low. before (suc k) (omega arith)))

-- without a line feed
pub lines_of_whole : (text : List ℕ) → 0 < length text → ((k : ℕ) → k < length text → slice_index text k ≡ 10 → ⊥) → lines_of text ≡ text ∷ []
unfolding lines_of
lines_of_whole [] some nowhere = absurd (omega arith)
lines_of_whole (b ∷ []) some nowhere = cond-false _ _ _ (ne_eqb b 10 (nowhere 0 (omega arith)))
lines_of_whole (b ∷ c ∷ text) some nowhere =
    cond-false _ _ _ (ne_eqb b 10 (nowhere 0 (omega arith)))
    ∙ ap (onto_first (b ∷ [])) (lines_of_whole (c ∷ text) (omega arith) (λ k low. nowhere (suc k) (omega arith)))

pub trailers_in-nil : trailers_in [] ≡ []
trailers_in-nil = ap (filter_map trailer_of) lines_of-nil
