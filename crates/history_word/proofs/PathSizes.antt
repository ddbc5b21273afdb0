-- The sizes that words say, each after the word `path`.
use Rattle.std.proofs.Common.{◌≡◌, ℕ, ◌+◌, ◌*◌, ◌≤◌, ◌<◌, List, [], ◌∷◌, ◌++◌, length, Option, Some, None, refl, sym, ap, ◌∙◌, append_assoc, if◌then◌else◌, option_map, option_and_then, codes, arith}
use Rattle.std.proofs.lemmas.List.{length-append}
use Rattle.history_model.specs.Bytes.{Bytes}
use Rattle.history_word.specs.LineTable.{paths_of, number_of}
use Rattle.history_word.specs.Lines.{words_size}

-- these sizes before those that words say
abbrev pub sizes_before : List ℕ → Option (List ℕ) → Option (List ℕ)
sizes_before done more = option_map (λ ns. done ++ ns) more

-- of the words after a first `path` these sizes have come, and these words are left
pub record HaveSizes (all left : List Bytes) (done : List ℕ) : Type 0 where
  pub told : paths_of (codes "path" ∷ all) ≡ sizes_before done (paths_of left)
  pub room : 7 * length done + words_size left ≤ 4102

one_more : (done : List ℕ) (n : ℕ) (more : Option (List ℕ)) → sizes_before done (option_map (λ ns. n ∷ ns) more) ≡ sizes_before (done ++ n ∷ []) more
one_more done n None = refl
one_more done n (Some ns) = ap Some (sym (append_assoc done (n ∷ []) ns))

path_told : (size : Bytes) (words : List Bytes) (n : ℕ) → number_of size ≡ Some n → paths_of (codes "path" ∷ size ∷ words) ≡ option_map (λ ns. n ∷ ns) (paths_of words)
path_told size words n e = ap (option_and_then (λ n. option_map (λ ns. n ∷ ns) (paths_of words))) e

some_digit : (size : Bytes) (n : ℕ) → number_of size ≡ Some n → 0 < length size
some_digit [] n e = cc
some_digit (b ∷ size) n e = omega arith

-- the first
pub first_size : (all left : List Bytes) (size : Bytes) (n : ℕ) (new : List ℕ) → all ≡ size ∷ left → number_of size ≡ Some n → words_size all ≤ 4097 → new ≡ n ∷ [] → HaveSizes all left new
first_size all left size n new split e room is = let one : length new ≡ 1 = ap length is in record {
  told = ap (λ ws. paths_of (codes "path" ∷ ws)) split ∙ path_told size left n e ∙ ap (λ done. sizes_before done (paths_of left)) (sym is);
  room = omega (arith, room, ap words_size split, some_digit size n e, one);
}

-- and one more
pub next_size : (all words behind left : List Bytes) (word size : Bytes) (n : ℕ) (done new : List ℕ) → HaveSizes all words done → words ≡ word ∷ behind → word ≡ codes "path" → behind ≡ size ∷ left → number_of size ≡ Some n
    → new ≡ done ++ n ∷ [] → HaveSizes all left new
next_size all words behind left word size n done new h split is follows e added = let four : length word ≡ 4 = ap length is in record {
  told = h.told ∙ ap (λ ws. sizes_before done (paths_of ws)) (split ∙ (λ i. is i ∷ follows i)) ∙ ap (sizes_before done) (path_told size left n e) ∙ one_more done n (paths_of left) ∙ ap (λ done. sizes_before done (paths_of left)) (sym added);
  room = omega (arith, h.room, ap words_size split, ap words_size follows, four, some_digit size n e, ap length added, length-append done (n ∷ []));
}
