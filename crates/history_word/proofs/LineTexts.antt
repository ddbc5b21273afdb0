-- Lines of words.
use Rattle.std.proofs.Common.{◌≡◌, ℕ, List, [], ◌∷◌, ◌++◌, length, map, refl, ap, sym, ◌∙◌, append_assoc, arith}
use Rattle.std.proofs.lemmas.List.{append-nil}
use Rattle.std.specs.List.{flat_map, join_with_byte}

-- the words after the first, each after the byte
pub join_with_byte-map : {A : Type 0} (now : A → List ℕ) (c : ℕ) (x : A) (xs : List A) → join_with_byte c (map now (x ∷ xs)) ≡ now x ++ flat_map (λ w. c ∷ now w) xs
join_with_byte-map now c x [] = sym (append-nil (now x))
join_with_byte-map now c x (y ∷ ys) = ap (λ zs. now x ++ (c ∷ zs)) (join_with_byte-map now c y ys)

pub join_with_byte-none : {A : Type 0} (now : A → List ℕ) (c : ℕ) (xs : List A) → length xs ≡ 0 → join_with_byte c (map now xs) ≡ []
join_with_byte-none now c [] e = refl
join_with_byte-none now c (x ∷ xs) e = absurd (omega arith)

-- a line was appended word by word
pub line_appended : {A : Type 0} (now : A → List ℕ) (words rest : List A) (x : A) (old one more all : List ℕ) → words ≡ x ∷ rest → one ≡ old ++ now x → more ≡ one ++ flat_map (λ w. 32 ∷ now w) rest → all ≡ more ++ 10 ∷ []
    → all ≡ old ++ (join_with_byte 32 (map now words) ++ 10 ∷ [])
line_appended now words rest x old one more all e p q r =
    let joined = ap (λ ws. join_with_byte 32 (map now ws)) e ∙ join_with_byte-map now 32 x rest in
    let shape : ((old ++ now x) ++ flat_map (λ w. 32 ∷ now w) rest) ++ 10 ∷ [] ≡ old ++ ((now x ++ flat_map (λ w. 32 ∷ now w) rest) ++ 10 ∷ []) = simp append_assoc in
    r ∙ ap (λ xs. xs ++ 10 ∷ []) (q ∙ ap (λ xs. xs ++ flat_map (λ w. 32 ∷ now w) rest) p) ∙ shape ∙ ap (λ xs. old ++ (xs ++ 10 ∷ [])) (sym joined)

pub line_empty : {A : Type 0} (now : A → List ℕ) (words : List A) (old all : List ℕ) → length words ≡ 0 → all ≡ old ++ 10 ∷ [] → all ≡ old ++ (join_with_byte 32 (map now words) ++ 10 ∷ [])
line_empty now words old all e r = r ∙ ap (λ xs. old ++ (xs ++ 10 ∷ [])) (sym (join_with_byte-none now 32 words e))
