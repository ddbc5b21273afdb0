-- Two lists of parts that agree as far as each has been read have one text only if they are one list.
use Rattle.std.proofs.Common.{◌≡◌, ℕ, ◌<◌, ◌^◌, Bool, true, false, not, ◌&&◌, ◌||◌, List, [], ◌∷◌, ◌++◌, length, refl, sym, ◌∙◌, ap, subst, nat_lt, ◌==◌, arith, tests}
use Rattle.std.specs.List.{list_all, join_with_byte}
use Rattle.std.proofs.lemmas.Fmt.{decimal_injective}
use Rattle.history_model.specs.Bytes.{Bytes, has_byte, line, is_empty}
use Rattle.history_model.specs.Spelling.{Part, Line, Field, parts_text, len_word, is_word, is_part}
use Rattle.std.proofs.lemmas.Bool.{or_parts, and_parts, not-true, or_from}

-- C follows if both lists are read to their ends
abbrev pub Agree : Type 0 → List Part → List Part → Type 0
Agree C [] [] = C
Agree C [] (Line vs ∷ qs) = ⊥
Agree C [] (Field b ∷ qs) = ⊥
Agree C (Line us ∷ ps) [] = ⊥
Agree C (Field a ∷ ps) [] = ⊥
Agree C (Line us ∷ ps) (Line vs ∷ qs) = us ≡ vs → Agree C ps qs
Agree C (Line us ∷ ps) (Field b ∷ qs) = ⊥
Agree C (Field a ∷ ps) (Line vs ∷ qs) = ⊥
Agree C (Field a ∷ ps) (Field b ∷ qs) = (len_word a ≡ len_word b) × (a ≡ b → Agree C ps qs)

eq_itself : (n : ℕ) → (n == n) ≡ true
eq_itself n = grind (arith, tests)

abbrev pub tail_of : {X : Type 0} → List X → List X
tail_of [] = []
tail_of (x ∷ xs) = xs

abbrev pub first_or : {X : Type 0} → X → List X → X
first_or d [] = d
first_or d (x ∷ xs) = x

pub head_same : {X : Type 0} {a b : X} {xs ys : List X} → a ∷ xs ≡ b ∷ ys → a ≡ b
head_same {a = a} e = ap (first_or a) e

pub tail_same : {X : Type 0} {a b : X} {xs ys : List X} → a ∷ xs ≡ b ∷ ys → xs ≡ ys
tail_same e = ap tail_of e

-- ---- lines

-- the first separator parts two texts in one way
pub split_at : (d : ℕ) (s t x y : Bytes) → has_byte d s ≡ false → has_byte d t ≡ false → s ++ d ∷ x ≡ t ++ d ∷ y → (s ≡ t) × (x ≡ y)
split_at d [] [] x y hs ht e = (refl, tail_same e)
split_at d [] (b ∷ t) x y hs ht e = barred d b t (head_same e) ht
  where
    barred : {A : Type 0} (d b : ℕ) (t : Bytes) → d ≡ b → has_byte d (b ∷ t) ≡ false → A
    barred d b t same h = let differs : (b == b) ≡ false = (or_parts (b == b) (has_byte b t) (subst (λ n. has_byte n (b ∷ t) ≡ false) same h)).0 in let k = eq_itself b in cc
split_at d (b ∷ s) [] x y hs ht e = barred d b s (sym (head_same e)) hs
  where
    barred : {A : Type 0} (d b : ℕ) (t : Bytes) → d ≡ b → has_byte d (b ∷ t) ≡ false → A
    barred d b t same h = let differs : (b == b) ≡ false = (or_parts (b == b) (has_byte b t) (subst (λ n. has_byte n (b ∷ t) ≡ false) same h)).0 in let k = eq_itself b in cc
split_at d (a ∷ s) (b ∷ t) x y hs ht e =
    let rest = split_at d s t x y (or_parts (a == d) (has_byte d s) hs).1 (or_parts (b == d) (has_byte d t) ht).1 (tail_same e) in
    (λ i. head_same e i ∷ rest.0 i, rest.1)

none_in_both : (d : ℕ) (s t : Bytes) → has_byte d s ≡ false → has_byte d t ≡ false → has_byte d (s ++ t) ≡ false
none_in_both d [] t hs ht = ht
none_in_both d (b ∷ s) t hs ht = or_from (b == d) (has_byte d (s ++ t)) (or_parts (b == d) (has_byte d s) hs).0 (none_in_both d s t (or_parts (b == d) (has_byte d s) hs).1 ht)

pub one_is_in : (d : ℕ) (s x : Bytes) → has_byte d (s ++ d ∷ x) ≡ true
one_is_in d [] x = ap (λ b. b || has_byte d x) (eq_itself d)
one_is_in d (b ∷ s) x = or_true (b == d) (has_byte d (s ++ d ∷ x)) (one_is_in d s x)
  where
    or_true : (a b : Bool) → b ≡ true → (a || b) ≡ true
    or_true true b e = refl
    or_true false b e = e

-- a word has neither separator, and some byte
word_parts : (w : Bytes) → is_word w ≡ true → (is_empty w ≡ false) × (has_byte 32 w ≡ false) × (has_byte 10 w ≡ false)
word_parts w h =
    let outer = and_parts (not (is_empty w) && not (has_byte 32 w)) (not (has_byte 10 w)) h in
    let inner = and_parts (not (is_empty w)) (not (has_byte 32 w)) outer.0 in
    (not-true _ inner.0, not-true _ inner.1, not-true _ outer.1)

pub one_line : (us : List Bytes) → list_all is_word us ≡ true → has_byte 10 (join_with_byte 32 us) ≡ false
one_line [] h = refl
one_line (u ∷ []) h = (word_parts u (and_parts (is_word u) true h).0).2
one_line (u ∷ v ∷ us) h =
    let parts = and_parts (is_word u) (list_all is_word (v ∷ us)) h in
    none_in_both 10 u (32 ∷ join_with_byte 32 (v ∷ us)) (word_parts u parts.0).2 (one_line (v ∷ us) parts.1)

no_word : {A : Type 0} (w x : Bytes) → is_word w ≡ true → [] ≡ w ++ x → A
no_word [] x h e = cc
no_word (b ∷ w) x h e = cc

no_word_alone : {A : Type 0} (w : Bytes) → is_word w ≡ true → [] ≡ w → A
no_word_alone [] h e = cc
no_word_alone (b ∷ w) h e = cc

-- a word is no two words
not_two : {A : Type 0} (u v x : Bytes) → is_word u ≡ true → u ≡ v ++ 32 ∷ x → A
not_two u v x h e = let bad = one_is_in 32 v x in let good = subst (λ w. has_byte 32 w ≡ false) e (word_parts u h).1 in cc

pub words_same : (us vs : List Bytes) → list_all is_word us ≡ true → list_all is_word vs ≡ true → join_with_byte 32 us ≡ join_with_byte 32 vs → us ≡ vs
words_same [] [] h k e = refl
words_same [] (v ∷ []) h k e = no_word_alone v (and_parts (is_word v) true k).0 e
words_same [] (v ∷ w ∷ vs) h k e = no_word v _ (and_parts (is_word v) (list_all is_word (w ∷ vs)) k).0 e
words_same (u ∷ []) [] h k e = no_word_alone u (and_parts (is_word u) true h).0 (sym e)
words_same (u ∷ w ∷ us) [] h k e = no_word u _ (and_parts (is_word u) (list_all is_word (w ∷ us)) h).0 (sym e)
words_same (u ∷ []) (v ∷ []) h k e = ap (λ w. w ∷ []) e
words_same (u ∷ []) (v ∷ w ∷ vs) h k e = not_two u v _ (and_parts (is_word u) true h).0 e
words_same (u ∷ w ∷ us) (v ∷ []) h k e = not_two v u _ (and_parts (is_word v) true k).0 (sym e)
words_same (u ∷ second ∷ us) (v ∷ other ∷ vs) h k e =
    let hs = and_parts (is_word u) (list_all is_word (second ∷ us)) h in
    let ks = and_parts (is_word v) (list_all is_word (other ∷ vs)) k in
    let cut = split_at 32 u v _ _ (word_parts u hs.0).1 (word_parts v ks.0).1 e in
    let rest = words_same (second ∷ us) (other ∷ vs) hs.1 ks.1 cut.1 in
    λ i. cut.0 i ∷ rest i

-- ---- parts

pub regrouped : (t p x : Bytes) → (line t ++ p) ++ x ≡ t ++ 10 ∷ (p ++ x)
regrouped [] p x = refl
regrouped (b ∷ t) p x = ap (λ bs. b ∷ bs) (regrouped t p x)

pub same_length : (a b x y : Bytes) → length a ≡ length b → a ++ 10 ∷ x ≡ b ++ 10 ∷ y → (a ≡ b) × (x ≡ y)
same_length [] [] x y n e = (refl, tail_same e)
same_length [] (c ∷ b) x y n e = absurd (omega arith)
same_length (c ∷ a) [] x y n e = absurd (omega arith)
same_length (c ∷ a) (d ∷ b) x y n e =
    let rest = same_length a b x y (omega arith) (tail_same e) in
    (λ i. head_same e i ∷ rest.0 i, rest.1)

pub below : (n : ℕ) → nat_lt n (2 ^ 64) ≡ true → n < 2 ^ 64
below n h = grind (arith, tests)

pub agree_reads : (C : Type 0) (ps qs : List Part) (x y : Bytes) → list_all is_part ps ≡ true → list_all is_part qs ≡ true → Agree C ps qs → parts_text ps ++ x ≡ parts_text qs ++ y → C × (x ≡ y)
agree_reads C [] [] x y h k g e = (g, e)
agree_reads C [] (Line vs ∷ qs) x y h k g e = absurd g
agree_reads C [] (Field b ∷ qs) x y h k g e = absurd g
agree_reads C (Line us ∷ ps) [] x y h k g e = absurd g
agree_reads C (Field a ∷ ps) [] x y h k g e = absurd g
agree_reads C (Line us ∷ ps) (Field b ∷ qs) x y h k g e = absurd g
agree_reads C (Field a ∷ ps) (Line vs ∷ qs) x y h k g e = absurd g
agree_reads C (Line us ∷ ps) (Line vs ∷ qs) x y h k g e =
    let hs = and_parts (is_part (Line us)) (list_all is_part ps) h in
    let ks = and_parts (is_part (Line vs)) (list_all is_part qs) k in
    let us_words = (and_parts (list_all is_word us) _ hs.0).0 in
    let vs_words = (and_parts (list_all is_word vs) _ ks.0).0 in
    let cut = split_at 10 (join_with_byte 32 us) (join_with_byte 32 vs) (parts_text ps ++ x) (parts_text qs ++ y) (one_line us us_words) (one_line vs vs_words)
    (sym (regrouped (join_with_byte 32 us) (parts_text ps) x) ∙ e ∙ regrouped (join_with_byte 32 vs) (parts_text qs) y) in
    agree_reads C ps qs x y hs.1 ks.1 (g (words_same us vs us_words vs_words cut.0)) cut.1
agree_reads C (Field a ∷ ps) (Field b ∷ qs) x y h k g e =
    let hs = and_parts (is_part (Field a)) (list_all is_part ps) h in
    let ks = and_parts (is_part (Field b)) (list_all is_part qs) k in
    let lens = decimal_injective (length a) (length b) (below (length a) hs.0) (below (length b) ks.0) g.0 in
    let cut = same_length a b (parts_text ps ++ x) (parts_text qs ++ y) lens (sym (regrouped a (parts_text ps) x) ∙ e ∙ regrouped b (parts_text qs) y) in
    agree_reads C ps qs x y hs.1 ks.1 (g.1 cut.0) cut.1
