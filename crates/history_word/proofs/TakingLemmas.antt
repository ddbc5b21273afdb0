-- One call after another, on a source through a buffer.
use Rattle.std.proofs.Common.{◌≡◌, ℕ, zero, suc, ◌+◌, ◌-◌, ◌*◌, ◌^◌, ◌≤◌, ◌<◌, ltb, true, subst, take, drop, get_or, ◌∷◌, ◌⊎◌, inl, inr, MatchBool, Option, Some, None, List, [], ◌++◌, length, min, refl, sym, ap, ◌∙◌, append_assoc, arith}
use Rattle.std.proofs.lemmas.List.{append-nil, length-append, length-take, take-append-drop}
use Rattle.std.proofs.lemmas.Bool.Decides.{nat_tests}
use Rattle.std.specs.Io.KnownBytes.{Consumes, Keeps}
use Rattle.history_word.specs.declared.buffer.Buffer.{Buffer}
use Rattle.history_word.specs.Buffer.{unread, work, readings_made}
use Rattle.history_word.specs.Taking.{Gave, Took, Came, AsksForMore}

pub consumes_none : (a b : Option (List ℕ)) → Keeps a b → Consumes a b []
consumes_none None b h = tt
consumes_none (Some xs) None h = h
consumes_none (Some xs) (Some ys) h = sym h

pub consumes_then : (a b c : Option (List ℕ)) (xs ys : List ℕ) → Consumes a b xs → Consumes b c ys → Consumes a c (xs ++ ys)
consumes_then None b c xs ys h k = tt
consumes_then (Some ks) None c xs ys h k = absurd h
consumes_then (Some ks) (Some ls) None xs ys h k = k
consumes_then (Some ks) (Some ls) (Some ms) xs ys h k = h ∙ ap (λ zs. xs ++ zs) k ∙ sym (append_assoc xs ys ms)

-- what was buffered, then what came in two pieces
joined : (a m n x y b c : List ℕ) → a ++ m ≡ x ++ b → b ++ n ≡ y ++ c → a ++ (m ++ n) ≡ (x ++ y) ++ c
joined a m n x y b c e f = sym (append_assoc a m n) ∙ ap (λ zs. zs ++ n) e ∙ append_assoc x b n ∙ ap (λ zs. x ++ zs) f ∙ sym (append_assoc x y c)

-- a count that goes on
counts_then : (r s t m n : ℕ) → min (r + m) (2 ^ 64 - 1) ≤ s → min (s + n) (2 ^ 64 - 1) ≤ t → min (r + (m + n)) (2 ^ 64 - 1) ≤ t
counts_then r s t m n h k = omega arith

-- what readings gave, in two pieces
pub gave_then : (b c d : Buffer) (m n : ℕ) (xs ys : List ℕ) → readings_made c ≡ readings_made b + m → readings_made d ≡ readings_made c + n → Gave b c m xs → Gave c d n ys → Gave b d (m + n) (xs ++ ys)
gave_then b c d m n xs ys through more (inl h) (inl k) = inl (omega (arith, h, k, length-append xs ys))
gave_then b c d m n xs ys through more (inl h) (inr k) = inr (omega (arith, through, k.0), k.1, omega (arith, h, k.2, length-append xs ys))
gave_then b c d m n xs ys through more (inr h) (inl k) = inr (h.0, omega (arith, more, h.1), omega (arith, h.2, k, length-append xs ys))
gave_then b c d m n xs ys through more (inr h) (inr k) = absurd (omega (arith, h.1, k.0))

-- how many readings a reading of n bytes counts
pub reading_counts : (before after reading n : ℕ) → reading ≡ before + 1 → (0 < n → after ≡ reading) → (n ≡ 0 → after ≡ before) → n ≤ 8192
    → (made : ℕ) × (after ≡ before + made) × (made ≤ n) × (made ≤ 1) × (n ≤ made * 8192)
reading_counts before after reading zero next gave idle fits = (0, idle refl ∙ omega arith, omega arith, omega arith, omega arith)
reading_counts before after reading (suc n) next gave idle fits = (1, gave (omega arith) ∙ next, omega arith, omega arith, omega (arith, fits))

pub took_then : {S : Type 0} (left : S → Option (List ℕ)) (readings : S → ℕ) (s : S) (b : Buffer) (t : S) (c : Buffer) (u : S) (d : Buffer) (xs ys : List ℕ)
    → Took left readings s b t c xs → Took left readings t c u d ys → Took left readings s b u d (xs ++ ys)
took_then left readings s b t c u d xs ys h k = record {
  more = h.more ++ k.more;
  came = consumes_then (left s) (left t) (left u) h.more k.more h.came k.came;
  same = joined (unread b) h.more k.more xs ys (unread c) (unread d) h.same k.same;
  less_work = omega (arith, h.less_work, k.less_work, length-append xs ys);
  made = h.made + k.made;
  made_through = omega (arith, h.made_through, k.made_through);
  counted = counts_then (readings s) (readings t) (readings u) h.made k.made h.counted k.counted;
  gave = gave_then b c d h.made k.made h.more k.more h.made_through k.made_through h.gave k.gave;
}

pub came_then : {S : Type 0} (left : S → Option (List ℕ)) (readings : S → ℕ) (s : S) (b : Buffer) (t : S) (c : Buffer) (u : S) (d : Buffer) (xs ys : List ℕ)
    → Took left readings s b t c xs → Came left readings t c u d ys → Came left readings s b u d (xs ++ ys)
came_then left readings s b t c u d xs ys h k = record {
  more = h.more ++ k.more;
  came = consumes_then (left s) (left t) (left u) h.more k.more h.came k.came;
  same = sym (append_assoc (unread b) h.more k.more) ∙ ap (λ zs. zs ++ k.more) h.same ∙ append_assoc xs (unread c) k.more ∙ ap (λ zs. xs ++ zs) k.same;
  made = h.made + k.made;
  made_through = omega (arith, h.made_through, k.made_through);
  counted = counts_then (readings s) (readings t) (readings u) h.made k.made h.counted k.counted;
  gave = gave_then b c d h.made k.made h.more k.more h.made_through k.made_through h.gave k.gave;
}

-- all that was taken, with what is still unread
pub came_all : {S : Type 0} (left : S → Option (List ℕ)) (readings : S → ℕ) (s : S) (b : Buffer) (t : S) (c : Buffer) (xs : List ℕ)
    → Took left readings s b t c xs → Came left readings s b t c (xs ++ unread c)
came_all left readings s b t c xs h = record { more = h.more; came = h.came; same = h.same; made = h.made; made_through = h.made_through; counted = h.counted; gave = h.gave }

-- what a reading of n bytes says
pub told : (n : ℕ) (old new given : List ℕ) (AtEnd : Type 0) → new ≡ old ++ take n given → n ≤ length given → (n ≡ 0 → AtEnd) → MatchBool (ltb 0 n) (length old < length new) (AtEnd × (new ≡ old))
told zero old new given AtEnd e h k = (k refl, e ∙ append-nil old)
told (suc n) old new given AtEnd e h k =
    let some : ltb 0 (suc n) ≡ true = grind (arith, nat_tests) in
    let longer : length old < length new = omega (arith, ap length e, length-append old (take (suc n) given), length-take (suc n) given) in
    subst (λ b. MatchBool b (length old < length new) (AtEnd × (new ≡ old))) (sym some) longer

consumes_same : (a : Option (List ℕ)) → Consumes a a []
consumes_same None = tt
consumes_same (Some xs) = refl

pub first_byte : (xs : List ℕ) (b : ℕ) → 0 < length xs → get_or xs 0 0 ≡ b → take 1 xs ≡ b ∷ []
first_byte [] b h e = absurd (omega arith)
first_byte (x ∷ xs) b h e = ap (λ y. y ∷ []) e

-- a step that takes nothing
pub took_same : {S : Type 0} (left : S → Option (List ℕ)) (readings : S → ℕ) (s : S) (b : Buffer) (t : S) (c : Buffer) (u : S) (d : Buffer) (xs : List ℕ)
    → Took left readings s b t c xs → Took left readings t c u d [] → Took left readings s b u d xs
took_same left readings s b t c u d xs h k = subst (Took left readings s b u d) (append-nil xs) (took_then left readings s b t c u d xs [] h k)

-- Taking n bytes that are unread reads nothing from the source.
pub skipped : {S : Type 0} (left : S → Option (List ℕ)) (readings : S → ℕ) (s : S) (b c : Buffer) (n : ℕ) → n ≤ length (unread b) → unread c ≡ drop n (unread b) → readings_made c ≡ readings_made b → work c + n ≡ work b
    → Took left readings s b s c (take n (unread b))
skipped left readings s b c n h e r w = record {
  more = [];
  came = consumes_same (left s);
  same = append-nil (unread b) ∙ sym (take-append-drop n (unread b)) ∙ ap (λ xs. take n (unread b) ++ xs) (sym e);
  less_work = omega (arith, length-take n (unread b), w);
  made = 0;
  made_through = omega (arith, r);
  counted = omega arith;
  gave = inl (omega arith);
}

-- nothing happens but to a buffer that keeps its bytes
pub took_kept : {S : Type 0} (left : S → Option (List ℕ)) (readings : S → ℕ) (s : S) (b c : Buffer) → unread c ≡ unread b → readings_made c ≡ readings_made b → work c ≡ work b
    → Took left readings s b s c []
took_kept left readings s b c e r w = record {
  more = [];
  came = consumes_same (left s);
  same = append-nil (unread b) ∙ sym e;
  less_work = omega (arith, w);
  made = 0;
  made_through = omega (arith, r);
  counted = omega arith;
  gave = inl (omega arith);
}

pub took_none : {S : Type 0} (left : S → Option (List ℕ)) (readings : S → ℕ) (s : S) (b : Buffer) → Took left readings s b s b []
took_none left readings s b = took_kept left readings s b b refl refl refl

-- if nothing was taken, what came is what is unread
pub came_unread : {S : Type 0} (left : S → Option (List ℕ)) (readings : S → ℕ) (s : S) (b : Buffer) (t : S) (c : Buffer) (xs : List ℕ)
    → Took left readings s b t c xs → xs ≡ [] → Came left readings s b t c (unread c)
came_unread left readings s b t c xs h e = subst (λ ys. Came left readings s b t c (ys ++ unread c)) e (came_all left readings s b t c xs h)

-- what is bad of the bytes is bad of the same bytes after a failure
pub unread_failed : (Failed Last : Type 0) (old new : List ℕ) (Bad : List ℕ → Type 0) → Bad old → (Failed × (new ≡ old)) ⊎ Last → (Failed × Bad new) ⊎ Last
unread_failed Failed Last old new Bad h (inl (f, e)) = inl (f, subst Bad (sym e) h)
unread_failed Failed Last old new Bad h (inr l) = inr l

-- if each of two calls reads only when bytes are missing, so do both together
pub asks_then : {S : Type 0} (left : S → Option (List ℕ)) (readings : S → ℕ) (s : S) (b : Buffer) (t : S) (c : Buffer) (u : S) (xs ys : List ℕ)
    → Took left readings s b t c xs → AsksForMore s b t xs → AsksForMore t c u ys → AsksForMore s b u (xs ++ ys)
asks_then left readings s b t c u xs ys took first second all =
    let sizes = ap length took.same in
    let here : length xs ≤ length (unread b) = omega (arith, all, length-append xs ys) in
    let there : length ys ≤ length (unread c) = omega (arith, all, sizes, length-append xs ys, length-append (unread b) took.more, length-append xs (unread c)) in
    second there ∙ first here
