-- Paths: what is below a folder, beginnings, and the order of byte strings.
use Rattle.std.proofs.Common.{◌≡◌, ℕ, suc, ◌+◌, ◌<◌, ◌⊎◌, Bool, true, false, cond, not, ◌&&◌, ◌||◌, [], ◌∷◌, ◌++◌, length, refl, sym, ◌∙◌, ap, subst, arith, tests, inl, inr, nat_eq, nat_lt, ◌==◌, append_assoc, append-nil, take, drop, length-append, nat_cmp, Less, Equal, Greater}
use Rattle.std.specs.List.{before_first, after_first, prefix_len}
use Rattle.std.specs.Ordering.{ordering_then}
use Rattle.history_model.specs.Bytes.{Bytes, by_bytes, has_byte, begins}
use Rattle.history_model.specs.FileMap.{is_below, beginnings, beginnings_from}
use Rattle.history_model.proofs.PartLemmas.{split_at, one_is_in}
use Rattle.history_model.proofs.WholeLists.{In, clash, either}
use Rattle.history_model.proofs.EntryLemmas.{dropped, regroup}
use Rattle.std.proofs.lemmas.Bool.{and_left, and_from, and_parts, or_from}

pub eq_same : (a b : ℕ) → nat_eq a b ≡ true → a ≡ b
eq_same a b h = grind (arith, tests)

pub same_eq : (a : ℕ) → nat_eq a a ≡ true
same_eq a = grind (arith, tests)

-- ---- below

-- a text that begins so, in two parts
pub begins_parts : (front text : Bytes) → begins front text ≡ true → text ≡ front ++ drop (length front) text
begins_parts [] text h = refl
begins_parts (b ∷ front) [] h = cc
begins_parts (b ∷ front) (c ∷ text) h =
    let both = and_parts (nat_eq b c) (begins front text) h in
    λ i. sym (eq_same b c both.0) i ∷ begins_parts front text both.1 i

pub begins_front : (front rest : Bytes) → begins front (front ++ rest) ≡ true
begins_front [] rest = refl
begins_front (b ∷ front) rest = and_from (nat_eq b b) (begins front (front ++ rest)) (same_eq b) (begins_front front rest)

-- what is below a folder is the folder, a slash and the rest
pub below_parts : (folder path : Bytes) → is_below folder path ≡ true → path ≡ folder ++ 47 ∷ drop (length folder + 1) path
below_parts folder path h =
    begins_parts (folder ++ 47 ∷ []) path h
    ∙ append_assoc folder (47 ∷ []) (drop (length (folder ++ 47 ∷ [])) path)
    ∙ ap (λ n. folder ++ 47 ∷ drop n path) (length-append folder (47 ∷ []))

pub below_front : (folder rest : Bytes) → is_below folder (folder ++ 47 ∷ rest) ≡ true
below_front folder rest = subst (λ t. begins (folder ++ 47 ∷ []) t ≡ true) (append_assoc folder (47 ∷ []) rest) (begins_front (folder ++ 47 ∷ []) rest)

pub drop_below : (folder rest : Bytes) → drop (length folder + 1) (folder ++ 47 ∷ rest) ≡ rest
drop_below folder rest =
    ap (λ n. drop n (folder ++ 47 ∷ rest)) (sym (length-append folder (47 ∷ [])))
    ∙ ap (drop (length (folder ++ 47 ∷ []))) (sym (append_assoc folder (47 ∷ []) rest))
    ∙ dropped (folder ++ 47 ∷ []) rest

pub not_below : (folder path : Bytes) → has_byte 47 path ≡ false → is_below folder path ≡ false
not_below folder path h = elim (either (is_below folder path)) [
  | inl e ↦ clash (ap (has_byte 47) (below_parts folder path e) ∙ one_is_in 47 folder (drop (length folder + 1) path)) h
  | inr e ↦ e
]

-- a path is below one first component alone
pub below_one : (a b rest : Bytes) → has_byte 47 a ≡ false → has_byte 47 b ≡ false → is_below a (b ++ 47 ∷ rest) ≡ true → a ≡ b
below_one a b rest ha hb h = sym (split_at 47 b a rest (drop (length a + 1) (b ++ 47 ∷ rest)) hb ha (below_parts a (b ++ 47 ∷ rest) h)).0

-- below a folder in a folder
pub below_below : (a b rest : Bytes) → (a ++ 47 ∷ b) ++ 47 ∷ rest ≡ a ++ 47 ∷ (b ++ 47 ∷ rest)
below_below a b rest = append_assoc a (47 ∷ b) (47 ∷ rest)

begins_same_front : (front a b : Bytes) → begins (front ++ a) (front ++ b) ≡ begins a b
begins_same_front [] a b = refl
begins_same_front (c ∷ front) a b = ap (λ t. t && begins (front ++ a) (front ++ b)) (same_eq c) ∙ begins_same_front front a b

pub inner_below : (a b rest : Bytes) → is_below (a ++ 47 ∷ b) (a ++ 47 ∷ rest) ≡ is_below b rest
inner_below a b rest = ap (λ f. begins f (a ++ 47 ∷ rest)) (append_assoc a (47 ∷ b) (47 ∷ [])) ∙ begins_same_front a (47 ∷ (b ++ 47 ∷ [])) (47 ∷ rest)

-- ---- the first component

pub has_parts : (path : Bytes) → has_byte 47 path ≡ true → before_first (λ b. b == 47) path ++ 47 ∷ after_first (λ b. b == 47) path ≡ path
has_parts [] h = cc
has_parts (b ∷ path) h = go (b == 47) refl h (has_parts path)
  where
    m : ℕ
    m = prefix_len (λ x. not (x == 47)) path

    go : (t : Bool) → (b == 47) ≡ t → (t || has_byte 47 path) ≡ true → (has_byte 47 path ≡ true → take m path ++ 47 ∷ drop (m + 1) path ≡ path)
        → take (cond (not t) (1 + m) 0) (b ∷ path) ++ 47 ∷ drop (cond (not t) (1 + m) 0 + 1) (b ∷ path) ≡ b ∷ path
    go true e k rest = ap (λ c. c ∷ path) (sym (eq_same b 47 e))
    go false e k rest = ap (λ n. take n (b ∷ path) ++ 47 ∷ drop (n + 1) (b ∷ path)) (one m) ∙ ap (λ n. (b ∷ take m path) ++ 47 ∷ drop n (b ∷ path)) (next m) ∙ ap (λ bs. b ∷ bs) (rest k)
      where
        one : (n : ℕ) → 1 + n ≡ suc n
        one n = omega arith

        next : (n : ℕ) → suc n + 1 ≡ suc (n + 1)
        next n = omega arith

pub front_plain : (path : Bytes) → has_byte 47 (before_first (λ b. b == 47) path) ≡ false
front_plain [] = refl
front_plain (b ∷ path) = go (b == 47) refl (front_plain path)
  where
    m : ℕ
    m = prefix_len (λ x. not (x == 47)) path

    go : (t : Bool) → (b == 47) ≡ t → has_byte 47 (take m path) ≡ false → has_byte 47 (take (cond (not t) (1 + m) 0) (b ∷ path)) ≡ false
    go true e rest = refl
    go false e rest = ap (λ n. has_byte 47 (take n (b ∷ path))) (one m) ∙ or_from (b == 47) (has_byte 47 (take m path)) e rest
      where
        one : (n : ℕ) → 1 + n ≡ suc n
        one n = omega arith

-- ---- beginnings

from_parts : (path front folder : Bytes) → In folder (beginnings_from front path) → (some rest : Bytes) × (folder ≡ front ++ some) × (path ≡ some ++ 47 ∷ rest)
from_parts [] front folder i = absurd i
from_parts (b ∷ path) front folder i = go (b == 47) refl i (from_parts path (front ++ b ∷ []) folder)
  where
    later : ((some rest : Bytes) × (folder ≡ (front ++ b ∷ []) ++ some) × (path ≡ some ++ 47 ∷ rest)) → (some rest : Bytes) × (folder ≡ front ++ some) × (b ∷ path ≡ some ++ 47 ∷ rest)
    later (some, rest, e, f) = (b ∷ some, rest, e ∙ regroup front b some, ap (λ bs. b ∷ bs) f)

    go : (t : Bool) → (b == 47) ≡ t → In folder (cond t (front ∷ beginnings_from (front ++ b ∷ []) path) (beginnings_from (front ++ b ∷ []) path))
        → (In folder (beginnings_from (front ++ b ∷ []) path) → (some rest : Bytes) × (folder ≡ (front ++ b ∷ []) ++ some) × (path ≡ some ++ 47 ∷ rest))
        → (some rest : Bytes) × (folder ≡ front ++ some) × (b ∷ path ≡ some ++ 47 ∷ rest)
    go true e (inl h) rest = ([], path, h ∙ sym (append-nil front), ap (λ c. c ∷ path) (eq_same b 47 e))
    go true e (inr h) rest = later (rest h)
    go false e h rest = later (rest h)

-- a beginning is the path up to a slash
pub beginning_parts : (path folder : Bytes) → In folder (beginnings path) → (rest : Bytes) × (path ≡ folder ++ 47 ∷ rest)
beginning_parts path folder i =
    let parts = from_parts path [] folder i in
    (parts.1, parts.3 ∙ ap (λ bs. bs ++ 47 ∷ parts.1) (sym parts.2))

is_from : (folder front rest : Bytes) → In (front ++ folder) (beginnings_from front (folder ++ 47 ∷ rest))
is_from [] front rest = inl (append-nil front)
is_from (b ∷ folder) front rest = go (b == 47) (subst (λ f. In f (beginnings_from (front ++ b ∷ []) (folder ++ 47 ∷ rest))) (regroup front b folder) (is_from folder (front ++ b ∷ []) rest))
  where
    go : (t : Bool) → In (front ++ b ∷ folder) (beginnings_from (front ++ b ∷ []) (folder ++ 47 ∷ rest))
        → In (front ++ b ∷ folder) (cond t (front ∷ beginnings_from (front ++ b ∷ []) (folder ++ 47 ∷ rest)) (beginnings_from (front ++ b ∷ []) (folder ++ 47 ∷ rest)))
    go true h = inr h
    go false h = h

pub is_beginning : (folder rest : Bytes) → In folder (beginnings (folder ++ 47 ∷ rest))
is_beginning folder rest = is_from folder [] rest

-- ---- the order

nat_itself : (n : ℕ) → nat_cmp n n ≡ Equal
nat_itself n = grind (arith, tests)

-- texts with one front have the order of what follows it
pub same_front : (front x y : Bytes) → by_bytes (front ++ x) (front ++ y) ≡ by_bytes x y
same_front [] x y = refl
same_front (b ∷ front) x y = ap (λ o. ordering_then o (by_bytes (front ++ x) (front ++ y))) (nat_itself b) ∙ same_front front x y

-- how two texts compare by their first bytes
first_less : (a b : ℕ) (x y : Bytes) → by_bytes (a ∷ x) (b ∷ y) ≡ Less → (a < b) ⊎ ((a ≡ b) × (by_bytes x y ≡ Less))
first_less a b x y h = go (nat_lt a b) refl (a == b) refl h
  where
    go : (s : Bool) → nat_lt a b ≡ s → (t : Bool) → (a == b) ≡ t → ordering_then (cond s Less (cond t Equal Greater)) (by_bytes x y) ≡ Less → (a < b) ⊎ ((a ≡ b) × (by_bytes x y ≡ Less))
    go true e t f k = inl (grind (arith, tests))
    go false e true f k = inr (eq_same a b f, k)
    go false e false f k = cc

differs : (b c : ℕ) → b < c → nat_eq b c ≡ false
differs b c h = grind (arith, tests)

-- in order, texts with one beginning are next to each other
pub together : (front x y z : Bytes) → begins front x ≡ true → begins front y ≡ false → by_bytes x y ≡ Less → by_bytes y z ≡ Less → begins front z ≡ false
together [] x y z hx hy xy yz = cc
together (b ∷ front) [] y z hx hy xy yz = cc
together (b ∷ front) (c ∷ x) [] z hx hy xy yz = cc
together (b ∷ front) (c ∷ x) (d ∷ y) [] hx hy xy yz = refl
together (b ∷ front) (c ∷ x) (d ∷ y) (f ∷ z) hx hy xy yz =
    let both = and_parts (nat_eq b c) (begins front x) hx in
    let bc : b ≡ c = eq_same b c both.0 in
    go bc both.1 (first_less c d x y xy) (first_less d f y z yz) (together front x y z both.1)
  where
    go : b ≡ c → begins front x ≡ true → (c < d) ⊎ ((c ≡ d) × (by_bytes x y ≡ Less)) → (d < f) ⊎ ((d ≡ f) × (by_bytes y z ≡ Less))
        → (begins front y ≡ false → by_bytes x y ≡ Less → by_bytes y z ≡ Less → begins front z ≡ false)
        → (nat_eq b f && begins front z) ≡ false
    go bc h (inl l) (inl m) rest = and_left (nat_eq b f) (begins front z) (differs b f (omega arith))
    go bc h (inl l) (inr (m, n)) rest = and_left (nat_eq b f) (begins front z) (differs b f (omega arith))
    go bc h (inr (l, k)) (inl m) rest = and_left (nat_eq b f) (begins front z) (differs b f (omega arith))
    go bc h (inr (l, k)) (inr (m, n)) rest =
        let bd : b ≡ d = bc ∙ l in
        let y_not : begins front y ≡ false = ap (λ t. t && begins front y) (sym (ap (nat_eq b) (sym bd) ∙ same_eq b)) ∙ hy in
        ap (λ t. t && begins front z) (ap (nat_eq b) (sym (bd ∙ m)) ∙ same_eq b) ∙ rest y_not k n
