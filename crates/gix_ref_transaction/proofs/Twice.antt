-- Whether a path occurs twice, by a set of those that were met.
use Rattle.std.proofs.Common.{◌≡◌, ℕ, Bool, true, false, cond, not, ◌||◌, List, [], ◌∷◌, map, refl, sym, ◌∙◌, ap, bytes_eq}
use Rattle.std.specs.Borrow.{Bor}
use Rattle.std.specs.List.{list_any}
use Rattle.std.specs.Ordering.{is_eq, nat_cmp}
use Rattle.std.specs.Cmp.Lexicographic.{slice_cmp}
use Rattle.std.proofs.lemmas.Bool.{not-false, not-true, or_parts}
use Rattle.std.proofs.lemmas.Map.Text.{is_eq-slice_cmp}
use Rattle.std.proofs.lemmas.Slice.Eq.{bytes_eq-Decides}
use Rattle.gix_ref_way.specs.Ways.{Bytes}
use Rattle.gix_ref_lock.specs.Moves.{IsNone, Once}
use Rattle.gix_ref_transaction.specs.Paths.{has_twice}

abbrev pub names_in : List (Bor (List ℕ)) → List Bytes
names_in names = map (λ name. name.now) names

any_same : {X : Type 0} (p q : X → Bool) (xs : List X) → ((x : X) → p x ≡ q x) → list_any p xs ≡ list_any q xs
any_same p q [] same = refl
any_same p q (x ∷ xs) same = λ i. same x i || any_same p q xs same i

any_or : {X : Type 0} (p q : X → Bool) (xs : List X) → list_any (λ x. p x || q x) xs ≡ (list_any p xs || list_any q xs)
any_or p q [] = refl
any_or {X} p q (x ∷ xs) = ap (λ b. (p x || q x) || b) (any_or p q xs) ∙ four (p x) (q x) (list_any p xs) (list_any q xs)
  where
    four : (a b c d : Bool) → ((a || b) || (c || d)) ≡ ((a || c) || (b || d))
    four true b c d = refl
    four false true true d = refl
    four false true false d = refl
    four false false c d = refl

any_none : {X : Type 0} (xs : List X) → list_any (λ x. false) xs ≡ false
any_none [] = refl
any_none (x ∷ xs) = any_none xs

bytes_turned : (a b : Bytes) → bytes_eq a b ≡ bytes_eq b a
bytes_turned a b = go (bytes_eq a b) (bytes_eq b a) refl refl
  where
    go : (x y : Bool) → bytes_eq a b ≡ x → bytes_eq b a ≡ y → x ≡ y
    go true true e f = refl
    go false false e f = refl
    go true false e f = sym ((bytes_eq-Decides b a).1 (sym ((bytes_eq-Decides a b).0 e))) ∙ f
    go false true e f = sym e ∙ (bytes_eq-Decides a b).1 (sym ((bytes_eq-Decides b a).0 f))

abbrev pub has : List (Bor (List ℕ)) → Bytes → Bool
has kept name = list_any (bytes_eq name) (names_in kept)

pub found_by_bytes : (kept : List (Bor (List ℕ))) (name : Bytes) → list_any (λ k. is_eq (slice_cmp nat_cmp name k.now)) kept ≡ has kept name
found_by_bytes [] name = refl
found_by_bytes (k ∷ kept) name = λ i. is_eq-slice_cmp name k.now i || found_by_bytes kept name i

abbrev pub Puts : List (Bor (List ℕ)) → List (Bor (List ℕ)) → Bor (List ℕ) → Type 0
Puts old new key = (q : Bor (List ℕ)) → list_any (λ k. is_eq (slice_cmp nat_cmp q.now k.now)) new
    ≡ cond (is_eq (slice_cmp nat_cmp key.now q.now)) true (list_any (λ k. is_eq (slice_cmp nat_cmp q.now k.now)) old)

pub one_put : (old new : List (Bor (List ℕ))) (key : Bor (List ℕ)) (added : Bytes) → key.now ≡ added → Puts old new key → (name : Bytes) → has new name ≡ (bytes_eq name added || has old name)
one_put old new key added same puts name =
    sym (found_by_bytes new name) ∙ puts (record { ref_ptr = (0, 0); now = name })
    ∙ either (is_eq (slice_cmp nat_cmp key.now name)) (list_any (λ k. is_eq (slice_cmp nat_cmp name k.now)) old)
    ∙ (λ i. (is_eq-slice_cmp key.now name ∙ ap (λ k. bytes_eq k name) same ∙ bytes_turned added name) i || found_by_bytes old name i)
  where
    either : (a b : Bool) → cond a true b ≡ (a || b)
    either true b = refl
    either false b = refl

abbrev pub IsAdded : Bool → List (Bor (List ℕ)) → Bor (List ℕ) → Type 0
IsAdded added kept key = added ≡ not (list_any (λ k. is_eq (slice_cmp nat_cmp key.now k.now)) kept)

pub was_kept : (kept : List (Bor (List ℕ))) (key : Bor (List ℕ)) (name : Bytes) (added : Bool) → key.now ≡ name → IsAdded added kept key → added ≡ false → has kept name ≡ true
was_kept kept key name added same is none =
    ap (has kept) (sym same) ∙ sym (found_by_bytes kept key.now) ∙ not-false (list_any (λ k. is_eq (slice_cmp nat_cmp key.now k.now)) kept) (sym is ∙ none)

pub was_new : (kept : List (Bor (List ℕ))) (key : Bor (List ℕ)) (name : Bytes) (added : Bool) → key.now ≡ name → IsAdded added kept key → added ≡ true → has kept name ≡ false
was_new kept key name added same is one =
    ap (has kept) (sym same) ∙ sym (found_by_bytes kept key.now) ∙ not-true (list_any (λ k. is_eq (slice_cmp nat_cmp key.now k.now)) kept) (sym is ∙ one)

abbrev pub comes_again : List (Bor (List ℕ)) → List Bytes → Bool
comes_again kept names = list_any (has kept) names || has_twice names

pub none_kept : (kept : List (Bor (List ℕ))) (names : List Bytes) → kept ≡ [] → has_twice names ≡ comes_again kept names
none_kept kept names none = sym (ap (λ k. comes_again k names) none ∙ ap (λ b. b || has_twice names) (any_none names))

pub first_kept : (kept : List (Bor (List ℕ))) (name : Bytes) (others : List Bytes) → has kept name ≡ true → comes_again kept (name ∷ others) ≡ true
first_kept kept name others there = ap (λ b. (b || list_any (has kept) others) || has_twice (name ∷ others)) there

pub first_put : (old new : List (Bor (List ℕ))) (name : Bytes) (others : List Bytes) → has old name ≡ false → ((other : Bytes) → has new other ≡ (bytes_eq other name || has old other))
    → comes_again old (name ∷ others) ≡ comes_again new others
first_put old new name others absent put =
    ap (λ b. (b || list_any (has old) others) || has_twice (name ∷ others)) absent
    ∙ turned (list_any (has old) others) (list_any (bytes_eq name) others) (has_twice others)
    ∙ ap (λ b. b || has_twice others) (sym (any_same (has new) (λ other. bytes_eq name other || has old other) others (λ other. put other ∙ ap (λ b. b || has old other) (bytes_turned other name))
    ∙ any_or (bytes_eq name) (has old) others))
  where
    turned : (a b c : Bool) → (a || (b || c)) ≡ ((b || a) || c)
    turned true true c = refl
    turned true false c = refl
    turned false true c = refl
    turned false false c = refl

-- ---- paths that occur once
none_of : (path : Bytes) (paths : List Bytes) → list_any (bytes_eq path) paths ≡ false → IsNone path paths
none_of path [] none = tt
none_of path (other ∷ paths) none =
    let parts = or_parts (bytes_eq path other) (list_any (bytes_eq path) paths) none in
    (λ same. let wrong : true ≡ false = sym ((bytes_eq-Decides path other).1 same) ∙ parts.0 in cc, none_of path paths parts.1)

pub once_of : (paths : List Bytes) → has_twice paths ≡ false → Once paths
once_of [] none = tt
once_of (path ∷ paths) none =
    let parts = or_parts (list_any (bytes_eq path) paths) (has_twice paths) none in
    (none_of path paths parts.0, once_of paths parts.1)
