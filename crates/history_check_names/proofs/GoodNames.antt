-- Names that may follow one another in a file of packed names.
use Rattle.std.proofs.Common.{◌≡◌, ℕ, Bool, true, false, not, ◌&&◌, ◌||◌, List, [], ◌∷◌, ◌++◌, map, refl, sym, ◌∙◌, ap, bytes_eq}
use Rattle.std.specs.List.{list_any, list_all}
use Rattle.std.specs.FinMap.Entries.{below_all}
use Rattle.std.specs.Ordering.{is_lt}
use Rattle.std.specs.declared.cmp.Ordering.{Ordering}
use Rattle.std.specs.declared.cmp.Ordering.TheVariants.{Less, Equal, Greater}
use Rattle.std.proofs.lemmas.Bool.{and_from, and_parts, or_from, or_parts}
use Rattle.std.proofs.lemmas.Cmp.{nat_list_cmp_total}
use Rattle.std.proofs.lemmas.List.Folds.{list_all-append, list_any-append}
use Rattle.std.proofs.lemmas.Slice.Eq.{bytes_eq-Decides}
use Rattle.history_model.specs.Bytes.{by_bytes, has_twice}
use Rattle.history_model.specs.Forms.{is_name}
use Rattle.history_check_names.specs.Packed.{is_ascending, are_good_names}

abbrev pair_of : List ℕ → List ℕ × List ℕ
pair_of name = (name, name)

-- ---- tests

and_true : (b : Bool) → (b && true) ≡ b
and_true true = refl
and_true false = refl

and_false : (b : Bool) → (b && false) ≡ false
and_false true = refl
and_false false = refl

or_false : (b : Bool) → (b || false) ≡ b
or_false true = refl
or_false false = refl

was_not : (b : Bool) → not b ≡ true → b ≡ false
was_not true e = cc
was_not false e = refl

pub turned : (a b : List ℕ) → bytes_eq a b ≡ bytes_eq b a
turned a b = go (bytes_eq a b) (bytes_eq b a) refl refl
  where
    go : (x y : Bool) → bytes_eq a b ≡ x → bytes_eq b a ≡ y → x ≡ y
    go true true e f = refl
    go false false e f = refl
    go true false e f = sym ((bytes_eq-Decides b a).1 (sym ((bytes_eq-Decides a b).0 e))) ∙ f
    go false true e f = sym e ∙ (bytes_eq-Decides a b).1 (sym ((bytes_eq-Decides b a).0 f))

-- ---- the first of some names

twice_front : (xs ys : List (List ℕ)) → has_twice bytes_eq (xs ++ ys) ≡ false → has_twice bytes_eq xs ≡ false
twice_front [] ys e = refl
twice_front (x ∷ xs) ys e =
    let parts = or_parts (list_any (bytes_eq x) (xs ++ ys)) (has_twice bytes_eq (xs ++ ys)) e in
    or_from (list_any (bytes_eq x) xs) (has_twice bytes_eq xs)
    (or_parts (list_any (bytes_eq x) xs) (list_any (bytes_eq x) ys) (sym (list_any-append (bytes_eq x) xs ys) ∙ parts.0)).0
    (twice_front xs ys parts.1)

below_front : (x : List ℕ) (xs ys : List (List ℕ)) → below_all by_bytes x (map pair_of (xs ++ ys)) ≡ true → below_all by_bytes x (map pair_of xs) ≡ true
below_front x [] ys e = refl
below_front x (y ∷ xs) ys e =
    let parts = and_parts (is_lt (by_bytes x y)) (below_all by_bytes x (map pair_of (xs ++ ys))) e in
    and_from (is_lt (by_bytes x y)) (below_all by_bytes x (map pair_of xs)) parts.0 (below_front x xs ys parts.1)

ascending_front : (xs ys : List (List ℕ)) → is_ascending (xs ++ ys) ≡ true → is_ascending xs ≡ true
ascending_front [] ys e = refl
ascending_front (x ∷ xs) ys e =
    let parts = and_parts (below_all by_bytes x (map pair_of (xs ++ ys))) (is_ascending (xs ++ ys)) e in
    and_from (below_all by_bytes x (map pair_of xs)) (is_ascending xs) (below_front x xs ys parts.0) (ascending_front xs ys parts.1)

-- ---- one more name

twice_one : (xs : List (List ℕ)) (y : List ℕ) → has_twice bytes_eq (xs ++ y ∷ []) ≡ (has_twice bytes_eq xs || list_any (bytes_eq y) xs)
twice_one [] y = refl
twice_one (x ∷ xs) y =
    (λ i. list_any-append (bytes_eq x) xs (y ∷ []) i || twice_one xs y i)
    ∙ (λ i. (list_any (bytes_eq x) xs || (or_false (bytes_eq x y) ∙ turned x y) i) || (has_twice bytes_eq xs || list_any (bytes_eq y) xs))
    ∙ four (list_any (bytes_eq x) xs) (bytes_eq y x) (has_twice bytes_eq xs) (list_any (bytes_eq y) xs)
  where
    four : (a b c d : Bool) → ((a || b) || (c || d)) ≡ ((a || c) || (b || d))
    four true b c d = refl
    four false true true d = refl
    four false true false d = refl
    four false false c d = refl

less_trans : (x y z : List ℕ) → is_lt (by_bytes x y) ≡ true → is_lt (by_bytes y z) ≡ true → is_lt (by_bytes x z) ≡ true
less_trans x y z e f = ap is_lt (nat_list_cmp_total.trans x y z (less (by_bytes x y) e) (less (by_bytes y z) f))
  where
    less : (o : Ordering) → is_lt o ≡ true → o ≡ Less
    less Less e = refl
    less Equal e = cc
    less Greater e = cc

below_one : (x : List ℕ) (front : List (List ℕ)) (l y : List ℕ) → below_all by_bytes x (map pair_of (front ++ l ∷ [])) ≡ true → is_lt (by_bytes l y) ≡ true → below_all by_bytes x (map pair_of (front ++ l ∷ y ∷ [])) ≡ true
below_one x [] l y e less =
    let here = (and_parts (is_lt (by_bytes x l)) true e).0 in
    and_from (is_lt (by_bytes x l)) (is_lt (by_bytes x y) && true) here (and_true (is_lt (by_bytes x y)) ∙ less_trans x l y here less)
below_one x (z ∷ front) l y e less =
    let parts = and_parts (is_lt (by_bytes x z)) (below_all by_bytes x (map pair_of (front ++ l ∷ []))) e in
    and_from (is_lt (by_bytes x z)) (below_all by_bytes x (map pair_of (front ++ l ∷ y ∷ []))) parts.0 (below_one x front l y parts.1 less)

-- one more name after names that ascend: they ascend exactly if it is greater than the last of them
pub ascending_one : (front : List (List ℕ)) (l y : List ℕ) → is_ascending (front ++ l ∷ []) ≡ true → is_ascending (front ++ l ∷ y ∷ []) ≡ is_lt (by_bytes l y)
ascending_one [] l y e = and_true (is_lt (by_bytes l y) && true) ∙ and_true (is_lt (by_bytes l y))
ascending_one (x ∷ front) l y e =
    let parts = and_parts (below_all by_bytes x (map pair_of (front ++ l ∷ []))) (is_ascending (front ++ l ∷ [])) e in
    ap (λ b. below_all by_bytes x (map pair_of (front ++ l ∷ y ∷ [])) && b) (ascending_one front l y parts.1)
    ∙ by_last (is_lt (by_bytes l y)) refl (below_one x front l y parts.0)
  where
    by_last : (b : Bool) → is_lt (by_bytes l y) ≡ b → (is_lt (by_bytes l y) ≡ true → below_all by_bytes x (map pair_of (front ++ l ∷ y ∷ [])) ≡ true)
        → (below_all by_bytes x (map pair_of (front ++ l ∷ y ∷ [])) && b) ≡ b
    by_last true is below = ap (λ t. t && true) (below is)
    by_last false is below = and_false (below_all by_bytes x (map pair_of (front ++ l ∷ y ∷ [])))

module _ (sorted : Bool) where
  abbrev rises : List (List ℕ) → Bool
  rises names = not sorted || is_ascending names

  rises_front : (xs ys : List (List ℕ)) → rises (xs ++ ys) ≡ true → rises xs ≡ true
  rises_front xs ys e = go sorted e
    where
      go : (b : Bool) → (not b || is_ascending (xs ++ ys)) ≡ true → (not b || is_ascending xs) ≡ true
      go true e = ascending_front xs ys e
      go false e = refl

  pub record Good (names : List (List ℕ)) : Type 0 where
    pub all : list_all is_name names ≡ true
    pub once : has_twice bytes_eq names ≡ false
    pub rises : rises names ≡ true

  pub good_parts : (names : List (List ℕ)) → are_good_names sorted names ≡ true → Good names
  good_parts names e =
      let two = and_parts (list_all is_name names && not (has_twice bytes_eq names)) (rises names) e in
      let one = and_parts (list_all is_name names) (not (has_twice bytes_eq names)) two.0 in
      record { all = one.0; once = was_not (has_twice bytes_eq names) one.1; rises = two.1 }

  pub good_from : (names : List (List ℕ)) → list_all is_name names ≡ true → has_twice bytes_eq names ≡ false → rises names ≡ true → are_good_names sorted names ≡ true
  good_from names all once up = λ i. all i && not (once i) && up i

  -- so are the first of good names
  pub good_front : (xs ys : List (List ℕ)) → are_good_names sorted (xs ++ ys) ≡ true → are_good_names sorted xs ≡ true
  good_front xs ys e =
      let g = good_parts (xs ++ ys) e in
      good_from xs (and_parts (list_all is_name xs) (list_all is_name ys) (sym (list_all-append is_name xs ys) ∙ g.all)).0 (twice_front xs ys g.once) (rises_front xs ys g.rises)

  -- one more is good exactly if it may follow and isn't there yet
  pub good_next : (xs : List (List ℕ)) (y : List ℕ) → are_good_names sorted xs ≡ true → (is_name y && rises (xs ++ y ∷ [])) ≡ true → list_any (bytes_eq y) xs ≡ false → are_good_names sorted (xs ++ y ∷ []) ≡ true
  good_next xs y e follows new =
      let g = good_parts xs e in
      let parts = and_parts (is_name y) (rises (xs ++ y ∷ [])) follows in
      good_from (xs ++ y ∷ []) (list_all-append is_name xs (y ∷ []) ∙ and_from (list_all is_name xs) (is_name y && true) g.all (and_true (is_name y) ∙ parts.0))
      (twice_one xs y ∙ or_from (has_twice bytes_eq xs) (list_any (bytes_eq y) xs) g.once new) parts.1

  pub bad_follower : (xs : List (List ℕ)) (y : List ℕ) → (is_name y && rises (xs ++ y ∷ [])) ≡ false → are_good_names sorted (xs ++ y ∷ []) ≡ false
  bad_follower xs y none = by_test (are_good_names sorted (xs ++ y ∷ [])) refl
    where
      by_test : (b : Bool) → are_good_names sorted (xs ++ y ∷ []) ≡ b → b ≡ false
      by_test false e = refl
      by_test true e =
          let g = good_parts (xs ++ y ∷ []) e in
          let named = sym (and_true (is_name y)) ∙ (and_parts (list_all is_name xs) (is_name y && true) (sym (list_all-append is_name xs (y ∷ [])) ∙ g.all)).1 in
          sym (and_from (is_name y) (rises (xs ++ y ∷ [])) named g.rises) ∙ none

  pub bad_again : (xs : List (List ℕ)) (y : List ℕ) → list_any (bytes_eq y) xs ≡ true → are_good_names sorted (xs ++ y ∷ []) ≡ false
  bad_again xs y there = by_test (are_good_names sorted (xs ++ y ∷ [])) refl
    where
      by_test : (b : Bool) → are_good_names sorted (xs ++ y ∷ []) ≡ b → b ≡ false
      by_test false e = refl
      by_test true e =
          let none = (or_parts (has_twice bytes_eq xs) (list_any (bytes_eq y) xs) (sym (twice_one xs y) ∙ (good_parts (xs ++ y ∷ []) e).once)).1 in
          sym there ∙ none
