-- What the plain tests of an order mean.
use Rattle.std.proofs.Common.{◌≡◌, ℕ, zero, suc, ◌<◌, ◌≤◌, inl, inr, List, [], ◌∷◌, ◌++◌, take, refl, sym, ap, subst, arith, Some, None, Option, Bool, true, false, ◌||◌, ◌&&◌, nat_lt, append_assoc, append-nil, T}
use Rattle.std.specs.Prelude.{Contains, ℤ, not}
use Rattle.std.specs.List.{list_any, list_all}
use Rattle.std.specs.Int.Signed.{lt_z, lt_z_yes}
use Rattle.std.specs.Ordering.{int_eq}
use Rattle.std.proofs.lemmas.Bool.{ltb-true, or_right, and_parts, or_cases, or_left}
use Rattle.std.proofs.lemmas.Bool.Decides.{Decides-int_eq, nat_tests}
use Rattle.gix_traverse_graph.specs.Order.{At, Before, IsListOf, IsChosen, IsOpen, IsReady, NamedBy, IsLastName, HasNoChild, IsFirstAt, Outranks, later_child, has_child, newer, given_later}
use Rattle.gix_traverse_graph.specs.Check.{check_chosen, is_open, is_ready, last_index, after_index, last_name, after_name, first_index, here_or, outranks_alone, outranks}
use Rattle.gix_traverse_graph.proofs.Lists.{at_from_contains, contains_from_at}
use Rattle.gix_traverse_graph.proofs.Slow.{TellsApart, contains_from_any, any_from_contains}

pub T_from : {b : Bool} → b ≡ true → T b
T_from e = subst T (sym e) tt

pub pass_at : {I : Type 0} (p : I → Bool) (xs : List I) (k : ℕ) (x : I) → list_all p xs ≡ true → At xs k x → p x ≡ true
pass_at p [] k x e a = let z : ⊥ = cc in absurd z
pass_at p (y ∷ ys) zero x e a = let same : y ≡ x = cc in subst (λ (z : _). p z ≡ true) same (and_parts (p y) (list_all p ys) e).0
pass_at p (y ∷ ys) (suc k) x e a = pass_at p ys k x (and_parts (p y) (list_all p ys) e).1 a

-- one after another, from any place on
chosen_from : {I : Type 0} (fit : List I → I → Bool) (comes : List I → I → I → Bool) (before rest : List I) → check_chosen fit comes before rest ≡ true → ((k : ℕ) (x : I) → At rest k x → fit (before ++ take k rest) x ≡ true) × ((k l : ℕ) (x y : I) → k < l → At rest k x → At rest l y → fit (before ++ take k rest) y ≡ true → comes (before ++ take k rest) x y ≡ true)
chosen_from {I} fit comes before [] e = ((λ k x a. let z : ⊥ = cc in absurd z), (λ k l x y lt a b f. let z : ⊥ = cc in absurd z))
chosen_from {I} fit comes before (w ∷ rest) e =
    let fits = (and_parts (fit before w) _ e).0 in
    let others = (and_parts (list_all (λ y. not (fit before y) || comes before w y) rest) _ (and_parts (fit before w) _ e).1).0 in
    let later = chosen_from fit comes (before ++ w ∷ []) rest (and_parts (list_all (λ y. not (fit before y) || comes before w y) rest) _ (and_parts (fit before w) _ e).1).1 in
    (fitted fits later.0, firsts others later.1)
  where
    none : before ++ [] ≡ before
    none = append-nil before

    fitted : fit before w ≡ true → ((k : ℕ) (x : I) → At rest k x → fit ((before ++ w ∷ []) ++ take k rest) x ≡ true) → (k : ℕ) (x : I) → At (w ∷ rest) k x → fit (before ++ take k (w ∷ rest)) x ≡ true
    fitted f h zero x a = let same : w ≡ x = cc in subst (λ (z : I). fit (before ++ []) z ≡ true) same (rw none f)
    fitted f h (suc k) x a = subst (λ (zs : List I). fit zs x ≡ true) (append_assoc before (w ∷ []) (take k rest)) (h k x a)

    one : (a b : Bool) → (not a || b) ≡ true → a ≡ true → b ≡ true
    one true b e f = e
    one false b e f = let z : ⊥ = cc in absurd z

    firsts : list_all (λ y. not (fit before y) || comes before w y) rest ≡ true → ((k l : ℕ) (x y : I) → k < l → At rest k x → At rest l y → fit ((before ++ w ∷ []) ++ take k rest) y ≡ true → comes ((before ++ w ∷ []) ++ take k rest) x y ≡ true) → (k l : ℕ) (x y : I) → k < l → At (w ∷ rest) k x → At (w ∷ rest) l y → fit (before ++ take k (w ∷ rest)) y ≡ true → comes (before ++ take k (w ∷ rest)) x y ≡ true
    firsts o h k zero x y lt a b f = absurd (omega arith)
    firsts o h zero (suc l) x y lt a b f =
        let same : w ≡ x = cc in
        let r = one (fit before y) (comes before w y) (pass_at (λ y. not (fit before y) || comes before w y) rest l y o b) (rw none at f) in
        subst (λ (z : I). comes (before ++ []) z y ≡ true) same (rw none r)
    firsts o h (suc k) (suc l) x y lt a b f =
        let eq = append_assoc before (w ∷ []) (take k rest) in
        subst (λ (zs : List I). comes zs x y ≡ true) eq (h k l x y (omega arith) a b (subst (λ (zs : List I). fit zs y ≡ true) (sym eq) f))

-- a list that passes is in the order
pub chosen_from_check : {I : Type 0} (S : I → Type 0) (Fit : List I → I → Type 0) (Comes : List I → I → I → Type 0) (fit : List I → I → Bool) (comes : List I → I → I → Bool) (out : List I) → IsListOf S out → ((b : List I) (x : I) → fit b x ≡ true → Fit b x) → ((b : List I) (x : I) → Fit b x → fit b x ≡ true) → ((b : List I) (x y : I) → comes b x y ≡ true → Comes b x y) → check_chosen fit comes [] out ≡ true → IsChosen S Fit Comes out
chosen_from_check S Fit Comes fit comes out list fit_yes fit_too comes_yes e =
    let r = chosen_from fit comes [] out e in
    record {
      list = list;
      fit = λ k x a. fit_yes _ x (r.0 k x a);
      chosen = λ k l x y lt a b f. comes_yes _ x y (r.1 k l x y lt a b (fit_too _ y f));
    }

-- a test that one of a list passes
any_place : {I : Type 0} (p : I → Bool) (xs : List I) → list_any p xs ≡ true → (k : ℕ) × (x : I) × At xs k x × (p x ≡ true)
any_place p [] e = let z : ⊥ = cc in absurd z
any_place p (x ∷ xs) e = elim (or_cases (p x) (list_any p xs) e) [ inl f ↦ (0, x, refl, f) | inr f ↦ (let (k, y, a, g) = any_place p xs f in (suc k, y, a, g)) ]

any_at : {I : Type 0} (p : I → Bool) (xs : List I) (k : ℕ) (x : I) → At xs k x → p x ≡ true → list_any p xs ≡ true
any_at p [] k x a e = let z : ⊥ = cc in absurd z
any_at p (y ∷ ys) zero x a e = let same : y ≡ x = cc in or_left (p y) _ (subst (λ (z : _). p z ≡ true) (sym same) e)
any_at p (y ∷ ys) (suc k) x a e = or_right (p y) _ (any_at p ys k x a e)

all_from_places : {I : Type 0} (p : I → Bool) (xs : List I) → ((k : ℕ) (x : I) → At xs k x → p x ≡ true) → list_all p xs ≡ true
all_from_places p [] h = refl
all_from_places p (x ∷ xs) h = both (p x) (list_all p xs) (h 0 x refl) (all_from_places p xs (λ k y a. h (suc k) y a))
  where
    both : (a b : Bool) → a ≡ true → b ≡ true → (a && b) ≡ true
    both a b e f = rw (e, f) refl

module _ {I : Type 0} (eq : I → I → Bool) (apart : TellsApart eq) (along : I → List I) where
  pub is_open_yes : (tips before : List I) (x : I) → is_open eq along tips before x ≡ true → IsOpen along tips before x
  is_open_yes tips before x e = elim (or_cases (list_any (eq x) tips) _ e) [
    | inl f ↦ inl (contains_from_any eq apart tips x f)
    | inr f ↦ (let (k, c, a, g) = any_place (λ c. list_any (eq x) (along c)) before f in inr (c, contains_from_at before k c a, contains_from_any eq apart (along c) x g))
  ]

  pub is_open_too : (tips before : List I) (x : I) → IsOpen along tips before x → is_open eq along tips before x ≡ true
  is_open_too tips before x (inl c) = or_left _ _ (any_from_contains eq apart tips x c)
  is_open_too tips before x (inr (c, b, n)) = let (k, a) = at_from_contains before c b in or_right (list_any (eq x) tips) _ (any_at (λ c. list_any (eq x) (along c)) before k c a (any_from_contains eq apart (along c) x n))

  module _ (S : I → Type 0) (zs : List I) (in_list : (x : I) → S x → Contains zs x) (in_set : (x : I) → Contains zs x → S x) where
    pub is_ready_yes : (before : List I) (x : I) → is_ready eq along zs before x ≡ true → IsReady along S before x
    is_ready_yes before x e c s n =
        let (k, a) = at_from_contains zs c (in_list c s) in
        let p = pass_at (λ c. not (list_any (eq x) (along c)) || list_any (eq c) before) zs k c e a in
        contains_from_any eq apart before c (one (list_any (eq x) (along c)) (list_any (eq c) before) p (any_from_contains eq apart (along c) x n))
      where
        one : (a b : Bool) → (not a || b) ≡ true → a ≡ true → b ≡ true
        one true b e f = e
        one false b e f = let z : ⊥ = cc in absurd z

    pub is_ready_too : (before : List I) (x : I) → IsReady along S before x → is_ready eq along zs before x ≡ true
    is_ready_too before x h = all_from_places (λ c. not (list_any (eq x) (along c)) || list_any (eq c) before) zs (λ k c a. go c (in_set c (contains_from_at zs k c a)) (list_any (eq x) (along c)) refl)
      where
        go : (c : I) → S c → (b : Bool) → list_any (eq x) (along c) ≡ b → (not (list_any (eq x) (along c)) || list_any (eq c) before) ≡ true
        go c s false f = rw f refl
        go c s true f = rw f (any_from_contains eq apart before c (h c s (contains_from_any eq apart (along c) x f)))

  pub last_index_none : (x : I) (xs : List I) → last_index eq x xs ≡ None → (j : ℕ) → At xs j x → ⊥
  last_index_none x [] e j a = cc
  last_index_none x (y ∷ ys) e j a = go (last_index eq x ys) (eq x y) refl refl (last_index_none x ys) j a
    where
      go : (o : Option ℕ) (b : Bool) → last_index eq x ys ≡ o → eq x y ≡ b → (last_index eq x ys ≡ None → (j : ℕ) → At ys j x → ⊥) → (j : ℕ) → At (y ∷ ys) j x → ⊥
      go (Some i) b f g h j a = let z : after_index (eq x y) (Some i) ≡ None = rw f at e in cc
      go None true f g h j a = let z : after_index true None ≡ None = rw (f, g) at e in cc
      go None false f g h zero a = let same : y ≡ x = cc in let t = apart.itself x in let u : eq x x ≡ false = rw same at g in cc
      go None false f g h (suc j) a = h f j a

  pub last_index_at : (x : I) (xs : List I) (i : ℕ) → last_index eq x xs ≡ Some i → At xs i x × ((j : ℕ) → At xs j x → j ≤ i)
  last_index_at x [] i e = let z : ⊥ = cc in absurd z
  last_index_at x (y ∷ ys) i e = go (last_index eq x ys) (eq x y) refl refl (last_index_at x ys)
    where
      past : (m : ℕ) → ((j : ℕ) → At ys j x → j ≤ m) → (j : ℕ) → At (y ∷ ys) j x → j ≤ suc m
      past m h zero a = omega arith
      past m h (suc j) a = let r = h j a in omega arith

      alone : last_index eq x ys ≡ None → (j : ℕ) → At (y ∷ ys) j x → j ≤ 0
      alone f zero a = omega arith
      alone f (suc j) a = absurd (last_index_none x ys f j a)

      go : (o : Option ℕ) (b : Bool) → last_index eq x ys ≡ o → eq x y ≡ b → ((i : ℕ) → last_index eq x ys ≡ Some i → At ys i x × ((j : ℕ) → At ys j x → j ≤ i)) → At (y ∷ ys) i x × ((j : ℕ) → At (y ∷ ys) j x → j ≤ i)
      go (Some m) b f g h =
          let z : Some (suc m) ≡ Some i = rw f at e in
          let same : suc m ≡ i = cc in
          let r = h m f in
          subst (λ (n : ℕ). At (y ∷ ys) n x × ((j : ℕ) → At (y ∷ ys) j x → j ≤ n)) same (r.0, past m r.1)
      go None true f g h =
          let z : Some 0 ≡ Some i = rw (f, g) at e in
          let same : 0 ≡ i = cc in
          subst (λ (n : ℕ). At (y ∷ ys) n x × ((j : ℕ) → At (y ∷ ys) j x → j ≤ n)) same (ap Some (sym (apart.same x y g)), alone f)
      go None false f g h = let z : None ≡ Some i = rw (f, g) at e in let w : ⊥ = cc in absurd w

  no_name : (x : I) (before : List I) → last_name eq along x before ≡ None → (q h : ℕ) → NamedBy along before q h x → ⊥
  no_name x [] e q h (c, a, n) = cc
  no_name x (d ∷ ds) e q h (c, a, n) = go (last_name eq along x ds) (last_index eq x (along d)) refl refl (no_name x ds) q a
    where
      go : (o : Option (ℕ × ℕ)) (i : Option ℕ) → last_name eq along x ds ≡ o → last_index eq x (along d) ≡ i → (last_name eq along x ds ≡ None → (q h : ℕ) → NamedBy along ds q h x → ⊥) → (q : ℕ) → At (d ∷ ds) q c → ⊥
      go (Some m) i f g r q a = let z : after_name (last_index eq x (along d)) (Some m) ≡ None = rw f at e in cc
      go None (Some i) f g r q a = let z : after_name (Some i) None ≡ None = rw (f, g) at e in cc
      go None None f g r zero a = let same : d ≡ c = cc in last_index_none x (along d) g h (subst (λ (z : I). At (along z) h x) (sym same) n)
      go None None f g r (suc q) a = r f q h (c, a, n)

  pub no_child : (x : I) (before : List I) → last_name eq along x before ≡ None → HasNoChild along before x
  no_child x before e child b n = let (k, a) = at_from_contains before child b in let (h, m) = at_from_contains (along child) x n in no_name x before e k h (child, a, m)

  pub last_name_is : (x : I) (before : List I) (n : ℕ × ℕ) → last_name eq along x before ≡ Some n → IsLastName along before x n.0 n.1
  last_name_is x [] n e = let z : ⊥ = cc in absurd z
  last_name_is x (d ∷ ds) n e = go (last_name eq along x ds) (last_index eq x (along d)) refl refl (last_name_is x ds)
    where
      past : (m : ℕ × ℕ) → IsLastName along ds x m.0 m.1 → (q h : ℕ) → NamedBy along (d ∷ ds) q h x → Before (suc m.0) m.1 q h → ⊥
      past m r zero h k (inl lt) = omega arith
      past m r zero h k (inr w) = omega (arith, w.0)
      past m r (suc q) h k (inl lt) = r.last q h k (inl (omega arith))
      past m r (suc q) h k (inr w) = r.last q h k (inr (omega (arith, w.0), w.1))

      alone : (i : ℕ) → last_name eq along x ds ≡ None → ((j : ℕ) → At (along d) j x → j ≤ i) → (q h : ℕ) → NamedBy along (d ∷ ds) q h x → Before 0 i q h → ⊥
      alone i f r zero h (c, a, k) (inl lt) = omega arith
      alone i f r zero h (c, a, k) (inr w) = let same : d ≡ c = cc in let l = r h (subst (λ (z : I). At (along z) h x) (sym same) k) in omega (arith, w.1)
      alone i f r (suc q) h (c, a, k) b = no_name x ds f q h (c, a, k)

      go : (o : Option (ℕ × ℕ)) (i : Option ℕ) → last_name eq along x ds ≡ o → last_index eq x (along d) ≡ i → ((m : ℕ × ℕ) → last_name eq along x ds ≡ Some m → IsLastName along ds x m.0 m.1) → IsLastName along (d ∷ ds) x n.0 n.1
      go (Some m) i f g r =
          let z : Some (suc m.0, m.1) ≡ Some n = rw f at e in
          let same : (suc m.0, m.1) ≡ n = cc in
          let s = r m f in
          let P : ℕ × ℕ → Type 0 = λ w. IsLastName along (d ∷ ds) x w.0 w.1 in
          subst P same (record { named = s.named; last = past m s })
      go None (Some i) f g r =
          let z : Some (0, i) ≡ Some n = rw (f, g) at e in
          let same : (0, i) ≡ n = cc in
          let s = last_index_at x (along d) i g in
          let P : ℕ × ℕ → Type 0 = λ w. IsLastName along (d ∷ ds) x w.0 w.1 in
          subst P same (record { named = (d, refl, s.0); last = alone i f s.1 })
      go None None f g r = let z : None ≡ Some n = rw (f, g) at e in let w : ⊥ = cc in absurd w

  first_index_is : (x : I) (xs : List I) → list_any (eq x) xs ≡ true → IsFirstAt xs x (first_index eq x xs)
  first_index_is x [] e = let z : ⊥ = cc in absurd z
  first_index_is x (y ∷ ys) e = go (eq x y) refl (first_index_is x ys)
    where
      past : (m : ℕ) → eq x y ≡ false → IsFirstAt ys x m → (j : ℕ) → At (y ∷ ys) j x → suc m ≤ j
      past m f r zero a = let same : y ≡ x = cc in let t = apart.itself x in let u : eq x x ≡ false = rw same at f in let z : ⊥ = cc in absurd z
      past m f r (suc j) a = let k = r.first j a in omega arith

      go : (b : Bool) → eq x y ≡ b → (list_any (eq x) ys ≡ true → IsFirstAt ys x (first_index eq x ys)) → IsFirstAt (y ∷ ys) x (here_or (eq x y) (first_index eq x ys))
      go true f r = rw f (record { at = ap Some (sym (apart.same x y f)); first = λ j a. omega arith })
      go false f r =
          let t : list_any (eq x) ys ≡ true = rw f at e in
          rw f (record { at = (r t).at; first = past (first_index eq x ys) f (r t) })

  pub outranks_yes : (tips : List I) (time : I → ℤ) (before : List I) (x y : I) → outranks eq along tips time before x y ≡ true → Outranks along tips time before x y
  outranks_yes tips time before x y e = go (last_name eq along x before) (last_name eq along y before) refl refl
    where
      pair : (a b c d : ℕ) → (nat_lt b a || (not (nat_lt a b) && nat_lt d c)) ≡ true → Before b d a c
      pair a b c d f = elim (or_cases (nat_lt b a) _ f) [
        | inl g ↦ inl (ltb-true b a g)
        | inr g ↦ (let l = ltb-true d c (and_parts (not (nat_lt a b)) _ g).1 in let n = (and_parts (not (nat_lt a b)) _ g).0 in later b a d c n l)
      ]
        where
          later : (b a d c : ℕ) → not (nat_lt a b) ≡ true → d < c → Before b d a c
          later b a d c n l = grind (arith, nat_tests)

      alone : HasNoChild along before x → HasNoChild along before y → outranks_alone eq tips time x y ≡ true → Outranks along tips time before x y
      alone nx ny f = elim (or_cases (lt_z (time y) (time x)) _ f) [
        | inl g ↦ newer nx ny (lt_z_yes (T_from g))
        | inr g ↦ (
            let same = (and_parts (int_eq (time y) (time x)) _ g).0 in
            let h = (and_parts (int_eq (time y) (time x)) _ g).1 in
            let tx = (and_parts (list_any (eq x) tips) _ h).0 in
            let k = (and_parts (list_any (eq x) tips) _ h).1 in
            let ty = (and_parts (list_any (eq y) tips) _ k).0 in
            given_later nx ny ((Decides-int_eq (time y) (time x)).0 same) (first_index_is x tips tx) (first_index_is y tips ty) (ltb-true (first_index eq y tips) (first_index eq x tips) (and_parts (list_any (eq y) tips) _ k).1))
      ]

      go : (a b : Option (ℕ × ℕ)) → last_name eq along x before ≡ a → last_name eq along y before ≡ b → Outranks along tips time before x y
      go (Some m) (Some n) f g = later_child (last_name_is x before m f) (last_name_is y before n g) (pair m.0 n.0 m.1 n.1 (rw (f, g) at e))
      go (Some m) None f g = has_child (last_name_is x before m f) (no_child y before g)
      go None (Some n) f g = let z : false ≡ true = rw (f, g) at e in let w : ⊥ = cc in absurd w
      go None None f g = alone (no_child x before f) (no_child y before g) (rw (f, g) at e)

pub not_from : (a : Bool) → (a ≡ true → ⊥) → not a ≡ true
not_from true h = absurd (h refl)
not_from false h = refl
