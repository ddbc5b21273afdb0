-- The plain enumeration meets the condition of the breadth order.
use Rattle.std.proofs.Common.{◌≡◌, ℕ, zero, suc, ◌+◌, ◌≤◌, List, [], ◌∷◌, ◌++◌, length, refl, sym, ap, subst, arith, Some, None, slice_get, Option, Bool, true, false, cond, ◌||◌, add-zero}
use Rattle.std.specs.Prelude.{Contains}
use Rattle.std.specs.List.{list_any}
use Rattle.std.proofs.lemmas.Option.{slice_get_within}
use Rattle.gix_traverse_graph.specs.Order.{At, IsBreadthFirst, Named}
use Rattle.gix_traverse_graph.specs.Commits.{Reached}
use Rattle.gix_traverse_graph.specs.Slow.{with_name, with_names, breadth_at, breadth_list}
use Rattle.gix_traverse_graph.proofs.Lists.{at_one, at_from_contains, contains_from_at, at_push}
use Rattle.gix_traverse_graph.specs.Reading.{Read}
use Rattle.gix_traverse_graph.proofs.Frontier.{read_none, read_skip, read_push, read_next, read_all}

-- a test that decides whether ids are equal
pub record TellsApart {I : Type 0} (eq : I → I → Bool) : Type 0 where
  pub same : (x y : I) → eq x y ≡ true → x ≡ y
  pub itself : (x : I) → eq x x ≡ true

module _ {I : Type 0} (eq : I → I → Bool) (apart : TellsApart eq) where
  at_from_any : (y : I) (xs : List I) → list_any (eq y) xs ≡ true → (k : ℕ) × At xs k y
  at_from_any y [] e = let z : ⊥ = cc in absurd z
  at_from_any y (x ∷ xs) e = here (eq y x) refl (at_from_any y xs)
    where
      here : (b : Bool) → eq y x ≡ b → (list_any (eq y) xs ≡ true → (k : ℕ) × At xs k y) → (k : ℕ) × At (x ∷ xs) k y
      here true f next = (0, ap Some (sym (apart.same y x f)))
      here false f next = let (k, a) = next (rw f at e) in (suc k, a)

  pub contains_from_any : (xs : List I) (y : I) → list_any (eq y) xs ≡ true → Contains xs y
  contains_from_any xs y e = let (k, a) = at_from_any y xs e in contains_from_at xs k y a

  pub any_from_contains : (xs : List I) (y : I) → Contains xs y → list_any (eq y) xs ≡ true
  any_from_contains xs y c = let (k, a) = at_from_contains xs y c in go xs k a
    where
      go : (xs : List I) (k : ℕ) → At xs k y → list_any (eq y) xs ≡ true
      go [] k a = let z : ⊥ = cc in absurd z
      go (x ∷ xs) zero a = let e : x ≡ y = cc in rw e (rw (apart.itself y) refl)
      go (x ∷ xs) (suc k) a = let r = go xs k a in rw r (or_true (eq y x))
        where
          or_true : (b : Bool) → (b || true) ≡ true
          or_true true = refl
          or_true false = refl

  -- one name, and a row of names
  module _ (along : I → List I) (tips : List I) (keep : I → Type 0) (test : I → Bool) (yes : (x : I) → test x ≡ true → keep x) (no : (x : I) → keep x → test x ≡ true) where
    read_name : (xs : List I) (p m : ℕ) (y : I) → Read along tips keep xs p m → Named along tips xs p m y → Read along tips keep (with_name eq test xs y) p (suc m)
    read_name xs p m y r n = go (test y) (list_any (eq y) xs) refl refl
      where
        go : (a b : Bool) → test y ≡ a → list_any (eq y) xs ≡ b → Read along tips keep (cond (test y) (cond (list_any (eq y) xs) xs (xs ++ y ∷ [])) xs) p (suc m)
        go false b ea eb = rw ea (read_skip along tips keep xs p m y r n (λ k. let f = no y k in let z : ⊥ = cc in absurd z))
        go true true ea eb = rw (ea, eb) (read_skip along tips keep xs p m y r n (λ k. contains_from_any xs y eb))
        go true false ea eb = rw (ea, eb) (read_push along tips keep xs p m y r n (yes y ea) (λ c. let f = any_from_contains xs y c in let z : ⊥ = cc in absurd z))

    -- row number p: the tips, or the parents of the commit before it
    abbrev pub Row : List I → ℕ → List I → Type 0
    Row xs zero row = row ≡ tips
    Row xs (suc q) row = (c : I) × At xs q c × (row ≡ along c)

    named_from_row : (xs : List I) (p : ℕ) (row : List I) (j : ℕ) (x : I) → Row xs p row → At row j x → Named along tips xs p j x
    named_from_row xs zero row j x e a = subst (λ (r : List I). At r j x) e a
    named_from_row xs (suc q) row j x (c, b, e) a = (c, b, subst (λ (r : List I). At r j x) e a)

    row_from_named : (xs : List I) (p : ℕ) (row : List I) (j : ℕ) (x : I) → Row xs p row → Named along tips xs p j x → At row j x
    row_from_named xs zero row j x e a = subst (λ (r : List I). At r j x) (sym e) a
    row_from_named xs (suc q) row j x (c, b, e) (d, a, n) =
        let same = at_one xs q c d b a in
        subst (λ (r : List I). At r j x) (sym e) (subst (λ (z : I). At (along z) j x) (sym same) n)

    row_more : (xs : List I) (y : I) (p : ℕ) (row : List I) → Row xs p row → Row (with_name eq test xs y) p row
    row_more xs y zero row e = e
    row_more xs y (suc q) row (c, b, e) = go (test y) (list_any (eq y) xs)
      where
        go : (a d : Bool) → (c : I) × At (cond a (cond d xs (xs ++ y ∷ [])) xs) q c × (row ≡ along c)
        go false d = (c, b, e)
        go true true = (c, b, e)
        go true false = (c, at_push xs y q c b, e)

    read_names : (xs : List I) (p m : ℕ) (ys row : List I) → Read along tips keep xs p m → Row xs p row → ((j : ℕ) (x : I) → At ys j x → At row (m + j) x) → Read along tips keep (with_names eq test xs ys) p (m + length ys) × Row (with_names eq test xs ys) p row
    read_names xs p m [] row r w h = (rw add-zero r, w)
    read_names xs p m (y ∷ ys) row r w h =
        let a : At row m y = rw add-zero at (h 0 y refl) in
        let next = read_name xs p m y r (named_from_row xs p row m y w a) in
        let (s, v) = read_names (with_name eq test xs y) p (suc m) ys row next (row_more xs y p row w) (λ j x b. let e : m + suc j ≡ suc m + j = omega arith in subst (λ (i : ℕ). At row i x) e (h (suc j) x b)) in
        let e : suc m + length ys ≡ m + length (y ∷ ys) = omega arith in
        (subst (λ (i : ℕ). Read along tips keep (with_names eq test (with_name eq test xs y) ys) p i) e s, v)

    length_none : (xs : List I) (n : ℕ) → slice_get xs n ≡ None → length xs ≤ n
    length_none [] n e = omega arith
    length_none (x ∷ xs) zero e = let z : ⊥ = cc in absurd z
    length_none (x ∷ xs) (suc n) e = let r = length_none xs n e in omega arith

    -- what is found is in breadth order
    breadth_at_is : (S : I → Type 0) → ((x : I) → S x → Reached along keep tips x) → ((x : I) → Reached along keep tips x → S x) → (fuel : ℕ) (xs : List I) (n : ℕ) (row : List I) (o : Option I) (zs : List I) → Read along tips keep xs n (length row) → Row xs n row → slice_get xs n ≡ o → breadth_at eq test along fuel xs n o ≡ Some zs → IsBreadthFirst along tips S zs
    breadth_at_is S to from fuel xs n row None zs r w e d =
        let end : n ≡ length xs = let l = length_none xs n e in let k = r.within in omega arith in
        let same : xs ≡ zs = cc in
        subst (λ (ys : List I). IsBreadthFirst along tips S ys) same
        (read_all along tips keep xs (length row) (subst (λ (i : ℕ). Read along tips keep xs i (length row)) end r)
        (λ j x a. slice_get_within row j x (row_from_named xs n row j x w (subst (λ (i : ℕ). Named along tips xs i j x) (sym end) a))) S to from)
    breadth_at_is S to from zero xs n row (Some x) zs r w e d = let z : ⊥ = cc in absurd z
    breadth_at_is S to from (suc fuel) xs n row (Some x) zs r w e d =
        let next = read_next along tips keep xs n (length row) r (λ j y a. slice_get_within row j y (row_from_named xs n row j y w a)) (slice_get_within xs n x e) in
        let (s, v) = read_names xs (suc n) 0 (along x) (along x) next (x, e, refl) (λ j y b. let e : j ≡ 0 + j = omega arith in subst (λ (i : ℕ). At (along x) i y) e b) in
        let e : 0 + length (along x) ≡ length (along x) = omega arith in
        breadth_at_is S to from fuel (with_names eq test xs (along x)) (suc n) (along x) _ zs (subst (λ (i : ℕ). Read along tips keep (with_names eq test xs (along x)) (suc n) i) e s) v refl d

    pub breadth_list_is : (S : I → Type 0) → ((x : I) → S x → Reached along keep tips x) → ((x : I) → Reached along keep tips x → S x) → (fuel : ℕ) (zs : List I) → breadth_list eq test along tips fuel ≡ Some zs → IsBreadthFirst along tips S zs
    breadth_list_is S to from fuel zs d =
        let (s, v) = read_names [] 0 0 tips tips (read_none along tips keep) refl (λ j y b. let e : j ≡ 0 + j = omega arith in subst (λ (i : ℕ). At tips i y) e b) in
        let e : 0 + length tips ≡ length tips = omega arith in
        breadth_at_is S to from fuel (with_names eq test [] tips) 0 tips _ zs (subst (λ (i : ℕ). Read along tips keep (with_names eq test [] tips) 0 i) e s) v refl d
