-- A list that a walk over some values may return is, named, one that the walk over their names may
-- return.
use Rattle.std.proofs.Common.{◌≡◌, inl, inr, ℕ, zero, suc, List, [], ◌∷◌, refl, sym, ◌∙◌, ap, subst, true, Option, Some, None, slice_get, take}
use Rattle.std.specs.Prelude.{Contains, map, filter, option_map, ℤ, ◌≤ℤ◌, ◌<ℤ◌, IfSome, ⊤}
use Rattle.std.proofs.lemmas.Option.{slice_get-map}
use Rattle.std.proofs.lemmas.List.{take-map}
use Rattle.gix_traverse_graph.specs.Commits.{Commits, WalkRequest, asked_parents, Reached, tip, parent, Passes, Hides, Listed}
use Rattle.gix_traverse_graph.specs.Order.{At, IsListOf, Named, IsKey, IsBreadthFirst, IsChosen, IsOpen, IsReady, IsLastName, HasNoChild, IsFirstAt, Outranks, later_child, has_child, newer, given_later}
use Rattle.gix_traverse_graph.specs.Walks.{InBreadth, ByNewest, ByOldest, InDate, InTopological}
use Rattle.gix_traverse_graph.specs.declared.parents.Parents.{Parents}
use Rattle.gix_traverse_graph.specs.declared.parents.Parents.TheVariants.{All, First}
use Rattle.history_walks.specs.Asking.{IsInOrder, walk_from}
use Rattle.history_walks.specs.Naming.{AreNamed}
use Rattle.history_walks.specs.declared.listing.Order.{Order}
use Rattle.history_walks.specs.declared.listing.Order.TheVariants.{Breadth, Newest, Oldest, Date, Topological}
use Rattle.gix_traverse_graph.proofs.Lists.{at_from_contains, contains_from_at}

keep_all : {I : Type 0} (xs : List I) → filter (λ _. true) xs ≡ xs
keep_all [] = refl
keep_all (x ∷ xs) = ap (λ ys. x ∷ ys) (keep_all xs)

module _ {I J : Type 0} (f : I → J) (back : J → I) (inverse : (x : I) → back (f x) ≡ x) where
  apart : (x y : I) → f x ≡ f y → x ≡ y
  apart x y e = sym (inverse x) ∙ ap back e ∙ inverse y

  -- ---- places

  pub at_map : (xs : List I) (k : ℕ) (x : I) → At xs k x → At (map f xs) k (f x)
  at_map xs k x a = slice_get-map f xs k ∙ ap (option_map f) a

  pub at_from_map : (xs : List I) (k : ℕ) (y : J) → At (map f xs) k y → (x : I) × At xs k x × (f x ≡ y)
  at_from_map xs k y a = go (slice_get xs k) refl (sym (slice_get-map f xs k) ∙ a)
    where
      go : (o : Option I) → slice_get xs k ≡ o → option_map f o ≡ Some y → (x : I) × At xs k x × (f x ≡ y)
      go None is e = let z : ⊥ = cc in absurd z
      go (Some x) is e = (x, is, cc)

  at_back : (xs : List I) (k : ℕ) (x : I) → At (map f xs) k (f x) → At xs k x
  at_back xs k x a = let (y, b, e) = at_from_map xs k (f x) a in subst (λ z. At xs k z) (apart y x e) b

  pub contains_map : (xs : List I) (x : I) → Contains xs x → Contains (map f xs) (f x)
  contains_map xs x c = let (k, a) = at_from_contains xs x c in contains_from_at (map f xs) k (f x) (at_map xs k x a)

  pub contains_from_map : (xs : List I) (y : J) → Contains (map f xs) y → (x : I) × Contains xs x × (f x ≡ y)
  contains_from_map xs y c =
      let (k, a) = at_from_contains (map f xs) y c in
      let (x, b, e) = at_from_map xs k y a in
      (x, contains_from_at xs k x b, e)

  contains_back : (xs : List I) (x : I) → Contains (map f xs) (f x) → Contains xs x
  contains_back xs x c = let (y, b, e) = contains_from_map xs (f x) c in subst (λ z. Contains xs z) (apart y x e) b

  module _ (along : I → List I) (along' : J → List J) (agree : (x : I) → along' (f x) ≡ map f (along x)) where
    named_parent : (x y : I) → Contains (along x) y → Contains (along' (f x)) (f y)
    named_parent x y c = subst (λ ps. Contains ps (f y)) (sym (agree x)) (contains_map (along x) y c)

    parent_named : (x : I) (z y : J) → f x ≡ z → Contains (along' z) y → (w : I) × Contains (along x) w × (f w ≡ y)
    parent_named x z y e c =
        contains_from_map (along x) y (subst (λ ps. Contains ps y) (agree x) (subst (λ v. Contains (along' v) y) (sym e) c))

    named_parent_at : (x y : I) (i : ℕ) → At (along x) i y → At (along' (f x)) i (f y)
    named_parent_at x y i a = subst (λ ps. At ps i (f y)) (sym (agree x)) (at_map (along x) i y a)

    parent_at_back : (x : I) (z : J) (y : I) (i : ℕ) → f x ≡ z → At (along' z) i (f y) → At (along x) i y
    parent_at_back x z y i e a =
        at_back (along x) i y (subst (λ ps. At ps i (f y)) (agree x) (subst (λ v. At (along' v) i (f y)) (sym e) a))

    -- ---- what is reached

    module _ (P : I → Type 0) (P' : J → Type 0) (tips : List I) where
      pub reached_to : ((x : I) → P x → P' (f x)) → {x : I} → Reached along P tips x → Reached along' P' (map f tips) (f x)
      reached_to to (tip {x = x} c p) = tip (contains_map tips x c) (to x p)
      reached_to to (parent {x = x} {y = y} r c p) = parent (reached_to to r) (named_parent x y c) (to y p)

      pub reached_from : ((x : I) → P' (f x) → P x) → {y : J} → Reached along' P' (map f tips) y → (x : I) × (f x ≡ y) × Reached along P tips x
      reached_from from (tip {x = y} c p) =
          let (x, h, e) = contains_from_map tips y c in
          (x, e, tip h (from x (subst P' (sym e) p)))
      reached_from from (parent {x = z} {y = y} r c p) =
          let (x, e, q) = reached_from from r in
          let (w, h, s) = parent_named x z y e c in
          (w, s, parent q h (from w (subst P' (sym s) p)))

      pub reached_back : ((x : I) → P' (f x) → P x) → (x : I) → Reached along' P' (map f tips) (f x) → Reached along P tips x
      reached_back from x r =
          let (y, e, q) = reached_from from r in
          subst (λ z. Reached along P tips z) (apart y x e) q

    -- ---- breadth

    named_to : (tips out : List I) (p i : ℕ) (x : I) → Named along tips out p i x → Named along' (map f tips) (map f out) p i (f x)
    named_to tips out zero i x n = at_map tips i x n
    named_to tips out (suc p) i x (child, a, b) = (f child, at_map out p child a, named_parent_at child x i b)

    named_back : (tips out : List I) (p i : ℕ) (x : I) → Named along' (map f tips) (map f out) p i (f x) → Named along tips out p i x
    named_back tips out zero i x n = at_back tips i x n
    named_back tips out (suc p) i x (c, a, b) =
        let (child, h, e) = at_from_map out p c a in
        (child, h, parent_at_back child c x i e b)

    key_to : (tips out : List I) (x : I) (p i : ℕ) → IsKey along tips out x p i → IsKey along' (map f tips) (map f out) (f x) p i
    key_to tips out x p i key = record {
      named = named_to tips out p i x key.named;
      first = λ q j n before. key.first q j (named_back tips out q j x n) before;
    }

    key_back : (tips out : List I) (x : I) (p i : ℕ) → IsKey along' (map f tips) (map f out) (f x) p i → IsKey along tips out x p i
    key_back tips out x p i key = record {
      named = named_back tips out p i x key.named;
      first = λ q j n before. key.first q j (named_to tips out q j x n) before;
    }

    -- ---- sets

    module _ (S : I → Type 0) (S' : J → Type 0) (to : (x : I) → S x → S' (f x)) (from : (y : J) → S' y → (x : I) × (f x ≡ y) × S x) where
      list_to : (out : List I) → IsListOf S out → IsListOf S' (map f out)
      list_to out l = record {
        each = λ y. (
          (λ c. let (x, h, e) = contains_from_map out y c in subst S' e (to x ((l.each x).0 h))),
          (λ s. let (x, e, h) = from y s in subst (λ z. Contains (map f out) z) e (contains_map out x ((l.each x).1 h))),
        );
        once = λ j k y a b.
            let (x, h, e) = at_from_map out j y a in
            let (z, i, s) = at_from_map out k y b in
            l.once j k x h (subst (λ w. At out k w) (apart z x (s ∙ sym e)) i);
      }

      breadth_to : (tips out : List I) → IsBreadthFirst along tips S out → IsBreadthFirst along' (map f tips) S' (map f out)
      breadth_to tips out b = record {
        list = list_to out b.list;
        keyed = λ k y a.
            let (x, h, e) = at_from_map out k y a in
            let (p, i, key) = b.keyed k x h in
            (p, i, subst (λ z. IsKey along' (map f tips) (map f out) z p i) e (key_to tips out x p i key));
        ascending = λ k l u v p i q j lt au av ku kv.
            let (x, h, e) = at_from_map out k u au in
            let (y, m, s) = at_from_map out l v av in
            b.ascending k l x y p i q j lt h m
            (key_back tips out x p i (subst (λ z. IsKey along' (map f tips) (map f out) z p i) (sym e) ku))
            (key_back tips out y q j (subst (λ z. IsKey along' (map f tips) (map f out) z q j) (sym s) kv));
      }

      -- ---- orders that choose

      chosen_to : (Fit : List I → I → Type 0) (Fit' : List J → J → Type 0) (Comes : List I → I → I → Type 0) (Comes' : List J → J → J → Type 0)
          → ((before : List I) (x : I) → Fit before x → Fit' (map f before) (f x))
          → ((before : List I) (x : I) → Fit' (map f before) (f x) → Fit before x)
          → ((before : List I) (x y : I) → Comes before x y → Comes' (map f before) (f x) (f y))
          → (out : List I) → IsChosen S Fit Comes out → IsChosen S' Fit' Comes' (map f out)
      chosen_to Fit Fit' Comes Comes' fit unfit comes out c = record {
        list = list_to out c.list;
        fit = λ k u a.
            let (x, h, e) = at_from_map out k u a in
            subst (λ z. Fit' (take k (map f out)) z) e
            (subst (λ before. Fit' before (f x)) (sym (take-map f k out)) (fit (take k out) x (c.fit k x h)));
        chosen = λ k l u v lt au av fv.
            let (x, h, e) = at_from_map out k u au in
            let (y, m, s) = at_from_map out l v av in
            let open_then : Fit (take k out) y = unfit (take k out) y (subst (λ before. Fit' before (f y)) (take-map f k out) (subst (λ z. Fit' (take k (map f out)) z) (sym s) fv)) in
            subst (λ z. Comes' (take k (map f out)) z v) e
            (subst (λ z. Comes' (take k (map f out)) (f x) z) s
            (subst (λ before. Comes' before (f x) (f y)) (sym (take-map f k out)) (comes (take k out) x y (c.chosen k l x y lt h m open_then))));
      }

      open_to : (tips before : List I) (x : I) → IsOpen along tips before x → IsOpen along' (map f tips) (map f before) (f x)
      open_to tips before x (inl t) = inl (contains_map tips x t)
      open_to tips before x (inr (child, c, p)) = inr (f child, contains_map before child c, named_parent child x p)

      open_back : (tips before : List I) (x : I) → IsOpen along' (map f tips) (map f before) (f x) → IsOpen along tips before x
      open_back tips before x (inl t) = inl (contains_back tips x t)
      open_back tips before x (inr (c, b, p)) =
          let (child, h, e) = contains_from_map before c b in
          let (w, i, s) = parent_named child c (f x) e p in
          inr (child, h, subst (λ z. Contains (along child) z) (apart w x s) i)

      ready_to : (before : List I) (x : I) → IsReady along S before x → IsReady along' S' (map f before) (f x)
      ready_to before x r c s p =
          let (child, e, h) = from c s in
          let (w, i, t) = parent_named child c (f x) e p in
          subst (λ z. Contains (map f before) z) e (contains_map before child (r child h (subst (λ z. Contains (along child) z) (apart w x t) i)))

      ready_back : (before : List I) (x : I) → IsReady along' S' (map f before) (f x) → IsReady along S before x
      ready_back before x r child s p = contains_back before child (r (f child) (to child s) (named_parent child x p))

    -- ---- topological

    last_to : (before : List I) (x : I) (j i : ℕ) → IsLastName along before x j i → IsLastName along' (map f before) (f x) j i
    last_to before x j i n = record {
      named = named_to [] before (suc j) i x n.named;
      last = λ q h m earlier. n.last q h (named_back [] before (suc q) h x m) earlier;
    }

    childless_to : (before : List I) (x : I) → HasNoChild along before x → HasNoChild along' (map f before) (f x)
    childless_to before x none c b p =
        let (child, h, e) = contains_from_map before c b in
        let (w, i, s) = parent_named child c (f x) e p in
        none child h (subst (λ z. Contains (along child) z) (apart w x s) i)

    first_to : (tips : List I) (x : I) (i : ℕ) → IsFirstAt tips x i → IsFirstAt (map f tips) (f x) i
    first_to tips x i a = record { at = at_map tips i x a.at; first = λ j b. a.first j (at_back tips j x b) }

    module _ (time : I → ℤ) (time' : J → ℤ) (timed : (x : I) → time' (f x) ≡ time x) where
      outranks_to : (tips before : List I) (x y : I) → Outranks along tips time before x y → Outranks along' (map f tips) time' (map f before) (f x) (f y)
      outranks_to tips before x y (later_child {p} {i} {q} {j} a b lt) =
          later_child (last_to before x p i a) (last_to before y q j b) lt
      outranks_to tips before x y (has_child {p} {i} a b) = has_child (last_to before x p i a) (childless_to before y b)
      outranks_to tips before x y (newer a b lt) =
          newer (childless_to before x a) (childless_to before y b)
          (subst (λ t. t <ℤ time' (f x)) (sym (timed y)) (subst (λ t. time y <ℤ t) (sym (timed x)) lt))
      outranks_to tips before x y (given_later {i} {j} a b same c d lt) =
          given_later (childless_to before x a) (childless_to before y b) (timed y ∙ same ∙ sym (timed x))
          (first_to tips x i c) (first_to tips y j d) lt

      later_to : (x y : I) → time y ≤ℤ time x → time' (f y) ≤ℤ time' (f x)
      later_to x y le = subst (λ t. t ≤ℤ time' (f x)) (sym (timed y)) (subst (λ t. time y ≤ℤ t) (sym (timed x)) le)

-- ---- walks

module _ {I J : Type 0} (f : I → J) (back : J → I) (inverse : (x : I) → back (f x) ≡ x) (g : Commits I) (h : Commits J) (named : AreNamed f g h) (tips hidden : List I) (parents : Parents) (since : Option ℤ) where
  abbrev q : WalkRequest I
  q = record { tips = tips; hidden = hidden; parents = parents; since = since; accepts = λ _. true }

  abbrev q' : WalkRequest J
  q' = record { tips = map f tips; hidden = map f hidden; parents = parents; since = since; accepts = λ _. true }

  asked_named : (along : Parents) (x : I) → asked_parents along h (f x) ≡ map f (asked_parents along g x)
  asked_named All x = named.parents x
  asked_named First x = ap (take 1) (named.parents x) ∙ take-map f 1 (g x).parents

  pass_to : (x : I) → Passes g q x → Passes h q' (f x)
  pass_to x p = (p.0, subst (λ t. IfSome since (λ s. s ≤ℤ t)) (sym (named.time x)) p.1)

  pass_from : (x : I) → Passes h q' (f x) → Passes g q x
  pass_from x p = (p.0, subst (λ t. IfSome since (λ s. s ≤ℤ t)) (named.time x) p.1)

  hides_to : (x : I) → Hides g q x → Hides h q' (f x)
  hides_to x r = reached_to f back inverse (λ y. (g y).parents) (λ y. (h y).parents) named.parents (λ _. ⊤) (λ _. ⊤) hidden (λ _ t. t) r

  hides_back : (x : I) → Hides h q' (f x) → Hides g q x
  hides_back x r = reached_back f back inverse (λ y. (g y).parents) (λ y. (h y).parents) named.parents (λ _. ⊤) (λ _. ⊤) hidden (λ _ t. t) x r

  listed_to : (x : I) → Listed g q x → Listed h q' (f x)
  listed_to x l = (
    reached_to f back inverse (asked_parents parents g) (asked_parents parents h) (asked_named parents) (Passes g q) (Passes h q') tips pass_to l.0,
    λ r. l.1 (hides_back x r),
  )

  listed_from : (y : J) → Listed h q' y → (x : I) × (f x ≡ y) × Listed g q x
  listed_from y l =
      let (x, e, r) = reached_from f back inverse (asked_parents parents g) (asked_parents parents h) (asked_named parents) (Passes g q) (Passes h q') tips pass_from l.0 in
      (x, e, (r, λ hidden_too. l.1 (subst (Hides h q') e (hides_to x hidden_too))))

  pub breadth_named : (ids : List I) → InBreadth g q ids → InBreadth h q' (map f ids)
  breadth_named ids b =
      breadth_to f back inverse (asked_parents parents g) (asked_parents parents h) (asked_named parents) (Listed g q) (Listed h q') listed_to listed_from tips ids b

  abbrev choosing : (Fit : List I → I → Type 0) (Fit' : List J → J → Type 0) (Comes : List I → I → I → Type 0) (Comes' : List J → J → J → Type 0)
      → ((before : List I) (x : I) → Fit before x → Fit' (map f before) (f x))
      → ((before : List I) (x : I) → Fit' (map f before) (f x) → Fit before x)
      → ((before : List I) (x y : I) → Comes before x y → Comes' (map f before) (f x) (f y))
      → (ids : List I) → IsChosen (Listed g q) Fit Comes ids → IsChosen (Listed h q') Fit' Comes' (map f ids)
  choosing =
      chosen_to f back inverse (asked_parents parents g) (asked_parents parents h) (asked_named parents) (Listed g q) (Listed h q') listed_to listed_from

  abbrev later : (x y : I) → (g y).time ≤ℤ (g x).time → (h (f y)).time ≤ℤ (h (f x)).time
  later = later_to f back inverse (asked_parents parents g) (asked_parents parents h) (asked_named parents) (λ x. (g x).time) (λ y. (h y).time) named.time

  opened : (before : List I) (x : I) → IsOpen (asked_parents parents g) tips before x → IsOpen (asked_parents parents h) (map f tips) (map f before) (f x)
  opened = open_to f back inverse (asked_parents parents g) (asked_parents parents h) (asked_named parents) (Listed g q) (Listed h q') listed_to listed_from tips

  unopened : (before : List I) (x : I) → IsOpen (asked_parents parents h) (map f tips) (map f before) (f x) → IsOpen (asked_parents parents g) tips before x
  unopened = open_back f back inverse (asked_parents parents g) (asked_parents parents h) (asked_named parents) (Listed g q) (Listed h q') listed_to listed_from tips

  readied : (before : List I) (x : I) → IsReady (asked_parents parents g) (Listed g q) before x → IsReady (asked_parents parents h) (Listed h q') (map f before) (f x)
  readied = ready_to f back inverse (asked_parents parents g) (asked_parents parents h) (asked_named parents) (Listed g q) (Listed h q') listed_to listed_from

  unreadied : (before : List I) (x : I) → IsReady (asked_parents parents h) (Listed h q') (map f before) (f x) → IsReady (asked_parents parents g) (Listed g q) before x
  unreadied = ready_back f back inverse (asked_parents parents g) (asked_parents parents h) (asked_named parents) (Listed g q) (Listed h q') listed_to listed_from

  pub newest_named : (ids : List I) → ByNewest g q ids → ByNewest h q' (map f ids)
  newest_named ids c =
      choosing (IsOpen (asked_parents parents g) tips) (IsOpen (asked_parents parents h) (map f tips))
      (λ _ x y. (g y).time ≤ℤ (g x).time) (λ _ x y. (h y).time ≤ℤ (h x).time)
      opened unopened (λ _ x y. later x y) ids c

  pub oldest_named : (ids : List I) → ByOldest g q ids → ByOldest h q' (map f ids)
  oldest_named ids c =
      choosing (IsOpen (asked_parents parents g) tips) (IsOpen (asked_parents parents h) (map f tips))
      (λ _ x y. (g x).time ≤ℤ (g y).time) (λ _ x y. (h x).time ≤ℤ (h y).time)
      opened unopened (λ _ x y. later y x) ids c

  pub date_named : (ids : List I) → InDate g q ids → InDate h q' (map f ids)
  date_named ids (finished, c, e) = (
    map f finished,
    choosing (IsReady (asked_parents parents g) (Listed g q)) (IsReady (asked_parents parents h) (Listed h q'))
        (λ _ x y. (g y).time ≤ℤ (g x).time) (λ _ x y. (h y).time ≤ℤ (h x).time)
        readied unreadied (λ _ x y. later x y) finished c,
    ap (map f) (e ∙ keep_all finished) ∙ sym (keep_all (map f finished)),
  )

  pub topological_named : (ids : List I) → InTopological g q ids → InTopological h q' (map f ids)
  topological_named ids (finished, c, e) = (
    map f finished,
    choosing (IsReady (asked_parents parents g) (Listed g q)) (IsReady (asked_parents parents h) (Listed h q'))
        (Outranks (asked_parents parents g) tips (λ x. (g x).time)) (Outranks (asked_parents parents h) (map f tips) (λ y. (h y).time))
        readied unreadied (outranks_to f back inverse (asked_parents parents g) (asked_parents parents h) (asked_named parents) (λ x. (g x).time) (λ y. (h y).time) named.time tips) finished c,
    ap (map f) (e ∙ keep_all finished) ∙ sym (keep_all (map f finished)),
  )

-- a list in this order is one of the names in this order
pub named_in_order : {I J : Type 0} (f : I → J) (back : J → I) (inverse : (x : I) → back (f x) ≡ x) (g : Commits I) (h : Commits J) (named : AreNamed f g h)
    (order : Order) (tips hidden ids : List I) → IsInOrder order g (walk_from order tips hidden) ids
    → IsInOrder order h (walk_from order (map f tips) (map f hidden)) (map f ids)
named_in_order f back inverse g h named (Breadth parents) tips hidden ids b = breadth_named f back inverse g h named tips hidden parents None ids b
named_in_order f back inverse g h named (Newest since) tips hidden ids b = newest_named f back inverse g h named tips hidden All since ids b
named_in_order f back inverse g h named (Oldest since) tips hidden ids b = oldest_named f back inverse g h named tips hidden All since ids b
named_in_order f back inverse g h named (Date parents) tips hidden ids b = date_named f back inverse g h named tips hidden parents None ids b
named_in_order f back inverse g h named (Topological parents) tips hidden ids b = topological_named f back inverse g h named tips hidden parents None ids b
