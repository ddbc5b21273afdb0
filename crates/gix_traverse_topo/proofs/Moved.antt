-- An order of one history is one of another that agrees with it on the set.
use Rattle.std.proofs.Common.{◌≡◌, ℕ, List, take, sym, ◌∙◌, subst}
use Rattle.std.specs.Prelude.{Contains, ◌↔◌, ℤ, ◌≤ℤ◌, ◌<ℤ◌}
use Rattle.gix_traverse_graph.specs.Order.{At, IsListOf, IsReady, IsByDate, IsTopological, NamedBy, IsLastName, HasNoChild, Outranks, later_child, has_child, newer, given_later}
use Rattle.gix_traverse_graph.proofs.Lists.{contains_from_at}
use Rattle.gix_traverse_topo.proofs.Turns.{contains_take}

module _ {I : Type 0} (along along' : I → List I) (S S' : I → Type 0) (same : (x : I) → S x ↔ S' x) (agree : (x : I) → S x → along x ≡ along' x) where
  ready_moved : (before : List I) (x : I) → IsReady along S before x → IsReady along' S' before x
  ready_moved before x r c s n = let t = (same c).1 s in r c t (subst (λ (zs : List I). Contains zs x) (sym (agree c t)) n)

  ready_back : (before : List I) (x : I) → IsReady along' S' before x → IsReady along S before x
  ready_back before x r c s n = r c ((same c).0 s) (subst (λ (zs : List I). Contains zs x) (agree c s) n)

  -- the commits given are of the set
  module _ (before : List I) (inside : (x : I) → Contains before x → S x) where
    named_moved : (j i : ℕ) (x : I) → NamedBy along before j i x → NamedBy along' before j i x
    named_moved j i x (c, a, n) = (c, a, subst (λ (zs : List I). At zs i x) (agree c (inside c (contains_from_at before j c a))) n)

    named_back : (j i : ℕ) (x : I) → NamedBy along' before j i x → NamedBy along before j i x
    named_back j i x (c, a, n) = (c, a, subst (λ (zs : List I). At zs i x) (sym (agree c (inside c (contains_from_at before j c a)))) n)

    last_moved : (x : I) (j i : ℕ) → IsLastName along before x j i → IsLastName along' before x j i
    last_moved x j i l = record { named = named_moved j i x l.named; last = λ q h n b. l.last q h (named_back q h x n) b }

    childless_moved : (x : I) → HasNoChild along before x → HasNoChild along' before x
    childless_moved x h c b n = h c b (subst (λ (zs : List I). Contains zs x) (sym (agree c (inside c b))) n)

    outranks_moved : (tips : List I) (time time' : I → ℤ) (x y : I) → time x ≡ time' x → time y ≡ time' y → Outranks along tips time before x y → Outranks along' tips time' before x y
    outranks_moved tips time time' x y ex ey (later_child {p = p} {i = i} {q = q} {j = j} a b l) = later_child (last_moved x p i a) (last_moved y q j b) l
    outranks_moved tips time time' x y ex ey (has_child {p = p} {i = i} a b) = has_child (last_moved x p i a) (childless_moved y b)
    outranks_moved tips time time' x y ex ey (newer a b t) = newer (childless_moved x a) (childless_moved y b) (subst (λ (n : ℤ). time' y <ℤ n) ex (subst (λ (n : ℤ). n <ℤ time x) ey t))
    outranks_moved tips time time' x y ex ey (given_later a b t c d l) = given_later (childless_moved x a) (childless_moved y b) (sym ey ∙ t ∙ ex) c d l

  list_moved : (out : List I) → IsListOf S out → IsListOf S' out
  list_moved out l = record {
    each = λ x. ((λ c. (same x).0 ((l.each x).0 c)), (λ s. (l.each x).1 ((same x).1 s)));
    once = l.once;
  }

  within : (out : List I) → IsListOf S out → (k : ℕ) (x : I) → Contains (take k out) x → S x
  within out l k x c = (l.each x).0 (contains_take out k x c)

  module _ (time time' : I → ℤ) (timed : (x : I) → S x → time x ≡ time' x) where
    pub date_moved : (out : List I) → IsByDate along time S out → IsByDate along' time' S' out
    date_moved out h = record {
      list = list_moved out h.list;
      fit = λ k x a. ready_moved (take k out) x (h.fit k x a);
      chosen = λ k l x y lt a b r.
          let sx = (h.list.each x).0 (contains_from_at out k x a) in
          let sy = (h.list.each y).0 (contains_from_at out l y b) in
          let c = h.chosen k l x y lt a b (ready_back (take k out) y r) in
          subst (λ (n : ℤ). time' y ≤ℤ n) (timed x sx) (subst (λ (n : ℤ). n ≤ℤ time x) (timed y sy) c);
    }

    pub topological_moved : (tips out : List I) → IsTopological along tips time S out → IsTopological along' tips time' S' out
    topological_moved tips out h = record {
      list = list_moved out h.list;
      fit = λ k x a. ready_moved (take k out) x (h.fit k x a);
      chosen = λ k l x y lt a b r.
          let sx = (h.list.each x).0 (contains_from_at out k x a) in
          let sy = (h.list.each y).0 (contains_from_at out l y b) in
          outranks_moved (take k out) (within out h.list k) tips time time' x y (timed x sx) (timed y sy) (h.chosen k l x y lt a b (ready_back (take k out) y r));
    }
