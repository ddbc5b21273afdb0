-- Which commit comes next in breadth order.
use Rattle.std.proofs.Common.{◌≡◌, ℕ, zero, suc, ◌<◌, ◌≤◌, inl, inr, List, [], ◌∷◌, ◌++◌, length, refl, subst, arith}
use Rattle.std.specs.Prelude.{Contains}
use Rattle.std.proofs.lemmas.Option.{slice_get_within}
use Rattle.gix_traverse_graph.specs.Order.{At, Before, IsKey, Named}
use Rattle.gix_traverse_graph.specs.Reading.{Read}
use Rattle.gix_traverse_graph.specs.Turns.{IsNextInBreadth}
use Rattle.gix_traverse_graph.proofs.Lists.{at_one, at_from_contains, contains_from_at, none_at_nil, three}

pub at_first : {I : Type 0} (listed queue queue' : List I) (id : I) → queue ≡ id ∷ queue' → At (listed ++ queue) (length listed) id
at_first [] queue queue' id e = rw e refl
at_first (x ∷ xs) queue queue' id e = at_first xs queue queue' id e

pub at_left : {I : Type 0} (xs ys : List I) (k : ℕ) (x : I) → At xs k x → At (xs ++ ys) k x
at_left [] ys k x b = absurd (none_at_nil k x b)
at_left (y ∷ xs) ys zero x b = b
at_left (y ∷ xs) ys (suc k) x b = at_left xs ys k x b

at_from_left : {I : Type 0} (xs ys : List I) (k : ℕ) (x : I) → k < length xs → At (xs ++ ys) k x → At xs k x
at_from_left [] ys k x l a = absurd (omega arith)
at_from_left (y ∷ xs) ys zero x l a = a
at_from_left (y ∷ xs) ys (suc k) x l a = at_from_left xs ys k x (omega arith) a

module _ {I : Type 0} (along : I → List I) (tips : List I) (keep : I → Type 0) (listed queue : List I) where
  named_right : (q j : ℕ) (x : I) → Named along tips listed q j x → Named along tips (listed ++ queue) q j x
  named_right zero j x n = n
  named_right (suc q) j x (c, a, b) = (c, at_left listed queue q c a, b)

  named_left : (q j : ℕ) (x : I) → q ≤ length listed → Named along tips (listed ++ queue) q j x → Named along tips listed q j x
  named_left zero j x l n = n
  named_left (suc q) j x l (c, a, b) = (c, at_from_left listed queue q c (omega arith) a, b)

  named_within : (q j : ℕ) (x : I) → Named along tips listed q j x → q ≤ length listed
  named_within zero j x n = omega arith
  named_within (suc q) j x (c, a, b) = let l = slice_get_within listed q c a in omega arith

  pub next_first : (m : ℕ) → Read along tips keep (listed ++ queue) (length listed) m → ((j : ℕ) (x : I) → Named along tips (listed ++ queue) (length listed) j x → j < m) → (S : I → Type 0) → ((x : I) → S x → keep x) → (id : I) (queue' : List I) → queue ≡ id ∷ queue' → S id → IsNextInBreadth along tips S listed id
  next_first m r all S keeps id queue' e member =
      let here : At (listed ++ queue) (length listed) id = at_first listed queue queue' id e in
      let (p, i, key, before) = r.keyed (length listed) id here in
      record {
        member = member;
        new = λ c. again here c;
        place = p;
        index = i;
        key = record {
          named = named_left p i id (lower p i before) key.named;
          first = λ q j n b. key.first q j (named_right q j id n) b;
        };
        first = λ y q j s out n b. least here p i key y q j out (named_right q j y n) (holds y q j (keeps y s) (named_right q j y n) (named_within q j y n)) b;
      }
    where
      lower : (p i : ℕ) → Before p i (length listed) m → p ≤ length listed
      lower p i b = grind arith

      again : At (listed ++ queue) (length listed) id → Contains listed id → ⊥
      again here c =
          let (k, b) = at_from_contains listed id c in
          let l = slice_get_within listed k id b in
          let same = r.once k (length listed) id (at_left listed queue k id b) here in
          let z : ⊥ = absurd (omega arith) in z

      holds : (y : I) (q j : ℕ) → keep y → Named along tips (listed ++ queue) q j y → q ≤ length listed → Contains (listed ++ queue) y
      holds y q j k n l = r.closed q j y n (elim (three q (length listed)) [
        | inl lt ↦ inl lt
        | inr (inl f) ↦ inr (f, all j y (subst (λ (a : ℕ). Named along tips (listed ++ queue) a j y) f n))
        | inr (inr g) ↦ absurd (omega arith)
      ]) k

      outranked : (p i b h q j : ℕ) → Before p i b h → (Before q j b h → ⊥) → Before q j p i → ⊥
      outranked p i b h q j f n g = n (both f g)
        where
          both : Before p i b h → Before q j p i → Before q j b h
          both f g = grind arith

      least : At (listed ++ queue) (length listed) id → (p i : ℕ) → IsKey along tips (listed ++ queue) id p i → (y : I) (q j : ℕ) → (Contains listed y → ⊥) → Named along tips (listed ++ queue) q j y → Contains (listed ++ queue) y → Before q j p i → ⊥
      least here p i key y q j out n c b =
          let (l, a) = at_from_contains (listed ++ queue) y c in
          elim (three l (length listed)) [
            | inl lt ↦ out (contains_from_at listed l y (at_from_left listed queue l y lt a))
            | inr (inl f) ↦ (let same : y ≡ id = at_one (listed ++ queue) (length listed) y id (subst (λ (k : ℕ). At (listed ++ queue) k y) f a) here in key.first q j (subst (λ (z : I). Named along tips (listed ++ queue) q j z) same n) b)
            | inr (inr g) ↦ (let (s, h, k, d) = r.keyed l y a in outranked p i s h q j (r.ascending (length listed) l id y p i s h g here a key k) (k.first q j n) b)
          ]
