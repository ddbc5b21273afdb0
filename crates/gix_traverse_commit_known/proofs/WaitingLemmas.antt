-- Those that wait, by their numbers.
use Rattle.std.proofs.Common.{◌≡◌, ℕ, ◌+◌, ◌≤◌, ◌⊎◌, inl, inr, List, [], ◌∷◌, refl, sym, ap, subst, arith, Bool, true, false, cond, ℤ, T}
use lib.Signed.{lt_z, lt_z_no, ≤ℤ_refl}
use Rattle.std.specs.Prelude.{Contains, ◌↔◌, not, ◌≤ℤ◌, is_some}
use Rattle.std.specs.BTreeMap.{get, insert_entry}
use Rattle.std.specs.List.{count_by, list_any}
use Rattle.std.specs.Map.{keys_of}
use Rattle.std.specs.Ordering.{eq_by_cmp, int_cmp, is_eq, match_ordering, nat_cmp}
use Rattle.std.specs.Cmp.{IsTotalOrder}
use Rattle.std.specs.declared.cmp.Ordering.{Ordering}
use Rattle.std.specs.declared.cmp.Ordering.TheVariants.{Less, Equal, Greater}
use Rattle.std.proofs.lemmas.Cmp.{int_cmp_total, nat_cmp_total, on_total, then_total, tied_itself}
use Rattle.std.proofs.lemmas.List.Sums.{sum_by-cons}
use Rattle.std.proofs.lemmas.Map.Lookups.{CmpEqualImpliesEq, exact_signed, exact_unsigned}
use Rattle.std.proofs.lemmas.Map.Views.{btree_map_contains_key_iff}
use Rattle.gix_traverse_commit_known.specs.Waiting.{pending_cmp, pendings, still_among}
use Rattle.gix_traverse_commit_known.specs.declared.nodes.Number.{Number}
use Rattle.gix_traverse_commit_known.specs.declared.waiting.Pending.{Pending}
use Rattle.gix_traverse_commit_known.specs.declared.waiting.Waiting.{Waiting}
use Rattle.gix_traverse_commit_known.proofs.Pending.{from_filter}
use Rattle.gix_traverse_graph.proofs.Slow.{TellsApart, any_from_contains, contains_from_any}
use Rattle.gix_traverse_commit_known.proofs.Timely.{in_cons, in_first, in_nil, in_rest}

-- ---- in their order

pub pending_total : IsTotalOrder pending_cmp
pending_total = then_total (on_total (λ (p : Pending). p.time) int_cmp_total) (on_total (λ (p : Pending). p.number.0) nat_cmp_total)

pub never_less : (p : Pending) → pending_cmp p p ≡ Less → ⊥
never_less p e = let f = tied_itself pending_total p in let z : ⊥ = cc in z

no_later : (m n : ℤ) → int_cmp m n ≡ Less → m ≤ℤ n
no_later m n e = go (lt_z n m) refl
  where
    go : (b : Bool) → lt_z n m ≡ b → m ≤ℤ n
    go true t =
        let f : int_cmp n m ≡ Less = rw t refl in
        let h = int_cmp_total.antisymm m n in
        let i : int_cmp m n ≡ Greater = rw f at h in
        let z : ⊥ = cc in absurd z
    go false f = lt_z_no (subst (λ (b : Bool). T (not b)) (sym f) tt)

-- a lesser one has no later time
pub older_from_less : (a b : Pending) → pending_cmp a b ≡ Less → a.time ≤ℤ b.time
older_from_less a b e = go (int_cmp a.time b.time) refl
  where
    go : (o : Ordering) → o ≡ int_cmp a.time b.time → a.time ≤ℤ b.time
    go Less f = no_later a.time b.time (sym f)
    go Equal f = subst (λ (n : ℤ). a.time ≤ℤ n) (exact_signed a.time b.time (sym f)) (≤ℤ_refl a.time)
    go Greater f = let g = rw (sym f) at e in let z : ⊥ = cc in absurd z

abbrev numbered : ℕ → Number
numbered n = record { 0 = n }

pub same_pending : (a b : Pending) → a.time ≡ b.time → a.number.0 ≡ b.number.0 → a ≡ b
same_pending a b s i =
    let number : a.number ≡ b.number = ap numbered i in
    subst (λ (n : ℤ). a ≡ record { time = n; number = b.number }) s (subst (λ (x : Number). a ≡ record { time = a.time; number = x }) number refl)

pub pending_exact : CmpEqualImpliesEq pending_cmp
pending_exact a b e = go (int_cmp a.time b.time) refl
  where
    go : (o : Ordering) → o ≡ int_cmp a.time b.time → a ≡ b
    go Less f = let g = rw (sym f) at e in let z : ⊥ = cc in absurd z
    go Greater f = let g = rw (sym f) at e in let z : ⊥ = cc in absurd z
    go Equal f =
        let g : nat_cmp a.number.0 b.number.0 ≡ Equal = rw (sym f) at e in
        same_pending a b (exact_signed a.time b.time (sym f)) (exact_unsigned a.number.0 b.number.0 g)

is_equal : (o : Ordering) → is_eq o ≡ true → o ≡ Equal
is_equal Equal e = refl
is_equal Less e = let z : ⊥ = cc in absurd z
is_equal Greater e = let z : ⊥ = cc in absurd z

pub pending_apart : TellsApart (eq_by_cmp pending_cmp)
pending_apart = record { same = λ a b e. pending_exact a b (is_equal (pending_cmp a b) e); itself = λ a. ap is_eq (tied_itself pending_total a) }

both_true : (p q : Bool) → (p ≡ true → q ≡ true) → (q ≡ true → p ≡ true) → p ≡ q
both_true true q f b = sym (f refl)
both_true false true f b = b refl
both_true false false f b = refl

-- the map says which wait
pub waits_in : (w : Waiting) (p : Pending) → is_some (get pending_cmp w.turns p) ≡ list_any (eq_by_cmp pending_cmp p) (pendings w)
waits_in w p =
    let same = btree_map_contains_key_iff pending_total pending_exact w.turns p in
    both_true (is_some (get pending_cmp w.turns p)) (list_any (eq_by_cmp pending_cmp p) (pendings w))
    (λ t. any_from_contains (eq_by_cmp pending_cmp) pending_apart (pendings w) p (same.0 t))
    (λ t. same.1 (contains_from_any (eq_by_cmp pending_cmp) pending_apart (pendings w) p t))

-- those that were queued and wait are among those that wait
pub still_waits : (waiting order : List Pending) (p : Pending) → Contains (still_among waiting order) p → Contains waiting p
still_waits waiting order p c = contains_from_any (eq_by_cmp pending_cmp) pending_apart waiting p (from_filter (λ (q : Pending). list_any (eq_by_cmp pending_cmp q) waiting) order p c)

-- ---- one more is put in

module _ (pending : Pending) (place : ℕ) where
  put_new : (es : List (Pending × ℕ)) → Contains (keys_of (insert_entry pending_cmp es pending place)) pending
  put_new [] = in_first pending []
  put_new (e ∷ es) = go (put_new es) (pending_cmp pending e.0) refl
    where
      go : Contains (keys_of (insert_entry pending_cmp es pending place)) pending → (o : Ordering) → o ≡ pending_cmp pending e.0 → Contains (keys_of (match_ordering o ((pending, place) ∷ e ∷ es) ((e.0, place) ∷ es) (e ∷ insert_entry pending_cmp es pending place))) pending
      go next Less f = in_first pending (e.0 ∷ keys_of es)
      go next Equal f = let s : pending ≡ e.0 = pending_exact pending e.0 (sym f) in subst (λ (t : Pending). Contains (e.0 ∷ keys_of es) t) (sym s) (in_first e.0 (keys_of es))
      go next Greater f = in_rest e.0 (keys_of (insert_entry pending_cmp es pending place)) pending next

  put_old : (es : List (Pending × ℕ)) (t : Pending) → Contains (keys_of es) t → Contains (keys_of (insert_entry pending_cmp es pending place)) t
  put_old [] t c = absurd (in_nil t c)
  put_old (e ∷ es) t c = go (put_old es t) (pending_cmp pending e.0)
    where
      go : (Contains (keys_of es) t → Contains (keys_of (insert_entry pending_cmp es pending place)) t) → (o : Ordering) → Contains (keys_of (match_ordering o ((pending, place) ∷ e ∷ es) ((e.0, place) ∷ es) (e ∷ insert_entry pending_cmp es pending place))) t
      go next Less = in_rest pending (e.0 ∷ keys_of es) t c
      go next Equal = c
      go next Greater = elim (in_cons e.0 (keys_of es) t c) [
        | inl s ↦ subst (λ (u : Pending). Contains (e.0 ∷ keys_of (insert_entry pending_cmp es pending place)) u) (sym s) (in_first e.0 (keys_of (insert_entry pending_cmp es pending place)))
        | inr d ↦ in_rest e.0 (keys_of (insert_entry pending_cmp es pending place)) t (next d)
      ]

  put_from : (es : List (Pending × ℕ)) (t : Pending) → Contains (keys_of (insert_entry pending_cmp es pending place)) t → (t ≡ pending) ⊎ Contains (keys_of es) t
  put_from [] t c = elim (in_cons pending [] t c) [ inl e ↦ inl e | inr d ↦ absurd (in_nil t d) ]
  put_from (e ∷ es) t c = go (put_from es t) (pending_cmp pending e.0) c
    where
      go : (Contains (keys_of (insert_entry pending_cmp es pending place)) t → (t ≡ pending) ⊎ Contains (keys_of es) t) → (o : Ordering) → Contains (keys_of (match_ordering o ((pending, place) ∷ e ∷ es) ((e.0, place) ∷ es) (e ∷ insert_entry pending_cmp es pending place))) t → (t ≡ pending) ⊎ Contains (keys_of (e ∷ es)) t
      go next Less c = in_cons pending (e.0 ∷ keys_of es) t c
      go next Equal c = inr c
      go next Greater c = elim (in_cons e.0 (keys_of (insert_entry pending_cmp es pending place)) t c) [
        | inl s ↦ inr (subst (λ (u : Pending). Contains (e.0 ∷ keys_of es) u) (sym s) (in_first e.0 (keys_of es)))
        | inr d ↦ elim (next d) [ inl s ↦ inl s | inr f ↦ inr (in_rest e.0 (keys_of es) t f) ]
      ]

  pub put_joins : (es : List (Pending × ℕ)) (new : List Pending) → new ≡ keys_of (insert_entry pending_cmp es pending place) → (p : Pending) → Contains new p ↔ ((p ≡ pending) ⊎ Contains (keys_of es) p)
  put_joins es new e p = (
    (λ c. put_from es p (subst (λ (ps : List Pending). Contains ps p) e c)),
    (λ d. subst (λ (ps : List Pending). Contains ps p) (sym e) (elim d [ inl s ↦ subst (λ (u : Pending). Contains (keys_of (insert_entry pending_cmp es pending place)) u) (sym s) (put_new es) | inr c ↦ put_old es p c ])),
  )

module _ (pending : Pending) (place : ℕ) (passes : Pending → Bool) where
  abbrev one : Pending → ℕ
  one p = cond (passes p) 1 0

  abbrev Most : List (Pending × ℕ) → List Pending → Type 0
  Most es new = count_by passes new ≤ count_by passes (keys_of es) + one pending

  put_times : (es : List (Pending × ℕ)) → Most es (keys_of (insert_entry pending_cmp es pending place))
  put_times [] = let e = sum_by-cons one pending [] in omega (arith, e)
  put_times (e ∷ es) = go (put_times es) (pending_cmp pending e.0)
    where
      go : Most es (keys_of (insert_entry pending_cmp es pending place)) → (o : Ordering) → Most (e ∷ es) (keys_of (match_ordering o ((pending, place) ∷ e ∷ es) ((e.0, place) ∷ es) (e ∷ insert_entry pending_cmp es pending place)))
      go next Less =
          let a = sum_by-cons one pending (e.0 ∷ keys_of es) in
          let h : Most (e ∷ es) (pending ∷ e.0 ∷ keys_of es) = omega (arith, a) in h
      go next Equal = let h : Most (e ∷ es) (e.0 ∷ keys_of es) = omega arith in h
      go next Greater =
          let a = sum_by-cons one e.0 (keys_of (insert_entry pending_cmp es pending place)) in
          let b = sum_by-cons one e.0 (keys_of es) in
          let h : Most (e ∷ es) (e.0 ∷ keys_of (insert_entry pending_cmp es pending place)) = omega (arith, a, b, next) in h

  pub put_once : (es : List (Pending × ℕ)) (new : List Pending) → new ≡ keys_of (insert_entry pending_cmp es pending place) → count_by passes new ≤ count_by passes (keys_of es) + one pending
  put_once es new e = let f = ap (λ (ps : List Pending). count_by passes ps) e in let h = put_times es in omega (arith, f, h)
