-- Marks on the opened trees that the root leads down to.
use Rattle.std.proofs.Common.{ℕ, zero, suc, ◌≡◌, ◌<◌, ◌≤◌, ◌+◌, ◌⊎◌, Bool, true, false, cond, List, [], ◌∷◌, Option, Some, None, refl, sym, ap, ◌∙◌, inl, inr, arith, length, get_or, slice_set, ◌==◌, ◌||◌, eqb-true, eq-eqb, ne_eqb, replicate, ◌++◌, subst}
use Rattle.std.specs.List.{AllByRecursion, IsDistinct}
use Rattle.std.specs.Map.{lookup, keys_of, values_of}
use Rattle.std.specs.Ordering.{eq_by_cmp}
use Rattle.std.proofs.lemmas.Bool.{cases_eq, cases_lt}
use Rattle.std.proofs.lemmas.List.{get_or-set_same, get_or-set_other}
use Rattle.std.proofs.lemmas.Map.Keys.{IsDistinct-head, IsDistinct-tail}
use Rattle.gix_object_nodes.specs.declared.node.NodeId.{NodeId}
use Rattle.gix_object_nodes.specs.declared.node.Slot.{Slot}
use Rattle.gix_object_nodes.specs.Files.{Bytes, Path}
use Rattle.gix_object_nodes.specs.Nodes.{Key, Slots, child_or, child_of, Way, IsForest}
use Rattle.gix_object_nodes.specs.Writing.{IsReached}
use Rattle.gix_object_nodes.proofs.Paths.{by_test}
use Rattle.gix_object_nodes.proofs.Slots.{key_cmp, is_named}
use Rattle.gix_object_nodes.proofs.WrittenEntries.{named_same, named_itself, none_later}

-- ---- the opened trees in a node's slots

abbrev pub is_child : ℕ → Slot → Bool
is_child j s = child_or s.child (λ c. c == j) false

abbrev pub has_child : ℕ → List Slot → Bool
has_child j [] = false
has_child j (s ∷ slots) = is_child j s || has_child j slots

child_is : (j : ℕ) (child : Option NodeId) → child_or child (λ c. Some c) None ≡ Some j → child_or child (λ c. c == j) false ≡ true
child_is j None e = absurd (cc e)
child_is j (Some c) e = let same : c.0 ≡ j = cc in eq-eqb c.0 j same

is_child_of : (j : ℕ) (child : Option NodeId) → child_or child (λ c. c == j) false ≡ true → child_or child (λ c. Some c) None ≡ Some j
is_child_of j None e = absurd (cc e)
is_child_of j (Some c) e = ap Some (eqb-true c.0 j e)

some_child : (j : ℕ) (m : Bytes) (es : List (Key × Slot)) → child_of (lookup (is_named m) es) ≡ Some j → has_child j (values_of es) ≡ true
some_child j m [] e = absurd (cc e)
some_child j m (x ∷ es) e = elim (by_test (is_named m x.0)) [
  | inl t ↦
      let here : child_of (Some x.1) ≡ Some j = ap (λ b. child_of (cond b (Some x.1) (lookup (is_named m) es))) (sym t) ∙ e in
      ap (λ b. b || has_child j (values_of es)) (child_is j x.1.child here)
  | inr f ↦
      let later : child_of (lookup (is_named m) es) ≡ Some j = ap (λ b. child_of (cond b (Some x.1) (lookup (is_named m) es))) (sym f) ∙ e in
      ap (λ b. is_child j x.1 || b) (some_child j m es later) ∙ or_true (is_child j x.1)
]
  where
    or_true : (b : Bool) → (b || true) ≡ true
    or_true true = refl
    or_true false = refl

-- a slot after the first is found by its name as well
pub found_later : (m : Bytes) (x : Key × Slot) (es : List (Key × Slot)) (s : Slot) → IsDistinct (eq_by_cmp key_cmp) (keys_of (x ∷ es)) → lookup (is_named m) es ≡ Some s → lookup (is_named m) (x ∷ es) ≡ Some s
found_later m x es s apart e = elim (by_test (is_named m x.0)) [
  | inl t ↦
      let none : lookup (is_named m) es ≡ None = none_later x.0 m (named_same m x.0 t) es (IsDistinct-head (eq_by_cmp key_cmp) x.0 (keys_of es) apart) in
      absurd (cc (sym none ∙ e))
  | inr f ↦ ap (λ b. cond b (Some x.1) (lookup (is_named m) es)) f ∙ e
]

pub found_first : (x : Key × Slot) (es : List (Key × Slot)) → lookup (is_named x.0.items) (x ∷ es) ≡ Some x.1
found_first x es = ap (λ b. cond b (Some x.1) (lookup (is_named x.0.items) es)) (named_itself x.0)

child_later : (m : Bytes) (x : Key × Slot) (es : List (Key × Slot)) (c : ℕ) (o : Option Slot) → IsDistinct (eq_by_cmp key_cmp) (keys_of (x ∷ es)) → lookup (is_named m) es ≡ o → child_of o ≡ Some c
    → child_of (lookup (is_named m) (x ∷ es)) ≡ Some c
child_later m x es c None apart e is = absurd (cc is)
child_later m x es c (Some s) apart e is = ap child_of (found_later m x es s apart e) ∙ is

child_found : (j : ℕ) (es : List (Key × Slot)) → IsDistinct (eq_by_cmp key_cmp) (keys_of es) → has_child j (values_of es) ≡ true → (m : Bytes) × (child_of (lookup (is_named m) es) ≡ Some j)
child_found j [] apart e = absurd (cc e)
child_found j (x ∷ es) apart e = elim (by_test (is_child j x.1)) [
  | inl t ↦ (x.0.items, ap child_of (found_first x es) ∙ is_child_of j x.1.child t)
  | inr f ↦
      let later = child_found j es (IsDistinct-tail (eq_by_cmp key_cmp) x.0 (keys_of es) apart) (ap (λ b. b || has_child j (values_of es)) (sym f) ∙ e) in
      (later.0, child_later later.0 x es j (lookup (is_named later.0) es) apart refl later.1)
]

-- the opened trees in these slots have numbers below a bound
abbrev pub AreWithin : ℕ → List Slot → Type 0
AreWithin n slots = AllByRecursion (λ (s : Slot). (c : ℕ) → child_of (Some s) ≡ Some c → c < n) slots

pub all_within : (n : ℕ) (es : List (Key × Slot)) → IsDistinct (eq_by_cmp key_cmp) (keys_of es) → ((m : Bytes) (c : ℕ) → child_of (lookup (is_named m) es) ≡ Some c → c < n) → AreWithin n (values_of es)
all_within n [] apart h = tt
all_within n (x ∷ es) apart h = (
  λ c is. h x.0.items c (ap child_of (found_first x es) ∙ is),
  all_within n es (IsDistinct-tail (eq_by_cmp key_cmp) x.0 (keys_of es) apart) (λ m c is. h m c (child_later m x es c (lookup (is_named m) es) apart refl is)),
)

-- ---- marks

pub or_none : (a b : Bool) → (a || false) ≡ b → a ≡ b
or_none true b e = e
or_none false b e = e

-- a mark that is set counts for the first slot
pub marked : (marks : List Bool) (j c : ℕ) (child : Option NodeId) (rest : Bool) → child_or child (λ c. Some c) None ≡ Some c → c < length marks
    → (get_or (slice_set marks c true) j false || rest) ≡ (get_or marks j false || (child_or child (λ c. c == j) false || rest))
marked marks j c None rest e lt = absurd (cc e)
marked marks j c (Some n) rest e lt =
    let same : n.0 ≡ c = cc in
    by_number (cases j c marks lt) ∙ ap (λ k. get_or marks j false || ((k == j) || rest)) (sym same)
  where
    cases : (j c : ℕ) (marks : List Bool) → c < length marks → get_or (slice_set marks c true) j false ≡ ((c == j) || get_or marks j false)
    cases j c marks lt = elim (cases_eq c j) [
      | inl e ↦ ap (λ k. get_or (slice_set marks c true) k false) (sym e) ∙ get_or-set_same marks c true false lt ∙ sym (ap (λ b. b || get_or marks j false) (eq-eqb c j e))
      | inr ne ↦ get_or-set_other marks c j true false (λ e. ne (sym e)) ∙ sym (ap (λ b. b || get_or marks j false) (ne_eqb c j ne))
    ]

    by_number : get_or (slice_set marks c true) j false ≡ ((c == j) || get_or marks j false)
        → (get_or (slice_set marks c true) j false || rest) ≡ (get_or marks j false || ((c == j) || rest))
    by_number e = ap (λ b. b || rest) e ∙ swap (c == j) (get_or marks j false) rest
      where
        swap : (a b c : Bool) → ((a || b) || c) ≡ (b || (a || c))
        swap true true c = refl
        swap true false c = refl
        swap false true c = refl
        swap false false c = refl

-- what was marked, by the marks of before and the slots
pub was_or_is : (old new : Bool) (j : ℕ) (es : List (Key × Slot)) → IsDistinct (eq_by_cmp key_cmp) (keys_of es) → (new || false) ≡ (old || has_child j (values_of es)) → new ≡ true → (old ≡ true) ⊎ ((m : Bytes) × (child_of (lookup (is_named m) es) ≡ Some j))
was_or_is true new j es apart e is = inl refl
was_or_is false new j es apart e is = inr (child_found j es apart (sym e ∙ ap (λ b. b || false) is))

pub is_marked : (old new : Bool) (j : ℕ) (m : Bytes) (es : List (Key × Slot)) → (new || false) ≡ (old || has_child j (values_of es)) → child_of (lookup (is_named m) es) ≡ Some j → new ≡ true
is_marked old new j m es e is = or_none new true (e ∙ ap (λ b. old || b) (some_child j m es is) ∙ or_true old)
  where
    or_true : (b : Bool) → (b || true) ≡ true
    or_true true = refl
    or_true false = refl

pub still_marked : (old new more : Bool) → (new || false) ≡ (old || more) → old ≡ true → new ≡ true
still_marked true new more e is = or_none new true e
still_marked false new more e is = absurd (cc is)

-- ---- the trees that are reached

pub way_end : (slots : Slots) (way : Path) (i j : ℕ) → Way slots way i → Way slots way j → i ≡ j
way_end slots [] i j w v = sym w ∙ v
way_end slots (n ∷ way) i j w v =
    let up : w.0 ≡ v.0 = way_end slots way w.0 v.0 w.1 v.1 in
    let both : Some i ≡ Some j = sym w.2 ∙ ap (λ k. child_of (slots k n)) up ∙ v.2 in
    cc

pub reached_child : (slots : Slots) (base : Path) (p c : ℕ) (m : Bytes) → IsReached slots base p → child_of (slots p m) ≡ Some c → IsReached slots base c
reached_child slots base p c m r e = (m ∷ r.0, (p, r.1, e))

-- what the marks say once the first nodes have marked the trees that lie in them
pub record AreMarked (slots : Slots) (from : ℕ) (marks : List Bool) (i : ℕ) : Type 0 where
  pub rooted : get_or marks from false ≡ true
  pub below : (j : ℕ) → get_or marks j false ≡ true → from ≤ j
  pub sound : (base : Path) → Way slots base from → (j : ℕ) → get_or marks j false ≡ true → IsReached slots base j
  pub whole : (p : ℕ) (m : Bytes) (c : ℕ) → p < i → get_or marks p false ≡ true → child_of (slots p m) ≡ Some c → get_or marks c false ≡ true

-- a mark that was read
pub is_set : (marks : List Bool) (i : ℕ) (b : Bool) → i < length marks → b ≡ get_or marks i b → get_or marks i false ≡ b
is_set [] i b lt e = absurd (omega arith)
is_set (m ∷ marks) zero b lt e = sym e
is_set (m ∷ marks) (suc i) b lt e = let less : i < length marks = omega arith in is_set marks i b less e

-- no mark is set at first
none_set : (n j : ℕ) → get_or (replicate n false) j false ≡ false
none_set zero j = refl
none_set (suc n) zero = refl
none_set (suc n) (suc j) = none_set n j

pub root_marked : (slots : Slots) (n from : ℕ) (marks : List Bool) → marks ≡ replicate n false → from < length marks → AreMarked slots from (slice_set marks from true) 0
root_marked slots n from marks e lt = record {
  rooted = get_or-set_same marks from true false lt;
  below = λ j is. elim (cases_eq j from) [
    | inl same ↦ omega (arith, same)
    | inr ne ↦
        let off : get_or marks j false ≡ false = ap (λ ms. get_or ms j false) e ∙ none_set n j in
        let both : true ≡ false = sym is ∙ get_or-set_other marks from j true false ne ∙ off in
        absurd (cc both)
  ];
  sound = λ base w j is. elim (cases_eq j from) [
    | inl same ↦ ([], subst (λ k. Way slots base k) (sym same) w)
    | inr ne ↦
        let off : get_or marks j false ≡ false = ap (λ ms. get_or ms j false) e ∙ none_set n j in
        let both : true ≡ false = sym is ∙ get_or-set_other marks from j true false ne ∙ off in
        absurd (cc both)
  ];
  whole = λ p m c lt. absurd (omega (arith, lt));
}

module _ (slots : Slots) (from bound : ℕ) (ok : IsForest slots bound) where
  pub marked_more : (old new : List Bool) (i : ℕ) → AreMarked slots from old i → get_or old i false ≡ true
      → ((j : ℕ) → get_or old j false ≡ true → get_or new j false ≡ true)
      → ((m : Bytes) (c : ℕ) → child_of (slots i m) ≡ Some c → get_or new c false ≡ true)
      → ((j : ℕ) → get_or new j false ≡ true → (get_or old j false ≡ true) ⊎ ((m : Bytes) × (child_of (slots i m) ≡ Some j)))
      → AreMarked slots from new (i + 1)
  marked_more old new i so here kept children others = record {
    rooted = kept from so.rooted;
    below = λ j is. elim (others j is) [
      | inl was ↦ so.below j was
      | inr child ↦ let up : i < j = ok.forward i child.0 j child.1 in let le : from ≤ i = so.below i here in omega (arith, up, le)
    ];
    sound = λ base w j is. elim (others j is) [
      | inl was ↦ so.sound base w j was
      | inr child ↦ reached_child slots base i j child.0 (so.sound base w i here) child.1
    ];
    whole = λ p m c lt is child. elim (others p is) [
      | inl was ↦ by_place p m c lt was child (cases_lt p i)
      | inr late ↦ let up : i < p = ok.forward i late.0 p late.1 in absurd (omega arith)
    ];
  }
    where
      by_place : (p : ℕ) (m : Bytes) (c : ℕ) → p < i + 1 → get_or old p false ≡ true → child_of (slots p m) ≡ Some c → (p < i) ⊎ (i ≤ p) → get_or new c false ≡ true
      by_place p m c lt was child (inl before) = kept c (so.whole p m c before was child)
      by_place p m c lt was child (inr behind) = let same : p ≡ i = omega arith in children m c (ap (λ k. child_of (slots k m)) (sym same) ∙ child)

  pub unmarked_more : (marks : List Bool) (i : ℕ) → AreMarked slots from marks i → get_or marks i false ≡ false → AreMarked slots from marks (i + 1)
  unmarked_more marks i so here = record {
    rooted = so.rooted;
    below = so.below;
    sound = so.sound;
    whole = λ p m c lt is child. elim (cases_lt p i) [
      | inl before ↦ so.whole p m c before is child
      | inr behind ↦ let same : p ≡ i = omega arith in let no : get_or marks p false ≡ false = ap (λ k. get_or marks k false) same ∙ here in absurd (cc (sym is ∙ no))
    ];
  }

  module _ (base : Path) (w : Way slots base from) (marks : List Bool) (so : AreMarked slots from marks bound) where
    marked_at : (way : Path) (j : ℕ) → Way slots (way ++ base) j → get_or marks j false ≡ true
    marked_at [] j v = ap (λ k. get_or marks k false) (way_end slots base j from v w) ∙ so.rooted
    marked_at (n ∷ way) j v =
        let up : v.0 < j = ok.forward v.0 n j v.2 in
        let within : j < bound = ok.within v.0 n j v.2 in
        let less : v.0 < bound = omega arith in
        so.whole v.0 n j less (marked_at way v.0 v.1) v.2

    pub all_marked : (j : ℕ) → IsReached slots base j → get_or marks j false ≡ true
    all_marked j r = marked_at r.0 j r.1
