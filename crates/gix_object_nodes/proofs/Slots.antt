-- The slots of nodes after a change.
use Rattle.std.proofs.Common.{ℕ, zero, suc, ◌≡◌, ◌≢◌, ◌<◌, ◌≤◌, ◌+◌, Bool, true, List, [], ◌∷◌, ◌++◌, None, refl, sym, ap, ◌∙◌, inl, inr, arith, length, get_or, slice_set, take}
use Rattle.std.specs.Prelude.{bytes_eq}
use Rattle.std.specs.Map.{lookup, KeepsOthers, IsKeyTest, AreApart}
use Rattle.std.specs.BTreeMap.{is_at}
use Rattle.std.specs.Cmp.Lexicographic.{slice_cmp}
use Rattle.std.specs.Ordering.{nat_cmp, is_eq, eq_by_cmp}
use Rattle.std.specs.declared.cmp.Ordering.{Ordering}
use Rattle.std.proofs.lemmas.Map.Text.{is_eq-slice_cmp}
use Rattle.std.proofs.lemmas.Bool.{cases_eq, cases_lt}
use Rattle.std.proofs.lemmas.List.{length-take}
use Rattle.std.proofs.Math.Seq.{take-append_seam}
use Rattle.gix_object_nodes.specs.declared.node.Node.{Node}
use Rattle.gix_object_nodes.specs.declared.node.Slot.{Slot}
use Rattle.gix_object_nodes.specs.Files.{Bytes}
use Rattle.gix_object_nodes.specs.Nodes.{Key, slot_in, slots_of}
use Rattle.gix_object_nodes.proofs.Paths.{same_name, name_itself, by_test, not_both}

abbrev pub key_cmp : Key → Key → Ordering
key_cmp a b = slice_cmp nat_cmp a.items b.items

abbrev pub is_named : Bytes → Key → Bool
is_named name = is_at (λ (k : Key). slice_cmp nat_cmp name k.items)

named_same : (name : Bytes) (k : Key) → is_named name k ≡ true → name ≡ k.items
named_same name k e = same_name name k.items (sym (is_eq-slice_cmp name k.items) ∙ e)

tells_keys : (name : Bytes) → IsKeyTest (eq_by_cmp key_cmp) (is_named name)
tells_keys name x y e = ap (λ n. is_eq (slice_cmp nat_cmp n y.items)) (named_same name x e)

tells_apart : (name other : Bytes) → other ≢ name → AreApart (is_named name) (is_named other)
tells_apart name other ne k e = elim (by_test (is_named other k)) [
  | inl t ↦ absurd (ne (named_same other k t ∙ sym (named_same name k e)))
  | inr f ↦ f
]

pub others_kept : (name other : Bytes) (old new : List (Key × Slot)) → KeepsOthers (eq_by_cmp key_cmp) (is_named name) old new → other ≢ name → lookup (is_named other) new ≡ lookup (is_named other) old
unfolding KeepsOthers
others_kept name other old new keeps ne = keeps (is_named other) (tells_keys other) (tells_apart name other ne)

-- ---- one node

pub node_at : (nodes : List Node) (i : ℕ) (d : Node) (m : Bytes) → i < length nodes → slots_of nodes i m ≡ slot_in (get_or nodes i d) m
node_at [] i d m lt = absurd (omega arith)
node_at (k ∷ nodes) zero d m lt = refl
node_at (k ∷ nodes) (suc i) d m lt = let less : i < length nodes = omega arith in node_at nodes i d m less

pub set_here : (nodes : List Node) (i : ℕ) (n : Node) (m : Bytes) → i < length nodes → slots_of (slice_set nodes i n) i m ≡ slot_in n m
set_here [] i n m lt = absurd (omega arith)
set_here (k ∷ nodes) zero n m lt = refl
set_here (k ∷ nodes) (suc i) n m lt = let less : i < length nodes = omega arith in set_here nodes i n m less

pub set_other : (nodes : List Node) (i j : ℕ) (n : Node) (m : Bytes) → j ≢ i → slots_of (slice_set nodes i n) j m ≡ slots_of nodes j m
set_other [] i j n m ne = refl
set_other (k ∷ nodes) zero zero n m ne = absurd (ne refl)
set_other (k ∷ nodes) zero (suc j) n m ne = refl
set_other (k ∷ nodes) (suc i) zero n m ne = refl
set_other (k ∷ nodes) (suc i) (suc j) n m ne = set_other nodes i j n m (λ e. ne (ap suc e))

pub set_others : (nodes : List Node) (j : ℕ) (d new : Node) (name : Bytes) → j < length nodes
    → ((other : Bytes) → other ≢ name → slot_in new other ≡ slot_in (get_or nodes j d) other)
    → (i : ℕ) (m : Bytes) → ((i ≡ j) → (m ≡ name) → ⊥) → slots_of (slice_set nodes j new) i m ≡ slots_of nodes i m
set_others nodes j d new name lt same i m off = elim (cases_eq i j) [
  | inl e ↦
      ap (λ k. slots_of (slice_set nodes j new) k m) e ∙ set_here nodes j new m lt ∙ same m (off e)
      ∙ sym (node_at nodes j d m lt) ∙ ap (λ k. slots_of nodes k m) (sym e)
  | inr ne ↦ set_other nodes j i new m ne
]

all_slots : (old new : List Node) (at : ℕ) (name : Bytes) → slots_of new at name ≡ slots_of old at name → ((i : ℕ) (m : Bytes) → ((i ≡ at) → (m ≡ name) → ⊥) → slots_of new i m ≡ slots_of old i m)
    → (i : ℕ) (m : Bytes) → slots_of new i m ≡ slots_of old i m
all_slots old new at name here others i m = elim (cases_eq i at) [
  | inl e ↦ elim (by_test (bytes_eq m name)) [
    | inl t ↦
        let same : m ≡ name = same_name m name t in
        ap (λ k. slots_of new k m) e ∙ ap (slots_of new at) same ∙ here ∙ ap (slots_of old at) (sym same) ∙ ap (λ k. slots_of old k m) (sym e)
    | inr f ↦ others i m (λ _ same. let yes : bytes_eq m name ≡ true = ap (bytes_eq m) (sym same) ∙ name_itself m in not_both (bytes_eq m name) yes f)
  ]
  | inr ne ↦ others i m (λ e _. ne e)
]

-- a change that failed left each slot
pub set_same : (nodes : List Node) (j : ℕ) (d new : Node) (name : Bytes) → j < length nodes → ((other : Bytes) → other ≢ name → slot_in new other ≡ slot_in (get_or nodes j d) other)
    → slot_in new name ≡ slot_in (get_or nodes j d) name → (i : ℕ) (m : Bytes) → slots_of (slice_set nodes j new) i m ≡ slots_of nodes i m
set_same nodes j d new name lt others here =
    all_slots nodes (slice_set nodes j new) j name (set_here nodes j new name lt ∙ here ∙ sym (node_at nodes j d name lt)) (set_others nodes j d new name lt others)

-- what was changed through a slice of all of a vector
pub given_back : {A : Type 0} (n : ℕ) (xs ys : List A) → n ≡ length xs → take n (xs ++ ys) ≡ xs
given_back n xs ys e = ap (λ k. take k (xs ++ ys)) e ∙ take-append_seam xs ys

-- ---- nodes after the others

pub front_kept : (nodes more : List Node) (i : ℕ) (m : Bytes) → i < length nodes → slots_of (nodes ++ more) i m ≡ slots_of nodes i m
front_kept [] more i m lt = absurd (omega arith)
front_kept (k ∷ nodes) more zero m lt = refl
front_kept (k ∷ nodes) more (suc i) m lt = let less : i < length nodes = omega arith in front_kept nodes more i m less

pub none_past : (nodes : List Node) (i : ℕ) (m : Bytes) → length nodes ≤ i → slots_of nodes i m ≡ None
none_past [] i m le = refl
none_past (k ∷ nodes) zero m le = absurd (omega arith)
none_past (k ∷ nodes) (suc i) m le = let less : length nodes ≤ i = omega arith in none_past nodes i m less

pub at_end : (nodes : List Node) (n : Node) (m : Bytes) → slots_of (nodes ++ n ∷ []) (length nodes) m ≡ slot_in n m
at_end [] n m = refl
at_end (k ∷ nodes) n m = at_end nodes n m

taken : (ns : List Node) (k i : ℕ) (m : Bytes) → i < k → slots_of (take k ns) i m ≡ slots_of ns i m
taken [] zero i m lt = refl
taken [] (suc k) i m lt = refl
taken (x ∷ ns) zero i m lt = absurd (omega arith)
taken (x ∷ ns) (suc k) zero m lt = refl
taken (x ∷ ns) (suc k) (suc i) m lt = let less : i < k = omega arith in taken ns k i m less

-- the nodes at the front alone are as they were where each of them is
pub cut_back : (old now : List Node) (k : ℕ) → k ≡ length old → ((i : ℕ) (m : Bytes) → i < length old → slots_of now i m ≡ slots_of old i m)
    → (i : ℕ) (m : Bytes) → slots_of (take k now) i m ≡ slots_of old i m
cut_back old now k e same i m = elim (cases_lt i (length old)) [
  | inl lt ↦ let less : i < k = omega arith in taken now k i m less ∙ same i m lt
  | inr le ↦
      let past : length (take k now) ≤ i = omega (arith, length-take k now) in
      none_past (take k now) i m past ∙ sym (none_past old i m le)
]

-- nodes without the last are as before it was pushed
pub without_last : (old now : List Node) (n : Node) (k : ℕ) → k ≡ length old → length now ≡ suc (length old) → ((i : ℕ) (m : Bytes) → slots_of now i m ≡ slots_of (old ++ n ∷ []) i m)
    → (i : ℕ) (m : Bytes) → slots_of (take k now) i m ≡ slots_of old i m
without_last old now n k e len same i m = cut_back old now k e (λ j name lt. same j name ∙ front_kept old (n ∷ []) j name lt) i m

pub length_push : (nodes : List Node) (n : Node) → length (nodes ++ n ∷ []) ≡ suc (length nodes)
length_push [] n = refl
length_push (k ∷ nodes) n = ap suc (length_push nodes n)
