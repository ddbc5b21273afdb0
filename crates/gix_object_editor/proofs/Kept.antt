-- Properties of entries, after a tree was opened and after an edit.
use Rattle.std.proofs.Common.{ℕ, zero, suc, ◌≡◌, ◌≢◌, ◌<◌, ◌≤◌, ◌+◌, ◌-◌, ◌++◌, if◌then◌else◌, true, false, List, [], ◌∷◌, Option, Some, None, refl, sym, ap, subst, ◌∙◌, ◌⊎◌, inl, inr, arith, length, get_or, drop}
use Rattle.std.specs.Prelude.{bytes_eq}
use Rattle.std.specs.List.{All, Contains}
use Rattle.std.specs.Borrow.{Bor}
use Rattle.gix_object_editor.proofs.Walked.{names}
use Rattle.std.proofs.lemmas.Bool.{cases_eq, cases_lt, cases_order}
use Rattle.std.proofs.lemmas.List.Elements.{All-contains, All-push, All-weaker}
use Rattle.gix_hash.specs.Id.{id_of}
use Rattle.gix_hash.specs.declared.kind.Kind.{Kind}
use Rattle.gix_object_tree.specs.Entry.{Item}
use Rattle.gix_object_tree.specs.Mode.{is_tree_value}
use Rattle.gix_object_lookup.specs.Table.{Table}
use Rattle.gix_object_nodes.specs.declared.node.Slot.{Slot}
use Rattle.gix_object_nodes.specs.Files.{Bytes, Path, Leaf, is_null, leaf_of, named, NamesAreFull}
use Rattle.gix_object_nodes.specs.declared.node.Node.{Node}
use Rattle.gix_object_nodes.specs.Nodes.{Slots, slot_in, slots_of, leaf_in, StandsFor}
use Rattle.gix_object_editor.specs.Laid.{IsRung}
use Rattle.gix_object_editor.proofs.Loaded.{entries_stand}
use Rattle.gix_object_editor.specs.Entries.{Property, EachHas, PassesDown, HoldsTree, MayStand, MayStandMade, ItemsHave, made_leaf}
use Rattle.gix_object_nodes.proofs.Paths.{same_name, name_itself, by_test}
use Rattle.gix_object_editor.proofs.Opening.{at_or_off}
use Rattle.gix_object_nodes.proofs.WrittenEntries.{named_found}
use Rattle.gix_object_editor.proofs.Cuts.{one_slot}

-- the property is that of the slot's leaf
pub has_of : (has : Property) (name : Bytes) (s t : Slot) → Some s ≡ Some t → has name (leaf_in t) ≡ true → has name (leaf_in s) ≡ true
has_of has name s t e h = ap (λ u. has name (leaf_in u)) (one_slot s t e) ∙ h

module _ (slots new : Slots) (bound at : ℕ) (name : Bytes) (s t : Slot) (has : Property) (table : Table) (each : EachHas has slots) (down : PassesDown table has)
    (stood : slots at name ≡ Some s) (tree_mode : is_tree_value (leaf_in s).mode.value ≡ true) (some : is_null (id_of s.oid) ≡ false) (stands : new at name ≡ Some t) (leaf : leaf_in t ≡ leaf_in s)
    (agree : (i : ℕ) (m : Bytes) → i < bound → ((i ≡ at) → (m ≡ name) → ⊥) → new i m ≡ slots i m)
    (row : Bytes → Option Slot) (behind : (m : Bytes) → new bound m ≡ row m) (holds : HoldsTree table (id_of s.oid) row) (past : (i : ℕ) (m : Bytes) → bound < i → new i m ≡ None) where
  of_entry : (m : Bytes) (u : Slot) → row m ≡ Some u → has m (leaf_in u) ≡ true
  of_entry m u is =
      let entry = holds.5 m u is in
      let found = named_found holds.1 m entry.0 entry.1 in
      let h = All-contains (λ (item : Item). has item.name (leaf_of item) ≡ true) holds.1 entry.0 (down name (leaf_in s) holds.0 holds.1 (each at name s stood) tree_mode some holds.2 holds.3 holds.4) found.0 in
      ap (has m) entry.2 ∙ ap (λ n. has n (leaf_of entry.0)) (sym found.1) ∙ h

  pub opened_each : EachHas has new
  opened_each i m u is = elim (cases_order i bound) [
    | inr (inl less) ↦ elim (at_or_off i at m name) [
      | inl x ↦
          let here : new i m ≡ Some t = ap (λ k. new k m) x.0 ∙ ap (new at) x.1 ∙ stands in
          has_of has m u t (sym is ∙ here) (ap (has m) leaf ∙ ap (λ n. has n (leaf_in s)) x.1 ∙ each at name s stood)
      | inr off ↦ each i m u (sym (agree i m less off) ∙ is)
    ]
    | inl same ↦ of_entry m u (sym (behind m) ∙ ap (λ k. new k m) (sym same) ∙ is)
    | inr (inr above) ↦ absurd (none_is (new i m) u (past i m above) is)
  ]
    where
      none_is : (o : Option Slot) (u : Slot) → o ≡ None → o ≡ Some u → ⊥
      none_is o u e f = cc (sym e ∙ f)

-- a slot is taken out
pub cut_each : (slots new : Slots) (at : ℕ) (name : Bytes) (has : Property) → new at name ≡ None → ((i : ℕ) (m : Bytes) → ((i ≡ at) → (m ≡ name) → ⊥) → new i m ≡ slots i m) → EachHas has slots → EachHas has new
cut_each slots new at name has here others each i m u is = elim (at_or_off i at m name) [
  | inl x ↦ let none : new i m ≡ None = ap (λ k. new k m) x.0 ∙ ap (new at) x.1 ∙ here in absurd (cc (sym none ∙ is))
  | inr off ↦ each i m u (sym (others i m off) ∙ is)
]

-- a slot is put in
pub put_each : (slots new : Slots) (at : ℕ) (name : Bytes) (s : Slot) (has : Property) → new at name ≡ Some s → has name (leaf_in s) ≡ true → ((i : ℕ) (m : Bytes) → ((i ≡ at) → (m ≡ name) → ⊥) → new i m ≡ slots i m)
    → EachHas has slots → EachHas has new
put_each slots new at name s has here fit others each i m u is = elim (at_or_off i at m name) [
  | inl x ↦
      let stands : new i m ≡ Some s = ap (λ k. new k m) x.0 ∙ ap (new at) x.1 ∙ here in
      has_of has m u s (sym is ∙ stands) (ap (λ n. has n (leaf_in s)) x.1 ∙ fit)
  | inr off ↦ each i m u (sym (others i m off) ∙ is)
]

-- of a node with one slot alone
pub only_there : (row : Bytes → Option Slot) (name m : Bytes) (rung u : Slot) → row name ≡ Some rung → ((other : Bytes) → other ≢ name → row other ≡ None) → row m ≡ Some u → (m ≡ name) × (u ≡ rung)
only_there row name m rung u here others is = elim (by_test (bytes_eq m name)) [
  | inl t ↦ let same : m ≡ name = same_name m name t in (same, one_slot u rung (sym is ∙ ap row same ∙ here))
  | inr f ↦
      let apart : m ≢ name = λ e. let t : bytes_eq m name ≡ true = ap (bytes_eq m) (sym e) ∙ name_itself m in cc (sym t ∙ f) in
      let none : row m ≡ None = others m apart in
      absurd (cc (sym none ∙ is))
]

pub ap_leaf : (rung u : Slot) → u ≡ rung → (a b : Leaf) → (leaf_in rung ≡ a) ⊎ (leaf_in rung ≡ b) → (leaf_in u ≡ a) ⊎ (leaf_in u ≡ b)
ap_leaf rung u e a b (inl h) = inl (ap leaf_in e ∙ h)
ap_leaf rung u e a b (inr h) = inr (ap leaf_in e ∙ h)

pub first_fits : (has : Property) (path : Path) (leaf : Leaf) (name : Bytes) → MayStand has path leaf → 0 < length path → get_or path 0 [] ≡ name → (has name leaf ≡ true) × (has name (made_leaf leaf.id.kind) ≡ true)
first_fits has path leaf name fit some is = subst (λ n. (has n leaf ≡ true) × (has n (made_leaf leaf.id.kind) ≡ true)) is (fit 0 [] some)

-- folders that are put below a slot
pub hung_each : (old mid new : Slots) (bound at : ℕ) (name : Bytes) (top : Slot) (path tail : Path) (leaf : Leaf) (has : Property) → ((i : ℕ) (m : Bytes) → i < bound → mid i m ≡ old i m)
    → ((i : ℕ) (m : Bytes) (s : Slot) → bound ≤ i → mid i m ≡ Some s → Contains tail m × ((leaf_in s ≡ leaf) ⊎ (leaf_in s ≡ made_leaf leaf.id.kind))) → ((m : Bytes) → Contains tail m → Contains path m)
    → new at name ≡ Some top → leaf_in top ≡ made_leaf leaf.id.kind → ((i : ℕ) (m : Bytes) → ((i ≡ at) → (m ≡ name) → ⊥) → new i m ≡ mid i m) → MayStand has path leaf → 0 < length path → get_or path 0 [] ≡ name
    → EachHas has old → EachHas has new
hung_each old mid new bound at name top path tail leaf has front leaves inside here top_leaf others fit some first each =
    put_each mid new at name top has here (ap (has name) top_leaf ∙ (first_fits has path leaf name fit some first).1) others each_mid
  where
    each_mid : EachHas has mid
    each_mid i m u is = elim (cases_lt i bound) [
      | inl lt ↦ each i m u (sym (front i m lt) ∙ is)
      | inr ge ↦
          let so = leaves i m u ge is in
          let h = All-contains (λ (n : Bytes). (has n leaf ≡ true) × (has n (made_leaf leaf.id.kind) ≡ true)) path m fit (inside m so.0) in
          elim so.1 [
            | inl same ↦ ap (has m) same ∙ h.0
            | inr same ↦ ap (has m) same ∙ h.1
          ]
    ]

pub in_tail : (path : List (Bor (List ℕ))) (m : Bytes) → Contains (names (drop 1 path)) m → Contains (names path) m
in_tail [] m h = h
in_tail (p ∷ path) m h = let lt : suc h.0 < length (names (p ∷ path)) = omega (arith, h.1) in (suc h.0, lt, h.2)

pub may_drop : (has : Property) (path : List (Bor (List ℕ))) (i : ℕ) (leaf : Leaf) → MayStand has (names path) leaf → MayStand has (names (drop i path)) leaf
may_drop has [] zero leaf fit = fit
may_drop has [] (suc i) leaf fit = fit
may_drop has (p ∷ path) zero leaf fit = fit
may_drop has (p ∷ path) (suc i) leaf fit = may_drop has path i leaf (λ k d lt. let more : suc k < length (names (p ∷ path)) = omega (arith, lt) in fit (suc k) d more)

-- a root that was just opened
pub one_each : (node : Node) (items : List Item) (has : Property) → ((m : Bytes) → StandsFor (slot_in node m) (named m items)) → ItemsHave has items → EachHas has (slots_of (node ∷ []))
one_each node items has stands all zero m u is =
    let entry = entries_stand (slot_in node) items stands m u is in
    let found = named_found items m entry.0 entry.1 in
    ap (has m) entry.2 ∙ ap (λ n. has n (leaf_of entry.0)) (sym found.1) ∙ All-contains (λ (item : Item). has item.name (leaf_of item) ≡ true) items entry.0 all found.0
one_each node items has stands all (suc i) m u is = absurd (cc is)

-- ---- folders that are made for a cursor

-- of a node's names that are put after the others, one after the other, each is alone
pub hung_names : (slots : Slots) (bound : ℕ) (tail : Path) (last : Slot) → ((k : ℕ) → k < length tail → IsRung slots bound tail last k)
    → ((i : ℕ) (m : Bytes) → bound + length tail ≤ i → slots i m ≡ None) → (i : ℕ) (m : Bytes) (s : Slot) → bound ≤ i → slots i m ≡ Some s
    → (i + 1 ≡ bound + length tail) ⊎ ((k : ℕ) × (suc k < length tail) × (m ≡ get_or tail k []))
hung_names slots bound tail last rungs past i m s le is = elim (cases_lt i (bound + length tail)) [
  | inr ge ↦ let none : slots i m ≡ None = past i m ge in absurd (cc (sym none ∙ is))
  | inl lt ↦
      let k : ℕ = i - bound in
      let at : i ≡ bound + k = omega arith in
      let inside : k < length tail = omega arith in
      let rung = rungs k inside in
      let there = only_there (slots (bound + k)) (get_or tail k []) m rung.slot s rung.only.0 rung.only.1 (ap (λ n. slots n m) (sym at) ∙ is) in
      elim (cases_eq (suc k) (length tail)) [
        | inl e ↦ inl (omega arith)
        | inr ne ↦ inr (k, omega (arith, inside, ne), there.0)
      ]
]

abbrev pub unless_empty : Property → Property
unless_empty has name leaf = if bytes_eq name [] then true else has name leaf

pub fits_more : (has : Property) (name : Bytes) (leaf : Leaf) → has name leaf ≡ true → unless_empty has name leaf ≡ true
fits_more has name leaf h = elim (by_test (bytes_eq name [])) [
  | inl t ↦ ap (λ b. if b then true else has name leaf) t
  | inr f ↦ ap (λ b. if b then true else has name leaf) f ∙ h
]

pub each_more_has : (has : Property) (slots : Slots) → EachHas has slots → EachHas (unless_empty has) slots
each_more_has has slots each i m s is = fits_more has m (leaf_in s) (each i m s is)

-- names may have an empty one after them
pub may_stand_more : (has : Property) (kind : Kind) (names : Path) → MayStandMade has kind names → MayStand (unless_empty has) (names ++ [] ∷ []) (made_leaf kind)
may_stand_more has kind names fit = All-push (λ (n : Bytes). (unless_empty has n (made_leaf kind) ≡ true) × (unless_empty has n (made_leaf kind) ≡ true)) names []
    (All-weaker (λ (n : Bytes). has n (made_leaf kind) ≡ true) (λ (n : Bytes). (unless_empty has n (made_leaf kind) ≡ true) × (unless_empty has n (made_leaf kind) ≡ true))
    (λ n h. (fits_more has n (made_leaf kind) h, fits_more has n (made_leaf kind) h)) names fit) (refl, refl)

-- folders are made, and the entry without a name in the last is taken out again
pub made_each : (old mid new : Slots) (bound at end : ℕ) (names : Path) (first : Bytes) (has : Property) → All (λ name. name ≢ []) names → first ≢ []
    → EachHas (unless_empty has) mid → new end [] ≡ None → ((i : ℕ) (m : Bytes) → ((i ≡ end) → (m ≡ []) → ⊥) → new i m ≡ mid i m)
    → ((i : ℕ) (m : Bytes) → i < bound → ((i ≡ at) → (m ≡ first) → ⊥) → mid i m ≡ old i m)
    → ((i : ℕ) (m : Bytes) (s : Slot) → bound ≤ i → mid i m ≡ Some s → (i ≡ end) ⊎ Contains names m) → EachHas has old → EachHas has new
made_each old mid new bound at end names first has full named each_mid here others kept rungs each i m s is = elim (at_or_off i end m []) [
  | inl x ↦ let none : new i m ≡ None = ap (λ k. new k m) x.0 ∙ ap (new end) x.1 ∙ here in absurd (cc (sym none ∙ is))
  | inr off ↦
      let stood : mid i m ≡ Some s = sym (others i m off) ∙ is in
      elim (by_test (bytes_eq m [])) [
        | inr f ↦ ap (λ b. if b then true else has m (leaf_in s)) (sym f) ∙ each_mid i m s stood
        | inl t ↦
            let empty : m ≡ [] = same_name m [] t in
            elim (cases_lt i bound) [
              | inl lt ↦ each i m s (sym (kept i m lt (λ _ e. named (sym e ∙ empty))) ∙ stood)
              | inr ge ↦ elim (rungs i m s ge stood) [
                | inl e ↦ absurd (off e empty)
                | inr h ↦ absurd (All-contains (λ (name : Bytes). name ≢ []) names m full h empty)
              ]
            ]
      ]
]

-- a name of the rest of a path
pub in_front : (path : List (Bor (List ℕ))) (k : ℕ) → suc k < length (names (drop 1 path)) → get_or (names path) (suc k) [] ≡ get_or (names (drop 1 path)) k []
in_front [] k lt = absurd (omega (arith, lt))
in_front (p ∷ path) k lt = refl

pub made_drop : (has : Property) (path : List (Bor (List ℕ))) (i : ℕ) (kind : Kind) → MayStandMade has kind (names path) → MayStandMade has kind (names (drop i path))
made_drop has [] zero kind fit = fit
made_drop has [] (suc i) kind fit = fit
made_drop has (p ∷ path) zero kind fit = fit
made_drop has (p ∷ path) (suc i) kind fit = made_drop has path i kind (λ k d lt. let more : suc k < length (names (p ∷ path)) = omega (arith, lt) in fit (suc k) d more)

full_drop : (path : List (Bor (List ℕ))) (i : ℕ) → All (λ name. name ≢ []) (names path) → All (λ name. name ≢ []) (names (drop i path))
full_drop [] zero full = full
full_drop [] (suc i) full = full
full_drop (p ∷ path) zero full = full
full_drop (p ∷ path) (suc i) full = full_drop path i (λ k d lt. let more : suc k < length (names (p ∷ path)) = omega (arith, lt) in full (suc k) d more)

pub full_rest : (path : List (Bor (List ℕ))) (i : ℕ) → NamesAreFull (names path) → All (λ name. name ≢ []) (names (drop i path))
full_rest path i full = full_drop path i full.1
