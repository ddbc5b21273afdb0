-- The entries that slots are written as, by their names and in Git's order.
use Rattle.std.proofs.Common.{ℕ, zero, suc, ◌≡◌, ◌<◌, ◌≤◌, Bool, true, false, cond, List, [], ◌∷◌, ◌++◌, Option, Some, None, refl, sym, ap, subst, ◌∙◌, inl, inr, arith, length, get_or, map, if◌then◌else◌, ◌==◌, ◌||◌}
use Rattle.std.specs.Prelude.{bytes_eq, IsTrue, ◌↔◌}
use Rattle.std.specs.List.{All, AllByRecursion, Contains, IsDistinct, filter_map, cons_option, list_any}
use Rattle.std.specs.List.Sorted.{IsPermutation, IsSorted}
use Rattle.std.specs.Map.{lookup, keys_of}
use Rattle.std.specs.Ordering.{is_eq, is_lt, eq_by_cmp, ordering_then, ordering_reverse}
use Rattle.std.specs.declared.cmp.Ordering.{Ordering}
use Rattle.std.specs.declared.cmp.Ordering.TheVariants.{Less, Equal, Greater}
use Rattle.std.proofs.lemmas.Cmp.{nat_list_cmp_total}
use Rattle.std.proofs.lemmas.List.{get_or-map}
use Rattle.std.proofs.lemmas.List.Sorted.{IsPermutation-map, IsPermutation-sym, Contains-permutation, sorted_far, ranks_by}
use Rattle.std.proofs.lemmas.Map.Keys.{IsDistinct-head, IsDistinct-tail, IsDistinct-cons, IsDistinct-IsPermutation, apart_from_distinct}
use Rattle.std.proofs.lemmas.Map.Text.{is_eq-slice_cmp}
use Rattle.gix_hash.specs.Id.{Id, id_of, null_id}
use Rattle.gix_hash.specs.declared.object_id.ObjectId.{ObjectId}
use Rattle.gix_hash.specs.Order.{digits_cmp, id_cmp, id_eq}
use Rattle.gix_hash.specs.OrderLaws.{id_equivalence, id_eq-same, id_eq-itself}
use Rattle.gix_object_lines.specs.Bytes.{Lacks}
use Rattle.gix_object_tree.specs.Entry.{Item, own_item}
use Rattle.gix_object_tree.specs.Order.{git_key, is_tree, item_key, item_cmp, mode_cmp}
use Rattle.gix_object_tree.specs.OrderLaws.{item_total}
use Rattle.gix_object_tree.specs.WellFormed.{ComesBefore, HasNamesOnce, IsFilename, IsInOrder, IsWellFormed}
use Rattle.gix_object_tree.specs.declared.tree.entry.Entry.{Entry}
use Rattle.gix_object_nodes.specs.declared.node.NodeId.{NodeId}
use Rattle.gix_object_nodes.specs.declared.node.Slot.{Slot}
use Rattle.gix_object_nodes.specs.Files.{Bytes, is_null, through, named}
use Rattle.gix_object_nodes.specs.Nodes.{Key, child_or}
use Rattle.gix_object_nodes.specs.Writing.{Ids, ids_of, unless_null, folder_item, slot_item, written_item, IsTreeOf}
use Rattle.gix_object_nodes.proofs.Paths.{same_name, name_itself, by_test, not_both}
use Rattle.gix_object_nodes.proofs.Slots.{key_cmp, is_named}

-- ---- the entry of one slot

pub unless_is : (x item : Item) → unless_null x ≡ Some item → (item ≡ x) × (is_null item.id ≡ false)
unless_is x item e = elim (by_test (is_null x.id)) [
  | inl t ↦ let none : None ≡ Some item = ap (λ b. if b then None else Some x) (sym t) ∙ e in absurd (cc none)
  | inr f ↦
      let found : Some x ≡ Some item = ap (λ b. if b then None else Some x) (sym f) ∙ e in
      let same : item ≡ x = cc in
      (same, ap (λ (i : Item). is_null i.id) same ∙ f)
]

folder_is : (o : Option Id) (name : Bytes) (item : Item) → through o (λ id. unless_null (folder_item name id)) ≡ Some item → (item.name ≡ name) × (is_null item.id ≡ false)
folder_is None name item e = absurd (cc e)
folder_is (Some id) name item e = let is = unless_is (folder_item name id) item e in (ap (λ (i : Item). i.name) is.0, is.1)

written_by : (ids : Ids) (name : Bytes) (child : Option NodeId) (plain item : Item) → plain.name ≡ name
    → child_or child (λ c. through (ids c) (λ id. unless_null (folder_item name id))) (unless_null plain) ≡ Some item → (item.name ≡ name) × (is_null item.id ≡ false)
written_by ids name None plain item n e = let is = unless_is plain item e in (ap (λ (i : Item). i.name) is.0 ∙ n, is.1)
written_by ids name (Some c) plain item n e = folder_is (ids c.0) name item e

pub written_is : (ids : Ids) (name : Bytes) (s : Slot) (item : Item) → written_item ids name s ≡ Some item → (item.name ≡ name) × (is_null item.id ≡ false)
written_is ids name s item e = written_by ids name s.child (slot_item name s) item refl e

-- an id that was read at its number
pub id_read : (oids : List (Option ObjectId)) (i : ℕ) → through (get_or oids i None) (λ oid. Some (id_of oid)) ≡ ids_of oids i
id_read [] i = refl
id_read (o ∷ oids) zero = refl
id_read (o ∷ oids) (suc i) = id_read oids i

pub not_null : (id : Id) (b : Bool) → (IsTrue b ↔ (id ≡ null_id id.kind)) → b ≡ false → is_null id ≡ false
not_null id b says isnt = elim (by_test (is_null id)) [
  | inl t ↦ absurd (not_both b (says.1 (id_eq-same id (null_id id.kind) t)) isnt)
  | inr f ↦ f
]

pub null_by_test : (id : Id) (b : Bool) → (IsTrue b ↔ (id ≡ null_id id.kind)) → b ≡ true → is_null id ≡ true
null_by_test id b says is = ap (id_eq id) (sym (says.0 is)) ∙ id_eq-itself id

pub null_test : (id : Id) (b : Bool) → (IsTrue b ↔ (id ≡ null_id id.kind)) → is_null id ≡ b
null_test id true says = ap (id_eq id) (sym (says.0 refl)) ∙ id_equivalence.refl id
null_test id false says = not_null id false says refl

-- ---- the entries of slots by their names

pub named_same : (name : Bytes) (k : Key) → is_named name k ≡ true → name ≡ k.items
named_same name k e = same_name name k.items (sym (is_eq-slice_cmp name k.items) ∙ e)

pub named_itself : (k : Key) → is_named k.items k ≡ true
named_itself k = is_eq-slice_cmp k.items k.items ∙ name_itself k.items

named_apart : (name : Bytes) (k : Key) → is_named name k ≡ false → bytes_eq name k.items ≡ false
named_apart name k e = sym (is_eq-slice_cmp name k.items) ∙ e

-- a key that no other is equal to isn't found after it
pub none_later : (k : Key) (m : Bytes) → m ≡ k.items → (es : List (Key × Slot)) → AllByRecursion (λ y. eq_by_cmp key_cmp k y ≡ false) (keys_of es) → lookup (is_named m) es ≡ None
none_later k m e [] h = refl
none_later k m e (x ∷ es) h = ap (λ b. cond b (Some x.1) (lookup (is_named m) es)) (ap (λ n. is_named n x.0) e ∙ h.0) ∙ none_later k m e es h.1

named_first : (o : Option Item) (xs : List Item) (m : Bytes) → ((item : Item) → o ≡ Some item → item.name ≡ m) → named m xs ≡ None → named m (cons_option o xs) ≡ o
named_first None xs m name none = none
named_first (Some x) xs m name none = ap (λ b. if b then Some x else named m xs) (ap (bytes_eq m) (name x refl) ∙ name_itself m)

named_next : (o : Option Item) (xs : List Item) (m : Bytes) → ((item : Item) → o ≡ Some item → bytes_eq m item.name ≡ false) → named m (cons_option o xs) ≡ named m xs
named_next None xs m name = refl
named_next (Some x) xs m name = ap (λ b. if b then Some x else named m xs) (name x refl)

module _ (ids : Ids) where
  abbrev pub entry_of : Key × Slot → Option Item
  entry_of e = written_item ids e.0.items e.1

  abbrev pub entries_of : List (Key × Slot) → List Item
  entries_of es = filter_map entry_of es

  pub named_entries : (es : List (Key × Slot)) → IsDistinct (eq_by_cmp key_cmp) (keys_of es) → (m : Bytes) → named m (entries_of es) ≡ through (lookup (is_named m) es) (written_item ids m)
  named_entries [] apart m = refl
  named_entries (e ∷ es) apart m = elim (by_test (is_named m e.0)) [
    | inl t ↦
        let same : m ≡ e.0.items = named_same m e.0 t in
        let later : named m (entries_of es) ≡ None =
        named_entries es (IsDistinct-tail (eq_by_cmp key_cmp) e.0 (keys_of es) apart) m
        ∙ ap (λ o. through o (written_item ids m)) (none_later e.0 m same es (IsDistinct-head (eq_by_cmp key_cmp) e.0 (keys_of es) apart)) in
        let name : (item : Item) → entry_of e ≡ Some item → item.name ≡ m = λ item is. (written_is ids e.0.items e.1 item is).0 ∙ sym same in
        named_first (entry_of e) (entries_of es) m name later
        ∙ ap (λ n. written_item ids n e.1) (sym same)
        ∙ sym (ap (λ b. through (cond b (Some e.1) (lookup (is_named m) es)) (written_item ids m)) t)
    | inr f ↦
        let name : (item : Item) → entry_of e ≡ Some item → bytes_eq m item.name ≡ false = λ item is. ap (bytes_eq m) (written_is ids e.0.items e.1 item is).0 ∙ named_apart m e.0 f in
        named_next (entry_of e) (entries_of es) m name
        ∙ named_entries es (IsDistinct-tail (eq_by_cmp key_cmp) e.0 (keys_of es) apart) m
        ∙ sym (ap (λ b. through (cond b (Some e.1) (lookup (is_named m) es)) (written_item ids m)) f)
  ]

  -- ---- names are there once

  one_apart : (name : Bytes) (o : Option Item) (xs : List Item) → ((item : Item) → o ≡ Some item → bytes_eq name item.name ≡ false)
      → AllByRecursion (λ y. bytes_eq name y ≡ false) (map (λ (x : Item). x.name) xs) → AllByRecursion (λ y. bytes_eq name y ≡ false) (map (λ (x : Item). x.name) (cons_option o xs))
  one_apart name None xs first rest = rest
  one_apart name (Some x) xs first rest = (first x refl, rest)

  all_apart : (k : Key) (es : List (Key × Slot)) → AllByRecursion (λ y. eq_by_cmp key_cmp k y ≡ false) (keys_of es) → AllByRecursion (λ y. bytes_eq k.items y ≡ false) (map (λ (x : Item). x.name) (entries_of es))
  all_apart k [] h = tt
  all_apart k (e ∷ es) h =
      one_apart k.items (entry_of e) (entries_of es) (λ item is. ap (bytes_eq k.items) (written_is ids e.0.items e.1 item is).0 ∙ named_apart k.items e.0 h.0) (all_apart k es h.1)

  one_more : (o : Option Item) (xs : List Item) → ((item : Item) → o ≡ Some item → AllByRecursion (λ y. bytes_eq item.name y ≡ false) (map (λ (x : Item). x.name) xs))
      → IsDistinct bytes_eq (map (λ (x : Item). x.name) xs) → IsDistinct bytes_eq (map (λ (x : Item). x.name) (cons_option o xs))
  one_more None xs first rest = rest
  one_more (Some x) xs first rest = IsDistinct-cons bytes_eq x.name (map (λ (x : Item). x.name) xs) (first x refl) rest

  nothing_twice : IsDistinct bytes_eq []
  unfolding IsDistinct
  nothing_twice = tt

  pub names_once : (es : List (Key × Slot)) → IsDistinct (eq_by_cmp key_cmp) (keys_of es) → IsDistinct bytes_eq (map (λ (x : Item). x.name) (entries_of es))
  names_once [] apart = nothing_twice
  names_once (e ∷ es) apart =
      one_more (entry_of e) (entries_of es)
      (λ item is. subst (λ n. AllByRecursion (λ y. bytes_eq n y ≡ false) (map (λ (x : Item). x.name) (entries_of es))) (sym (written_is ids e.0.items e.1 item is).0)
      (all_apart e.0 es (IsDistinct-head (eq_by_cmp key_cmp) e.0 (keys_of es) apart)))
      (names_once es (IsDistinct-tail (eq_by_cmp key_cmp) e.0 (keys_of es) apart))

-- ---- an entry by its name, in another order

pub named_found : (xs : List Item) (m : Bytes) (x : Item) → named m xs ≡ Some x → Contains xs x × (x.name ≡ m)
named_found [] m x e = absurd (cc e)
named_found (y ∷ xs) m x e = elim (by_test (bytes_eq m y.name)) [
  | inl t ↦
      let found : Some y ≡ Some x = ap (λ b. if b then Some y else named m xs) (sym t) ∙ e in
      let same : y ≡ x = cc in
      let some : 0 < length (y ∷ xs) = omega arith in
      ((0, some, same), ap (λ (i : Item). i.name) (sym same) ∙ sym (same_name m y.name t))
  | inr f ↦
      let rest = named_found xs m x (ap (λ b. if b then Some y else named m xs) (sym f) ∙ e) in
      let within : rest.0.0 < length xs = rest.0.1 in
      let more : suc rest.0.0 < length (y ∷ xs) = omega arith in
      ((suc rest.0.0, more, rest.0.2), rest.1)
]

apart_names : (xs : List Item) (i j : ℕ) (d : Item) → IsDistinct bytes_eq (map (λ (x : Item). x.name) xs) → i < j → j < length xs → bytes_eq (get_or xs i d).name (get_or xs j d).name ≡ false
apart_names xs i j d apart lt within =
    let long : j < length (map (λ (x : Item). x.name) xs) = omega (arith, lengths xs) in
    let less : i < length xs = omega arith in
    ap (λ n. bytes_eq n (get_or xs j d).name) (sym (get_or-map (λ (x : Item). x.name) xs i d d.name less))
    ∙ ap (bytes_eq (get_or (map (λ (x : Item). x.name) xs) i d.name)) (sym (get_or-map (λ (x : Item). x.name) xs j d d.name within))
    ∙ apart_from_distinct bytes_eq (map (λ (x : Item). x.name) xs) i j d.name apart lt long
  where
    lengths : (xs : List Item) → length (map (λ (x : Item). x.name) xs) ≡ length xs
    lengths [] = refl
    lengths (x ∷ xs) = ap suc (lengths xs)

not_flipped : (a b : Bytes) → bytes_eq a b ≡ false → bytes_eq b a ≡ false
not_flipped a b e = elim (by_test (bytes_eq b a)) [
  | inl t ↦ let yes : bytes_eq a b ≡ true = ap (bytes_eq a) (same_name b a t) ∙ name_itself a in absurd (cc yes)
  | inr f ↦ f
]

named_at : (xs : List Item) (k : ℕ) (x : Item) → IsDistinct bytes_eq (map (λ (x : Item). x.name) xs) → k < length xs → get_or xs k x ≡ x → named x.name xs ≡ Some x
named_at [] k x apart lt is = absurd (omega arith)
named_at (y ∷ xs) zero x apart lt is = ap (λ b. if b then Some y else named x.name xs) (ap (λ (i : Item). bytes_eq x.name i.name) is ∙ name_itself x.name) ∙ ap Some is
named_at (y ∷ xs) (suc k) x apart lt is =
    let less : k < length xs = omega arith in
    let first : 0 < suc k = omega arith in
    let off : bytes_eq y.name x.name ≡ false = ap (λ (i : Item). bytes_eq y.name i.name) (sym is) ∙ apart_names (y ∷ xs) 0 (suc k) x apart first lt in
    ap (λ b. if b then Some y else named x.name xs) (not_flipped y.name x.name off)
    ∙ named_at xs k x (IsDistinct-tail bytes_eq y.name (map (λ (x : Item). x.name) xs) apart) less is

pub contained_named : (xs : List Item) (x : Item) → IsDistinct bytes_eq (map (λ (x : Item). x.name) xs) → Contains xs x → named x.name xs ≡ Some x
contained_named xs x apart h = named_at xs h.0 x apart h.1 h.2

-- the same if the names are there once in the sense of trees
pub once_named : (xs : List Item) → HasNamesOnce xs → (x : Item) → Contains xs x → named x.name xs ≡ Some x
once_named xs once x h = by_place xs once x h.0 h.1 h.2
  where
    rest : (y : Item) (xs : List Item) → HasNamesOnce (y ∷ xs) → HasNamesOnce xs
    rest y xs once i j d lt within = let less : suc i < suc j = omega arith in let more : suc j < length (y ∷ xs) = omega arith in once (suc i) (suc j) d less more

    by_place : (xs : List Item) → HasNamesOnce xs → (x : Item) (k : ℕ) → k < length xs → get_or xs k x ≡ x → named x.name xs ≡ Some x
    by_place [] once x k lt is = absurd (omega arith)
    by_place (y ∷ xs) once x zero lt is = ap (λ b. if b then Some y else named x.name xs) (ap (λ (i : Item). bytes_eq x.name i.name) is ∙ name_itself x.name) ∙ ap Some is
    by_place (y ∷ xs) once x (suc k) lt is = elim (by_test (bytes_eq x.name y.name)) [
      | inl t ↦
          let first : 0 < suc k = omega arith in
          absurd (once 0 (suc k) x first lt (sym (same_name x.name y.name t) ∙ ap (λ (i : Item). i.name) (sym is)))
      | inr f ↦
          let less : k < length xs = omega arith in
          ap (λ b. if b then Some y else named x.name xs) f ∙ by_place xs (rest y xs once) x k less is
    ]

named_moved : (xs ys : List Item) → IsDistinct bytes_eq (map (λ (x : Item). x.name) xs) → IsDistinct bytes_eq (map (λ (x : Item). x.name) ys) → IsPermutation xs ys → (m : Bytes) → named m ys ≡ named m xs
named_moved xs ys apart still moved m = by_first (named m xs) refl
  where
    by_second : (o : Option Item) → named m ys ≡ o → named m xs ≡ None → o ≡ None
    by_second None e none = refl
    by_second (Some y) e none =
        let found = named_found ys m y e in
        let back = contained_named xs y apart (Contains-permutation ys xs y (IsPermutation-sym xs ys moved) found.0) in
        let both : Some y ≡ None = sym back ∙ ap (λ n. named n xs) found.1 ∙ none in
        absurd (cc both)

    by_first : (o : Option Item) → named m xs ≡ o → named m ys ≡ o
    by_first None e = by_second (named m ys) refl e
    by_first (Some x) e =
        let found = named_found xs m x e in
        ap (λ n. named n ys) (sym found.1) ∙ contained_named ys x still (Contains-permutation xs ys x moved found.0)

-- ---- Git's order

cut_slash : (x y : Bytes) → x ++ 47 ∷ [] ≡ y ++ 47 ∷ [] → x ≡ y
cut_slash [] [] e = refl
cut_slash [] (b ∷ []) e = absurd (cc e)
cut_slash [] (b ∷ c ∷ y) e = absurd (cc e)
cut_slash (a ∷ []) [] e = absurd (cc e)
cut_slash (a ∷ c ∷ x) [] e = absurd (cc e)
cut_slash (a ∷ x) (b ∷ y) e =
    let first : a ≡ b = cc in
    let rest : x ++ 47 ∷ [] ≡ y ++ 47 ∷ [] = cc in
    ap (λ c. c ∷ x) first ∙ ap (λ z. b ∷ z) (cut_slash x y rest)

lacks_later : (a : ℕ) (x : Bytes) → Lacks 47 (a ∷ x) → Lacks 47 x
lacks_later a x h = elim (by_test (a == 47)) [
  | inl t ↦ let yes : true ≡ false = ap (λ b. b || list_any (λ other. other == 47) x) (sym t) ∙ h in absurd (cc yes)
  | inr f ↦ ap (λ b. b || list_any (λ other. other == 47) x) (sym f) ∙ h
]

has_slash : (x : Bytes) → Lacks 47 (x ++ 47 ∷ []) → ⊥
has_slash [] h = absurd (cc h)
has_slash (a ∷ x) h = has_slash x (lacks_later a (x ++ 47 ∷ []) h)

keys_apart : (x y : Bytes) (p q : Bool) → git_key x p ≡ git_key y q → Lacks 47 x → Lacks 47 y → x ≡ y
keys_apart x y true true e some other = cut_slash x y e
keys_apart x y true false e some other = absurd (has_slash x (subst (λ n. Lacks 47 n) (sym e) other))
keys_apart x y false true e some other = absurd (has_slash y (subst (λ n. Lacks 47 n) e some))
keys_apart x y false false e some other = e

comes_by : (a b : Item) (o : Ordering) → digits_cmp (item_key b) (item_key a) ≡ o → is_lt (item_cmp b a) ≡ false → IsFilename a.name → IsFilename b.name → bytes_eq a.name b.name ≡ false → ComesBefore a b
comes_by a b Less e sorted some other apart =
    let less : is_lt (item_cmp b a) ≡ true = ap (λ o. is_lt (ordering_then (ordering_then (ordering_then o (mode_cmp b a)) (digits_cmp b.name a.name)) (id_cmp b.id a.id))) e in
    absurd (cc less)
comes_by a b Equal e sorted some other apart =
    let keys : item_key b ≡ item_key a = same_name (item_key b) (item_key a) (sym (is_eq-slice_cmp (item_key b) (item_key a)) ∙ ap is_eq e) in
    let names : b.name ≡ a.name = keys_apart b.name a.name (is_tree b) (is_tree a) keys other.within_folder some.within_folder in
    let yes : bytes_eq a.name b.name ≡ true = ap (bytes_eq a.name) names ∙ name_itself a.name in
    absurd (cc yes)
comes_by a b Greater e sorted some other apart = nat_list_cmp_total.antisymm (item_key a) (item_key b) ∙ ap ordering_reverse e

module _ (sorted : List Entry) (up : IsSorted (λ (a b : Entry). item_cmp (own_item a) (own_item b)) sorted) (apart : IsDistinct bytes_eq (map (λ (x : Item). x.name) (map own_item sorted))) where
  lengths : (es : List Entry) → length (map own_item es) ≡ length es
  lengths [] = refl
  lengths (e ∷ es) = ap suc (lengths es)

  entry_at : (es : List Entry) (i : ℕ) (d : Item) → i < length es → (e : Entry) × ((f : Entry) → get_or es i f ≡ e) × (get_or (map own_item es) i d ≡ own_item e)
  entry_at [] i d lt = absurd (omega arith)
  entry_at (e ∷ es) zero d lt = (e, λ f. refl, refl)
  entry_at (e ∷ es) (suc i) d lt = let less : i < length es = omega arith in entry_at es i d less

  pub names_twice_not : HasNamesOnce (map own_item sorted)
  names_twice_not i j d lt within same =
      let off = apart_names (map own_item sorted) i j d apart lt within in
      let yes : bytes_eq (get_or (map own_item sorted) i d).name (get_or (map own_item sorted) j d).name ≡ true = ap (bytes_eq (get_or (map own_item sorted) i d).name) (sym same) ∙ name_itself (get_or (map own_item sorted) i d).name in
      cc

  in_order : All (λ item. IsFilename item.name) (map own_item sorted) → IsInOrder (map own_item sorted)
  in_order names i j d lt within =
      let second : j < length sorted = omega (arith, lengths sorted) in
      let first : i < length sorted = omega arith in
      let le : i ≤ j = omega arith in
      let left : i < length (map own_item sorted) = omega arith in
      let a = entry_at sorted i d first in
      let b = entry_at sorted j d second in
      let up_to : is_lt (item_cmp (own_item b.0) (own_item a.0)) ≡ false =
      ap (λ (e : Entry). is_lt (item_cmp (own_item e) (own_item a.0))) (sym (b.1 a.0)) ∙ ap (λ (e : Entry). is_lt (item_cmp (own_item (get_or sorted j a.0)) (own_item e))) (sym (a.1 a.0))
      ∙ sorted_far (λ (x y : Entry). is_lt (item_cmp (own_item x) (own_item y))) (ranks_by item_total own_item) sorted up i j a.0 le second in
      let fst : IsFilename (own_item a.0).name = subst (λ (x : Item). IsFilename x.name) a.2 (names i d left) in
      let snd : IsFilename (own_item b.0).name = subst (λ (x : Item). IsFilename x.name) b.2 (names j d within) in
      let off : bytes_eq (own_item a.0).name (own_item b.0).name ≡ false =
      ap (λ (x : Item). bytes_eq x.name (own_item b.0).name) (sym a.2) ∙ ap (λ (x : Item). bytes_eq (get_or (map own_item sorted) i d).name x.name) (sym b.2) ∙ apart_names (map own_item sorted) i j d apart lt within in
      subst (λ (x : Item). ComesBefore x (get_or (map own_item sorted) j d)) (sym a.2)
      (subst (λ (y : Item). ComesBefore (own_item a.0) y) (sym b.2)
      (comes_by (own_item a.0) (own_item b.0) (digits_cmp (item_key (own_item b.0)) (item_key (own_item a.0))) refl up_to fst snd off))

  pub well_formed : All (λ item. IsFilename item.name) (map own_item sorted) → IsWellFormed (map own_item sorted)
  well_formed names = record { names = names; ordered = in_order names; once = names_twice_not }

-- ---- the whole tree

flips : (x y : Bytes) → bytes_eq x y ≡ bytes_eq y x
flips x y = elim (by_test (bytes_eq x y)) [
  | inl t ↦ let yes : bytes_eq y x ≡ true = ap (bytes_eq y) (same_name x y t) ∙ name_itself y in t ∙ sym yes
  | inr f ↦ f ∙ sym (not_flipped x y f)
]

pub tree_is : (ids : Ids) (es : List (Key × Slot)) (made sorted : List Entry) → IsDistinct (eq_by_cmp key_cmp) (keys_of es) → map own_item made ≡ entries_of ids es
    → IsPermutation made sorted → IsSorted (λ (a b : Entry). item_cmp (own_item a) (own_item b)) sorted → IsTreeOf ids (λ m. lookup (is_named m) es) (map own_item sorted)
tree_is ids es made sorted apart e moved up =
    let once = names_once ids es apart in
    let first : IsDistinct bytes_eq (map (λ (x : Item). x.name) (map own_item made)) = subst (λ xs. IsDistinct bytes_eq (map (λ (x : Item). x.name) xs)) (sym e) once in
    let perm = IsPermutation-map own_item made sorted moved in
    let still : IsDistinct bytes_eq (map (λ (x : Item). x.name) (map own_item sorted)) =
    IsDistinct-IsPermutation bytes_eq flips (map (λ (x : Item). x.name) (map own_item made)) (map (λ (x : Item). x.name) (map own_item sorted))
    (IsPermutation-map (λ (x : Item). x.name) (map own_item made) (map own_item sorted) perm) first in
    record {
      entries = λ m. named_moved (map own_item made) (map own_item sorted) first still perm m ∙ ap (named m) e ∙ named_entries ids es apart m;
      once = names_twice_not sorted up still;
      well_formed = well_formed sorted up still;
    }
