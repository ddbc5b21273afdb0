-- What a store has after values are stored: each value's id, with a value of the same text.
use Rattle.std.proofs.Common.{◌≡◌, ◌⊎◌, Bool, true, false, cond, ◌&&◌, ◌||◌, List, [], ◌∷◌, refl, sym, ◌∙◌, ap, subst, inl, inr, Option, Some, None, is_some, bytes_eq, option_map, unwrap_or, Less, Equal, Greater, Ordering}
use Rattle.std.specs.Ordering.{eq_by_cmp, is_lt, is_eq}
use Rattle.std.specs.FinMap.{FinMap, entries, get, get-entries, get-remove, get-retain_keys, insert, remove, empty, retain_keys, contains_key, same_map, slice_cmp-IsAntisymmetric, nat_cmp-IsAntisymmetric, is_sorted}
use Rattle.std.specs.FinMap.Entries.{find, below_all}
use Rattle.std.proofs.lemmas.Cmp.{nat_list_cmp_total}
use Rattle.history_model.specs.Bytes.{Bytes, by_bytes}
use Rattle.history_model.specs.FileMap.{FileMap, inside}
use Rattle.history_model.specs.Objects.{by_id, Value, StoredCommit, StoredTag, StoredBytes, StoredFolder, value_text, id_of, empty_tree_id}
use Rattle.gix_hash.specs.Id.{Id, null_id}
use Rattle.gix_hash.specs.Order.{id_eq}
use Rattle.history_model.specs.Meaning.{store_one, store_all, is_other, is_taken, some_taken}
use Rattle.gix_hash.specs.declared.kind.Kind.{Kind}
use Rattle.history_model.proofs.WholeLists.{In, clash, same_text, text_itself, texts_differ, none_is_some}
use Rattle.history_model.proofs.IdLemmas.{one_id, id_itself, get_with_id}
use Rattle.history_model.proofs.WholeTexts.{text_same}
use Rattle.history_model.proofs.WholeItems.{sorted_entries}
use Rattle.history_model.proofs.WholeRoots.{HasAll, ArePlain, one_map, inside_has, plain_inside}
use Rattle.history_model.proofs.PlaceLemmas.{same_key}
use Rattle.std.proofs.lemmas.Bool.{or_parts, and_parts, not-false}
use Rattle.std.proofs.lemmas.Option.{same_Some}

-- ---- finite maps from byte strings

pub same_tie : (p q : Bytes) → by_bytes p q ≡ Equal → p ≡ q
same_tie p q e = slice_cmp-IsAntisymmetric nat_cmp-IsAntisymmetric p q e

pub one_by_keys : {X : Type 0} (m n : FinMap by_bytes X) → ((q : Bytes) → get m q ≡ get n q) → m ≡ n
one_by_keys m n h = same_map nat_list_cmp_total (slice_cmp-IsAntisymmetric nat_cmp-IsAntisymmetric) m n h

pub get_removed : {X : Type 0} (m : FinMap by_bytes X) (k q : Bytes) → get (remove m k) q ≡ cond (bytes_eq q k) None (get m q)
get_removed m k q = get-remove nat_list_cmp_total m k q ∙ ap (λ b. cond b None (get m q)) (same_key q k)

pub get_retained : {X : Type 0} (m : FinMap by_bytes X) (test : Bytes → Bool) (q : Bytes) → get (retain_keys m test) q ≡ cond (test q) (get m q) None
get_retained m test q = get-retain_keys m test q (λ x e. ap test (sym (same_tie q x e)))

pairs_same : {X : Type 0} (p q : Bytes) (x y : X) → p ≡ q → x ≡ y → ◌≡◌ {A = Bytes × X} (p, x) (q, y)
pairs_same p q x y e f = λ i. (e i, f i)

found_in : {X : Type 0} (es : List (Bytes × X)) (q : Bytes) (x : X) → find by_bytes q es ≡ Some x → In (q, x) es
found_in [] q x h = none_is_some x h
found_in {X = X} (e ∷ es) q x h = go (eq_by_cmp by_bytes q e.0) refl h (found_in es q x)
  where
    go : (b : Bool) → eq_by_cmp by_bytes q e.0 ≡ b → cond b (Some e.1) (find by_bytes q es) ≡ Some x → (find by_bytes q es ≡ Some x → In (q, x) es) → In (q, x) (e ∷ es)
    go true k l rest = inl (pairs_same q e.0 x e.1 (same_text q e.0 (sym (same_key q e.0) ∙ k)) (sym (same_Some e.1 x l)))
    go false k l rest = inr (rest l)

pub get_in : {X : Type 0} (m : FinMap by_bytes X) (q : Bytes) (x : X) → get m q ≡ Some x → In (q, x) (entries m)
get_in m q x h = found_in (entries m) q x (sym (get-entries m q) ∙ h)

above : {X : Type 0} (p : Bytes) (es : List (Bytes × X)) → below_all by_bytes p es ≡ true → (q : Bytes) (x : X) → In (q, x) es → is_lt (by_bytes p q) ≡ true
above p [] h q x i = absurd i
above {X = X} p (e ∷ es) h q x (inl k) = ap (λ (f : Bytes × X). is_lt (by_bytes p f.0)) k ∙ (and_parts (is_lt (by_bytes p e.0)) (below_all by_bytes p es) h).0
above p (e ∷ es) h q x (inr i) = above p es (and_parts (is_lt (by_bytes p e.0)) (below_all by_bytes p es) h).1 q x i

less_not_equal : {A : Type 0} (o : Ordering) → is_lt o ≡ true → is_eq o ≡ true → A
less_not_equal Less h k = cc
less_not_equal Equal h k = cc
less_not_equal Greater h k = cc

found_there : {X : Type 0} (es : List (Bytes × X)) → is_sorted by_bytes es ≡ true → (q : Bytes) (x : X) → In (q, x) es → find by_bytes q es ≡ Some x
found_there [] h q x i = absurd i
found_there {X = X} (e ∷ es) h q x (inl k) =
    subst (λ (f : Bytes × X). cond (eq_by_cmp by_bytes q f.0) (Some f.1) (find by_bytes q es) ≡ Some x) k
    (ap (λ b. cond b (Some x) (find by_bytes q es)) (same_key q q ∙ text_itself q))
found_there {X = X} (e ∷ es) h q x (inr i) = go (eq_by_cmp by_bytes q e.0) refl (found_there es parts.1 q x i)
  where
    parts : (below_all by_bytes e.0 es ≡ true) × (is_sorted by_bytes es ≡ true)
    parts = and_parts (below_all by_bytes e.0 es) (is_sorted by_bytes es) h

    go : (b : Bool) → eq_by_cmp by_bytes q e.0 ≡ b → find by_bytes q es ≡ Some x → cond b (Some e.1) (find by_bytes q es) ≡ Some x
    go true k rest =
        let one : q ≡ e.0 = same_text q e.0 (sym (same_key q e.0) ∙ k) in
        less_not_equal (by_bytes e.0 q) (above e.0 es parts.0 q x i) (subst (λ p. is_eq (by_bytes p q) ≡ true) one (same_key q q ∙ text_itself q))
    go false k rest = rest

pub in_get : {X : Type 0} (m : FinMap by_bytes X) (q : Bytes) (x : X) → In (q, x) (entries m) → get m q ≡ Some x
in_get m q x i = get-entries m q ∙ found_there (entries m) (sorted_entries m) q x i

-- ---- storing

-- under the value's id a value of the same text is stored
abbrev pub Near : Kind → FinMap by_id Value → Value → Type 0
Near kind objects v = (w : Value) × (get objects (id_of kind v) ≡ Some w) × (value_text kind w ≡ value_text kind v)

pub near_same : (kind : Kind) (objects : FinMap by_id Value) (v w : Value) → Near kind objects v → Near kind objects w → id_of kind v ≡ id_of kind w → value_text kind v ≡ value_text kind w
near_same kind objects v w (x, gx, tx) (y, gy, ty) e = sym tx ∙ ap (value_text kind) (same_Some x y (sym gx ∙ ap (get objects) e ∙ gy)) ∙ ty

module _ (kind : Kind) where
  one_keeps : (objects : FinMap by_id Value) (v : Value) (q : Id) (x : Value) → get objects q ≡ Some x → get (store_one kind objects v) q ≡ Some x
  one_keeps objects v q x h = go (contains_key objects (id_of kind v)) refl
    where
      go : (b : Bool) → contains_key objects (id_of kind v) ≡ b → get (cond b objects (insert objects (id_of kind v) v)) q ≡ Some x
      go true e = h
      go false e = get_with_id objects (id_of kind v) v q ∙ ap (λ b. cond b (Some v) (get objects q)) (other (id_eq q (id_of kind v)) refl) ∙ h
        where
          other : (b : Bool) → id_eq q (id_of kind v) ≡ b → b ≡ false
          other false f = refl
          other true f = clash (ap is_some h) (ap (contains_key objects) (one_id q (id_of kind v) f) ∙ e)

  pub all_keep : (objects : FinMap by_id Value) (vs : List Value) (q : Id) (x : Value) → get objects q ≡ Some x → get (store_all kind objects vs) q ≡ Some x
  all_keep objects [] q x h = h
  all_keep objects (v ∷ vs) q x h = all_keep (store_one kind objects v) vs q x (one_keeps objects v q x h)

  one_near : (objects : FinMap by_id Value) (v : Value) → is_taken kind objects v ≡ false → Near kind (store_one kind objects v) v
  one_near objects v free = go (contains_key objects (id_of kind v)) refl
    where
      is_free : unwrap_or (option_map (is_other kind (value_text kind v)) (get objects (id_of kind v))) false ≡ false
      is_free = (or_parts _ (unwrap_or (option_map (is_other kind (value_text kind v)) (get objects (id_of kind v))) false) free).1

      at : (o : Option Value) → is_some o ≡ true → unwrap_or (option_map (is_other kind (value_text kind v)) o) false ≡ false → (w : Value) × (o ≡ Some w) × (value_text kind w ≡ value_text kind v)
      at None h k = cc
      at (Some w) h k = (w, refl, sym (same_text (value_text kind v) (value_text kind w) (not-false (bytes_eq (value_text kind v) (value_text kind w)) k)))

      go : (b : Bool) → contains_key objects (id_of kind v) ≡ b → Near kind (cond b objects (insert objects (id_of kind v) v)) v
      go true e = at (get objects (id_of kind v)) e is_free
      go false e = (v, get_with_id objects (id_of kind v) v (id_of kind v) ∙ ap (λ b. cond b (Some v) (get objects (id_of kind v))) (id_itself (id_of kind v)), refl)

  -- after values are stored, none of which has a taken id, each is near
  pub all_near : (objects : FinMap by_id Value) (vs : List Value) → some_taken kind objects vs ≡ false → (v : Value) → In v vs → Near kind (store_all kind objects vs) v
  all_near objects [] free v i = absurd i
  all_near objects (u ∷ vs) free v (inl e) =
      let near = one_near objects u (or_parts (is_taken kind objects u) (some_taken kind (store_one kind objects u) vs) free).0 in
      subst (Near kind (store_all kind (store_one kind objects u) vs)) (sym e) (near.0, all_keep (store_one kind objects u) vs (id_of kind u) near.0 near.1, near.2)
  all_near objects (u ∷ vs) free v (inr i) = all_near (store_one kind objects u) vs (or_parts (is_taken kind objects u) (some_taken kind (store_one kind objects u) vs) free).1 v i

  -- an id is neither null nor, but for its value, the empty tree's
  pub none_reserved : (objects : FinMap by_id Value) (vs : List Value) → some_taken kind objects vs ≡ false → (v : Value) → In v vs
      → (id_eq (id_of kind v) (null_id kind) ≡ false) × ((id_eq (id_of kind v) (empty_tree_id kind) && is_other kind (value_text kind (StoredFolder empty)) v) ≡ false)
  none_reserved objects [] free v i = absurd i
  none_reserved objects (u ∷ vs) free v (inr i) = none_reserved (store_one kind objects u) vs (or_parts (is_taken kind objects u) (some_taken kind (store_one kind objects u) vs) free).1 v i
  none_reserved objects (u ∷ vs) free v (inl e) =
      let taken = (or_parts (is_taken kind objects u) (some_taken kind (store_one kind objects u) vs) free).0 in
      let outer = or_parts (id_eq (id_of kind u) (null_id kind) || (id_eq (id_of kind u) (empty_tree_id kind) && is_other kind (value_text kind (StoredFolder empty)) u)) _ taken in
      let inner = or_parts (id_eq (id_of kind u) (null_id kind)) (id_eq (id_of kind u) (empty_tree_id kind) && is_other kind (value_text kind (StoredFolder empty)) u) outer.0 in
      subst (λ w. (id_eq (id_of kind w) (null_id kind) ≡ false) × ((id_eq (id_of kind w) (empty_tree_id kind) && is_other kind (value_text kind (StoredFolder empty)) w) ≡ false)) (sym e) inner

  one_from : (objects : FinMap by_id Value) (v : Value) (q : Id) (x : Value) → get (store_one kind objects v) q ≡ Some x → (get objects q ≡ Some x) ⊎ ((x ≡ v) × (q ≡ id_of kind x) × (get objects q ≡ None))
  one_from objects v q x h = go (contains_key objects (id_of kind v)) refl h
    where
      is_none_so : (o : Option Value) → is_some o ≡ false → o ≡ None
      is_none_so None e = refl
      is_none_so (Some y) e = cc

      new : (b : Bool) → id_eq q (id_of kind v) ≡ b → contains_key objects (id_of kind v) ≡ false → cond b (Some v) (get objects q) ≡ Some x
          → (get objects q ≡ Some x) ⊎ ((x ≡ v) × (q ≡ id_of kind x) × (get objects q ≡ None))
      new false f e k = inl k
      new true f e k =
          let same : x ≡ v = sym (same_Some v x k) in
          let at : q ≡ id_of kind v = one_id q (id_of kind v) f in
          inr (same, at ∙ ap (id_of kind) (sym same), is_none_so (get objects q) (ap (contains_key objects) at ∙ e))

      go : (b : Bool) → contains_key objects (id_of kind v) ≡ b → get (cond b objects (insert objects (id_of kind v) v)) q ≡ Some x
          → (get objects q ≡ Some x) ⊎ ((x ≡ v) × (q ≡ id_of kind x) × (get objects q ≡ None))
      go true e k = inl k
      go false e k = new (id_eq q (id_of kind v)) refl e (sym (get_with_id objects (id_of kind v) v q) ∙ k)

  -- what is stored then was stored before, or is one of the values, under its own id, which was
  -- free
  pub all_from : (objects : FinMap by_id Value) (vs : List Value) (q : Id) (x : Value) → get (store_all kind objects vs) q ≡ Some x → (get objects q ≡ Some x) ⊎ (In x vs × (q ≡ id_of kind x) × (get objects q ≡ None))
  all_from objects [] q x h = inl h
  all_from objects (v ∷ vs) q x h = go (all_from (store_one kind objects v) vs q x h)
    where
      still_none : (o : Option Value) → get objects q ≡ o → get (store_one kind objects v) q ≡ None → get objects q ≡ None
      still_none None e k = e
      still_none (Some y) e k = none_is_some y (sym k ∙ one_keeps objects v q y e)

      go : (get (store_one kind objects v) q ≡ Some x) ⊎ (In x vs × (q ≡ id_of kind x) × (get (store_one kind objects v) q ≡ None)) → (get objects q ≡ Some x) ⊎ (((x ≡ v) ⊎ In x vs) × (q ≡ id_of kind x) × (get objects q ≡ None))
      go (inl k) = elim (one_from objects v q x k) [ inl a ↦ inl a | inr b ↦ inr (inl b.0, b.1, b.2) ]
      go (inr k) = inr (inr k.0, k.1, still_none (get objects q) refl k.2)

-- ---- stored values

-- the value is stored under its own id
abbrev pub Stored : Kind → FinMap by_id Value → Value → Type 0
Stored kind objects v = get objects (id_of kind v) ≡ Some v

pub near_stored : (kind : Kind) (objects : FinMap by_id Value) (v : Value) → Stored kind objects v → Near kind objects v
near_stored kind objects v h = (v, h, refl)

-- for each folder that is stored, all of it is near
abbrev pub FoldersNear : Kind → FinMap by_id Value → Type 0
FoldersNear kind objects = (q : Id) (m : FileMap) → get objects q ≡ Some (StoredFolder m) → HasAll (Near kind objects) m × ArePlain (entries m)

pub bytes_stored : (kind : Kind) (objects : FinMap by_id Value) (bytes : Bytes) → Near kind objects (StoredBytes bytes) → Stored kind objects (StoredBytes bytes)
bytes_stored kind objects bytes (StoredBytes other, at, same) = at ∙ ap (λ b. Some (StoredBytes b)) (text_same kind (StoredBytes other) (StoredBytes bytes) same).1
bytes_stored kind objects bytes (StoredCommit c, at, same) = texts_differ _ _ refl (text_same kind (StoredCommit c) (StoredBytes bytes) same).0
bytes_stored kind objects bytes (StoredTag t, at, same) = texts_differ _ _ refl (text_same kind (StoredTag t) (StoredBytes bytes) same).0
bytes_stored kind objects bytes (StoredFolder m, at, same) = texts_differ _ _ refl (text_same kind (StoredFolder m) (StoredBytes bytes) same).0

-- a folder that is near, with all of it, is stored
pub folder_stored : (kind : Kind) (objects : FinMap by_id Value) → FoldersNear kind objects → (m : FileMap) → HasAll (Near kind objects) m → ArePlain (entries m)
    → Near kind objects (StoredFolder m) → Stored kind objects (StoredFolder m)
folder_stored kind objects near m has plain (StoredFolder other, at, same) =
    let of_other = near (id_of kind (StoredFolder m)) other at in
    at ∙ ap (λ f. Some (StoredFolder f)) (one_map kind (Near kind objects) (near_same kind objects) other m of_other.1 plain of_other.0 has (text_same kind (StoredFolder other) (StoredFolder m) same).1)
folder_stored kind objects near m has plain (StoredCommit c, at, same) = texts_differ _ _ refl (text_same kind (StoredCommit c) (StoredFolder m) same).0
folder_stored kind objects near m has plain (StoredTag t, at, same) = texts_differ _ _ refl (text_same kind (StoredTag t) (StoredFolder m) same).0
folder_stored kind objects near m has plain (StoredBytes b, at, same) = texts_differ _ _ refl (text_same kind (StoredBytes b) (StoredFolder m) same).0

-- then all values of the folder are stored
pub files_stored : (kind : Kind) (objects : FinMap by_id Value) → FoldersNear kind objects → (m : FileMap) → HasAll (Near kind objects) m → ArePlain (entries m)
    → HasAll (Stored kind objects) m
files_stored kind objects near m has plain = record {
  itself = folder_stored kind objects near m has plain has.itself;
  folders = λ path content folder i j. folder_stored kind objects near (inside folder m) (inside_has (Near kind objects) m has path content folder i j) (plain_inside folder m plain) (has.folders path content folder i j);
  bytes = λ path content i. bytes_stored kind objects content.bytes (has.bytes path content i);
}
