-- Equal places are of equal ids, and the files of values are the texts of what is stored under each
-- id.
use Rattle.std.proofs.Common.{◌≡◌, Bool, true, false, cond, List, [], ◌∷◌, ◌++◌, map, length, take, drop, refl, sym, ◌∙◌, ap, subst, arith, Option, Some, None, option_map, is_some, bytes_eq}
use Rattle.std.specs.Ordering.{eq_by_cmp}
use Rattle.std.specs.FinMap.{entries, get, get-entries, get-from_entries}
use Rattle.std.specs.FinMap.Entries.{find}
use Rattle.std.proofs.lemmas.Cmp.{nat_list_cmp_total}
use Rattle.std.proofs.lemmas.Map.Text.{is_eq-slice_cmp}
use Rattle.std.proofs.lemmas.Slice.Eq.{bytes_eq-Decides}
use Rattle.history_model.specs.Bytes.{Bytes, by_bytes}
use Rattle.history_model.specs.Objects.{by_id, Value, hex, value_text}
use Rattle.gix_hash.specs.Id.{Id}
use Rattle.gix_hash.specs.Order.{id_eq}
use Rattle.gix_hash.specs.Kind.{hex_len}
use Rattle.history_model.specs.Forms.{is_id}
use Rattle.history_model.specs.Places.{object_place}
use Rattle.history_model.specs.Repository.{Values, HaveOwnIds}
use Rattle.history_model.specs.StandsFor.{value_files}
use Rattle.gix_hash.specs.declared.kind.Kind.{Kind}
use Rattle.history_model.proofs.IdLemmas.{has_kind, hex_tells, length-hex, one_id, id_itself, apart_ids, same_id_key, digest_is_id}
use Rattle.history_model.proofs.PartLemmas.{head_same, tail_same}

-- ---- texts

pub text_itself : (text : Bytes) → bytes_eq text text ≡ true
text_itself text = (bytes_eq-Decides text text).1 refl

pub one_text : (a b : Bytes) → bytes_eq a b ≡ true → a ≡ b
one_text a b e = (bytes_eq-Decides a b).0 e

pub texts_apart : (a b : Bytes) → (a ≡ b → ⊥) → bytes_eq a b ≡ false
texts_apart a b differ = go (bytes_eq a b) refl
  where
    go : (t : Bool) → bytes_eq a b ≡ t → t ≡ false
    go false e = refl
    go true e = absurd (differ (one_text a b e))

pub apart_texts : {A : Type 0} (a b : Bytes) → bytes_eq a b ≡ false → a ≡ b → A
apart_texts a b e same = absurd (cc (sym e ∙ (bytes_eq-Decides a b).1 same))

pub same_key : (a b : Bytes) → eq_by_cmp by_bytes a b ≡ bytes_eq a b
same_key a b = is_eq-slice_cmp a b

-- ---- ids

-- the digits after `objects/`, whatever their number
digits_told : (s t : Bytes) → take 2 s ++ 47 ∷ drop 2 s ≡ take 2 t ++ 47 ∷ drop 2 t → length s ≡ length t → s ≡ t
digits_told [] [] e n = refl
digits_told [] (b ∷ t) e n = absurd (omega arith)
digits_told (a ∷ s) [] e n = absurd (omega arith)
digits_told (a ∷ []) (b ∷ []) e n = λ i. head_same e i ∷ []
digits_told (a ∷ []) (b ∷ d ∷ t) e n = absurd (omega arith)
digits_told (a ∷ c ∷ s) (b ∷ []) e n = absurd (omega arith)
digits_told (a ∷ c ∷ s) (b ∷ d ∷ t) e n = λ i. head_same e i ∷ head_same (tail_same e) i ∷ tail_same (tail_same (tail_same e)) i

pub id_length : (kind : Kind) (id : Id) → is_id kind id ≡ true → length id.digits ≡ hex_len kind
id_length kind id h = (has_kind kind id h).whole

pub places_tell_ids : (kind : Kind) (a b : Id) → is_id kind a ≡ true → is_id kind b ≡ true → object_place a ≡ object_place b → a ≡ b
places_tell_ids kind a b ha hb e =
    hex_tells kind a b ha hb (digits_told (hex a) (hex b) (behind e) (length-hex a ∙ id_length kind a ha ∙ sym (length-hex b ∙ id_length kind b hb)))
  where
    behind : object_place a ≡ object_place b → take 2 (hex a) ++ 47 ∷ drop 2 (hex a) ≡ take 2 (hex b) ++ 47 ∷ drop 2 (hex b)
    behind same = ap (λ (text : Bytes). drop 8 text) same

pub values_have_ids : (kind : Kind) (values : Values) → HaveOwnIds kind values → (id : Id) (value : Value) → get values id ≡ Some value → is_id kind id ≡ true
values_have_ids kind values own id value at = ap (is_id kind) (own id value at) ∙ digest_is_id kind (value_text kind value)

-- ---- files of values

module _ (kind : Kind) where
  abbrev pub placed : List (Id × Value) → List (Bytes × Bytes)
  placed es = map (λ (e : Id × Value). (object_place e.0, value_text kind e.1)) es

  -- what is found has an id
  abbrev pub AllIds : List (Id × Value) → Type 0
  AllIds es = (q : Id) → is_some (find by_id q es) ≡ true → is_id kind q ≡ true

  found_later : (q : Id) (e : Id × Value) (es : List (Id × Value)) → is_some (find by_id q es) ≡ true → is_some (find by_id q (e ∷ es)) ≡ true
  found_later q e es h = go (eq_by_cmp by_id q e.0)
    where
      go : (b : Bool) → is_some (cond b (Some e.1) (find by_id q es)) ≡ true
      go true = refl
      go false = h

  found_first : (e : Id × Value) (es : List (Id × Value)) → is_some (find by_id e.0 (e ∷ es)) ≡ true
  found_first e es = ap (λ b. is_some (cond b (Some e.1) (find by_id e.0 es))) (same_id_key e.0 e.0 ∙ id_itself e.0)

  -- a file is at the place of a key
  pub found_at : (path : Bytes) (es : List (Id × Value)) → is_some (find by_bytes path (placed es)) ≡ true → (q : Id) × (is_some (find by_id q es) ≡ true) × (path ≡ object_place q)
  found_at path [] h = cc
  found_at path (e ∷ es) h = go (found_at path es) (bytes_eq path (object_place e.0)) refl (subst (λ b. is_some (cond b (Some (value_text kind e.1)) (find by_bytes path (placed es))) ≡ true) (same_key path (object_place e.0)) h)
    where
      go : (is_some (find by_bytes path (placed es)) ≡ true → (q : Id) × (is_some (find by_id q es) ≡ true) × (path ≡ object_place q))
          → (b : Bool) → bytes_eq path (object_place e.0) ≡ b → is_some (cond b (Some (value_text kind e.1)) (find by_bytes path (placed es))) ≡ true
          → (q : Id) × (is_some (find by_id q (e ∷ es)) ≡ true) × (path ≡ object_place q)
      go later true k found = (e.0, found_first e es, one_text path (object_place e.0) k)
      go later false k found = let rest = later found in (rest.0, found_later rest.0 e es rest.1, rest.2)

  pub text_at : (es : List (Id × Value)) → AllIds es → (q : Id) → is_id kind q ≡ true → find by_bytes (object_place q) (placed es) ≡ option_map (value_text kind) (find by_id q es)
  text_at [] ids q h = refl
  text_at (e ∷ es) ids q h = go (id_eq q e.0) refl (text_at es (λ x f. ids x (found_later x e es f)) q h)
    where
      key_id : is_id kind e.0 ≡ true
      key_id = ids e.0 (found_first e es)

      same_place : (b : Bool) → id_eq q e.0 ≡ b → eq_by_cmp by_bytes (object_place q) (object_place e.0) ≡ b
      same_place true k = same_key (object_place q) (object_place e.0) ∙ (bytes_eq-Decides (object_place q) (object_place e.0)).1 (ap object_place (one_id q e.0 k))
      same_place false k = same_key (object_place q) (object_place e.0) ∙ texts_apart (object_place q) (object_place e.0) (λ same. apart_ids q e.0 k (places_tell_ids kind q e.0 h key_id same))

      go : (b : Bool) → id_eq q e.0 ≡ b → find by_bytes (object_place q) (placed es) ≡ option_map (value_text kind) (find by_id q es)
          → cond (eq_by_cmp by_bytes (object_place q) (object_place e.0)) (Some (value_text kind e.1)) (find by_bytes (object_place q) (placed es))
          ≡ option_map (value_text kind) (cond (eq_by_cmp by_id q e.0) (Some e.1) (find by_id q es))
      go true k rest = rw (same_place true k, same_id_key q e.0 ∙ k) refl
      go false k rest = rw (same_place false k, same_id_key q e.0 ∙ k) rest

  module _ (values : Values) (own : HaveOwnIds kind values) where
    files_found : (path : Bytes) → get (value_files kind values) path ≡ find by_bytes path (placed (entries values))
    files_found path = get-from_entries nat_list_cmp_total (placed (entries values)) path

    some_is : {X : Type 0} (o : Option X) → is_some o ≡ true → (x : X) × (o ≡ Some x)
    some_is None h = cc
    some_is (Some x) h = (x, refl)

    all_ids : AllIds (entries values)
    all_ids q h = let found = some_is (find by_id q (entries values)) h in values_have_ids kind values own q found.0 (get-entries values q ∙ found.1)

    pub file_at_id : (id : Id) → is_id kind id ≡ true → get (value_files kind values) (object_place id) ≡ option_map (value_text kind) (get values id)
    file_at_id id h = files_found (object_place id) ∙ text_at (entries values) all_ids id h ∙ ap (option_map (value_text kind)) (sym (get-entries values id))

    -- the path of a file is the place of an id
    pub file_has_id : (path text : Bytes) → get (value_files kind values) path ≡ Some text → (id : Id) × (is_id kind id ≡ true) × (path ≡ object_place id)
    file_has_id path text h =
        let found = found_at path (entries values) (ap is_some (sym (files_found path) ∙ h)) in
        (found.0, all_ids found.0 found.1, found.2)

  -- two stores with one text under each id that a path is the place of have one file there
  pub alike_file : (m n : Values) → HaveOwnIds kind m → HaveOwnIds kind n → (path : Bytes) → ((id : Id) → is_id kind id ≡ true → path ≡ object_place id → option_map (value_text kind) (get m id) ≡ option_map (value_text kind) (get n id))
      → get (value_files kind m) path ≡ get (value_files kind n) path
  alike_file m n own_m own_n path same = go (get (value_files kind m) path) refl (get (value_files kind n) path) refl
    where
      at_one : (id : Id) → is_id kind id ≡ true → path ≡ object_place id → get (value_files kind m) path ≡ get (value_files kind n) path
      at_one id h is = ap (get (value_files kind m)) is ∙ file_at_id m own_m id h ∙ same id h is
          ∙ sym (file_at_id n own_n id h) ∙ ap (get (value_files kind n)) (sym is)

      go : (a : Option Bytes) → get (value_files kind m) path ≡ a → (b : Option Bytes) → get (value_files kind n) path ≡ b → get (value_files kind m) path ≡ get (value_files kind n) path
      go None e None f = e ∙ sym f
      go (Some t) e b f = let found = file_has_id m own_m path t e in at_one found.0 found.1 found.2
      go None e (Some t) f = let found = file_has_id n own_n path t f in at_one found.0 found.1 found.2

  -- so have two stores with one value under each
  pub same_file : (m n : Values) → HaveOwnIds kind m → HaveOwnIds kind n → (path : Bytes) → ((id : Id) → is_id kind id ≡ true → path ≡ object_place id → get m id ≡ get n id)
      → get (value_files kind m) path ≡ get (value_files kind n) path
  same_file m n own_m own_n path same = alike_file m n own_m own_n path (λ id h is. ap (option_map (value_text kind)) (same id h is))
