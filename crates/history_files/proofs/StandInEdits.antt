-- Whether an edit is refused doesn't depend on the bytes that are put.
use Rattle.std.proofs.Common.{◌≡◌, Bool, true, false, cond, not, ◌||◌, List, [], ◌∷◌, ◌++◌, map, refl, sym, ◌∙◌, ap, subst, inl, inr, Option, Some, None, is_some, bytes_eq}
use Rattle.std.specs.List.{flat_map, list_any}
use Rattle.std.specs.FinMap.{get, insert, retain_keys}
use Rattle.std.specs.Fmt.{digits}
use Rattle.gix_hash.specs.Hasher.{empty_blob_text, id_of_message}
use Rattle.gix_hash.specs.Id.{id_of}
use Rattle.gix_hash.specs.declared.kind.Kind.{Kind}
use Rattle.gix_hash.specs.declared.kind.Kind.TheVariants.{Sha1, Sha256}
use Rattle.gix_hash.specs.declared.object_id.ObjectId.{ObjectId}
use Rattle.gix_hash.proofs.EmptyObjects.{sha1-empty_blob, sha256-empty_blob}
use Rattle.gix_object_lookup.specs.Table.{Table}
use Rattle.gix_object_nodes.specs.Files.{is_null}
use Rattle.history_model.specs.Bytes.{Bytes}
use Rattle.history_model.specs.FileMap as model
use Rattle.history_model.specs.FileMap.{FileMap, Content, carried, cleared, edited, edited_by, has_below, is_path, is_refused, is_within, put_at, removed, some_refused, with_all}
use Rattle.history_model.specs.laws.Trees.{edit_path}
use Rattle.history_model.specs.Meaning.{put_bytes}
use Rattle.history_model.specs.Objects as objects
use Rattle.history_model.specs.Objects.{StoredBytes, Value, blob_id, digest}
use Rattle.history_model.proofs.WholeLists.{In, clash, in_right}
use Rattle.history_model.proofs.WholeStores.{get_retained}
use Rattle.history_files.specs.Edits.{AreEdits, IsChange}
use Rattle.history_files.specs.Editing.{HaveIds, NameEdits, Names}
use Rattle.history_files.specs.StandIns.{change_with, puts_null, stand_in}
use Rattle.history_files.specs.declared.edits.Change.{Change}
use Rattle.history_files.specs.declared.edits.Change.TheVariants.{Put, Remove, RemoveFile, Graft}
use Rattle.history_files.specs.declared.edits.Edit.{Edit}
use Rattle.history_files.proofs.AtNames.{below_some, some_below}
use Rattle.history_model.proofs.RecoveredLemmas.{some_is}
use Rattle.std.proofs.lemmas.Bool.{or_parts, or_cases}
use Rattle.history_model.proofs.AfterFirstLemmas.{get-with}

-- the edit with no bytes to put
abbrev pub emptied : model.Edit → model.Edit
emptied (model.Put kind path bytes) = model.Put kind path []
emptied (model.Remove path) = model.Remove path
emptied (model.RemoveFile path) = model.RemoveFile path
emptied (model.Graft path source other) = model.Graft path source other

-- ---- files at the same paths

abbrev SameKeys : FileMap → FileMap → Type 0
SameKeys a b = (q : Bytes) → is_some (get a q) ≡ is_some (get b q)

below_in : (a b : FileMap) (path : Bytes) → SameKeys a b → has_below a path ≡ true → has_below b path ≡ true
below_in a b path same h =
    let one = below_some a path h in
    let other = some_is (get b (path ++ 47 ∷ one.0)) (sym (same (path ++ 47 ∷ one.0)) ∙ ap is_some one.2) in
    some_below b path one.0 other.0 other.1

same_below : (a b : FileMap) (path : Bytes) → SameKeys a b → has_below a path ≡ has_below b path
same_below a b path same = go (has_below a path) refl (has_below b path) refl
  where
    go : (s : Bool) → has_below a path ≡ s → (t : Bool) → has_below b path ≡ t → s ≡ t
    go true e true f = refl
    go true e false f = clash (below_in a b path same e) f
    go false e true f = clash (below_in b a path (λ q. sym (same q)) f) e
    go false e false f = refl

kept_keys : (a b : FileMap) (test : Bytes → Bool) → SameKeys a b → SameKeys (retain_keys a test) (retain_keys b test)
kept_keys a b test same q = ap is_some (get_retained a test q) ∙ go (test q) ∙ sym (ap is_some (get_retained b test q))
  where
    go : (t : Bool) → is_some (cond t (get a q) None) ≡ is_some (cond t (get b q) None)
    go true = same q
    go false = refl

put_keys : (a b : FileMap) (path : Bytes) (c d : Content) → SameKeys a b → SameKeys (put_at path c a) (put_at path d b)
put_keys a b path c d same q =
    ap is_some (get-with (retain_keys a test) path c q) ∙ go (bytes_eq q path) ∙ sym (ap is_some (get-with (retain_keys b test) path d q))
  where
    test : Bytes → Bool
    test x = not (is_within path x || is_within x path)

    go : (t : Bool) → is_some (cond t (Some c) (get (retain_keys a test) q)) ≡ is_some (cond t (Some d) (get (retain_keys b test) q))
    go true = refl
    go false = kept_keys a b test same q

put_one : (a b : FileMap) (key : Bytes) (c : Content) → SameKeys a b → SameKeys (insert a key c) (insert b key c)
put_one a b key c same q = ap is_some (get-with a key c q) ∙ go (bytes_eq q key) ∙ sym (ap is_some (get-with b key c q))
  where
    go : (t : Bool) → is_some (cond t (Some c) (get a q)) ≡ is_some (cond t (Some c) (get b q))
    go true = refl
    go false = same q

pub put_keys_all : (es : List (Bytes × Content)) (a b : FileMap) → SameKeys a b → SameKeys (with_all es a) (with_all es b)
put_keys_all [] a b same = same
put_keys_all (e ∷ es) a b same = put_keys_all es (insert a e.0 e.1) (insert b e.0 e.1) (put_one a b e.0 e.1 same)

edited_keys : (a b : FileMap) (edit : model.Edit) → SameKeys a b → SameKeys (edited a (emptied edit)) (edited b edit)
edited_keys a b (model.Put kind path bytes) same = put_keys a b path (record { kind = kind; bytes = [] }) (record { kind = kind; bytes = bytes }) same
edited_keys a b (model.Remove path) same = kept_keys a b (λ q. not (is_within path q)) same
edited_keys a b (model.RemoveFile path) same = kept_keys a b (λ q. not (is_within path q)) same
edited_keys a b (model.Graft path source other) same =
    put_keys_all (carried path source other) (cleared path a) (cleared path b) (kept_keys a b (λ q. not (is_within path q || is_within q path)) same)

refused_same : (a b : FileMap) (edit : model.Edit) → SameKeys a b → is_refused a (emptied edit) ≡ is_refused b edit
refused_same a b (model.Put kind path bytes) same = refl
refused_same a b (model.Remove path) same = refl
refused_same a b (model.RemoveFile path) same = same_below a b path same
refused_same a b (model.Graft path source other) same = refl

refused_by_keys : (a b : FileMap) (made : List model.Edit) → SameKeys a b → some_refused a (map emptied made) ≡ some_refused b made
refused_by_keys a b [] same = refl
refused_by_keys a b (edit ∷ made) same =
    λ i. refused_same a b edit same i || refused_by_keys (edited a (emptied edit)) (edited b edit) made (edited_keys a b edit same) i

-- some edit is refused if and only if one without bytes is
pub emptied_refused : (files : FileMap) (made : List model.Edit) → some_refused files (map emptied made) ≡ some_refused files made
emptied_refused files made = refused_by_keys files files made (λ q. refl)

-- ---- the empty blob

pub empty_id : (kind : Kind) → blob_id kind [] ≡ id_of_message kind empty_blob_text
unfolding digest digits
empty_id kind = refl

pub empty_not_null : (kind : Kind) → is_null (blob_id kind []) ≡ false
empty_not_null kind = ap is_null (empty_id kind) ∙ by_kind kind
  where
    by_kind : (k : Kind) → is_null (id_of_message k empty_blob_text) ≡ false
    by_kind Sha1 = rw sha1-empty_blob refl
    by_kind Sha256 = rw sha256-empty_blob refl

-- ---- edits as they are tested

module _ (table : Table) (kind : Kind) where
  pub stand_in_edits : (blank : ObjectId) → id_of blank ≡ blob_id kind [] → (edits : List Edit) (made : List model.Edit) → NameEdits table kind edits made → AreEdits table kind (map (stand_in blank) edits) (map emptied made)
  stand_in_edits blank is [] [] are = tt
  stand_in_edits blank is [] (one ∷ made) are = absurd are
  stand_in_edits blank is (edit ∷ edits) [] are = absurd are
  stand_in_edits blank is (edit ∷ edits) (one ∷ made) are = (by_change edit.change are.0, stand_in_edits blank is edits made are.1)
    where
      by_change : (change : Change) → Names table kind edit.path.now change one → IsChange table kind edit.path.now (change_with blank change) (emptied one)
      by_change (Put k id) (bytes, e, same) = ([], ap emptied e, is, ap is_null is ∙ empty_not_null kind)
      by_change Remove e = ap emptied e
      by_change RemoveFile e = ap emptied e
      by_change (Graft found) (source, other, e, from) = (source, other, ap emptied e, from)

  pub named_edits : (edits : List Edit) (made : List model.Edit) → NameEdits table kind edits made → list_any (λ (edit : Edit). puts_null edit.change) edits ≡ false → AreEdits table kind edits made
  named_edits [] [] are none = tt
  named_edits [] (one ∷ made) are none = absurd are
  named_edits (edit ∷ edits) [] are none = absurd are
  named_edits (edit ∷ edits) (one ∷ made) are none =
      let both = or_parts (puts_null edit.change) (list_any (λ (e : Edit). puts_null e.change) edits) none in
      (by_change edit.change are.0 both.0, named_edits edits made are.1 both.1)
    where
      by_change : (change : Change) → Names table kind edit.path.now change one → puts_null change ≡ false → IsChange table kind edit.path.now change one
      by_change (Put k id) (bytes, e, same) f = (bytes, e, same, f)
      by_change Remove e f = e
      by_change RemoveFile e f = e
      by_change (Graft found) e f = e

  -- what is put with the null id
  pub null_value : (edits : List Edit) (made : List model.Edit) → NameEdits table kind edits made → list_any (λ (edit : Edit). puts_null edit.change) edits ≡ true
      → (value : Value) × In value (flat_map put_bytes made) × (is_null (objects.id_of kind value) ≡ true)
  null_value [] [] are h = cc
  null_value [] (one ∷ made) are h = absurd are
  null_value (edit ∷ edits) [] are h = absurd are
  null_value (edit ∷ edits) (one ∷ made) are h = elim (or_cases (puts_null edit.change) (list_any (λ (e : Edit). puts_null e.change) edits) h) [
    | inl null ↦ here edit.change are.0 null
    | inr more ↦ let rest = null_value edits made are.1 more in (rest.0, in_right rest.0 (put_bytes one) (flat_map put_bytes made) rest.1, rest.2)
  ]
    where
      here : (change : Change) → Names table kind edit.path.now change one → puts_null change ≡ true → (value : Value) × In value (put_bytes one ++ flat_map put_bytes made) × (is_null (objects.id_of kind value) ≡ true)
      here (Put k id) (bytes, e, same) null = (
        StoredBytes bytes,
        subst (λ x. In (StoredBytes bytes) (put_bytes x ++ flat_map put_bytes made)) (sym e) (inl refl),
        ap is_null (sym same) ∙ null,
      )
      here Remove e null = cc
      here RemoveFile e null = cc
      here (Graft found) e null = cc

  pub have_ids : (edits : List Edit) (made : List model.Edit) → NameEdits table kind edits made → list_any (λ (edit : Edit). puts_null edit.change) edits ≡ false → HaveIds kind made
  have_ids [] [] are none = tt
  have_ids [] (one ∷ made) are none = absurd are
  have_ids (edit ∷ edits) [] are none = absurd are
  have_ids (edit ∷ edits) (one ∷ made) are none =
      let both = or_parts (puts_null edit.change) (list_any (λ (e : Edit). puts_null e.change) edits) none in
      by_change edit.change are.0 both.0 (have_ids edits made are.1 both.1)
    where
      by_change : (change : Change) → Names table kind edit.path.now change one → puts_null change ≡ false → HaveIds kind made → HaveIds kind (one ∷ made)
      by_change (Put k id) (bytes, e, same) f rest = subst (λ x. HaveIds kind (x ∷ made)) (sym e) (ap is_null (sym same) ∙ f, rest)
      by_change Remove e f rest = subst (λ x. HaveIds kind (x ∷ made)) (sym e) rest
      by_change RemoveFile e f rest = subst (λ x. HaveIds kind (x ∷ made)) (sym e) rest
      by_change (Graft found) (source, other, e, from) f rest = subst (λ x. HaveIds kind (x ∷ made)) (sym e) rest
