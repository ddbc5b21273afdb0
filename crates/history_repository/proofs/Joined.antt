-- The two parts that were surveyed, as one repository.
use Rattle.std.proofs.Common.{◌≡◌, ℕ, ◌&&◌, not, nat_le, length-append, take, drop, unwrap_or, true, [], ◌∷◌, ◌++◌, length, refl, sym, ◌∙◌, ap, subst, arith, inr, codes, Option, Some, None, is_some, option_map}
use Rattle.std.specs.FinMap.{contains_key, empty, get}
use Rattle.std.proofs.lemmas.Bool.{and_parts}
use Rattle.std.proofs.lemmas.List.{append_cancel_left, append_cancel_right, take-append-le, take_all}
use Rattle.std.proofs.lemmas.Option.{same_Some}
use Rattle.gix_hash.specs.Id.{Id, id_of}
use Rattle.gix_hash.specs.declared.kind.Kind.{Kind}
use Rattle.gix_hash.specs.Kind.{hex_len}
use Rattle.gix_object_lines.specs.declared.kind.Kind.{Kind as ObjectKind}
use Rattle.gix_object_lines.specs.declared.kind.Kind.TheVariants as kinds
use Rattle.gix_ref_file.specs.History.{History}
use Rattle.gix_ref_file.specs.Tree.{Tree}
use Rattle.history_model.specs.Bytes.{Bytes, is_empty, line}
use Rattle.history_model.specs.Forms.{IsWrittenValue, is_actor, is_id, is_tag_form, is_tag_name, max_title, title}
use Rattle.history_model.specs.Objects.{StoredBytes, StoredCommit, StoredFolder, StoredTag, TagValue, Value, actor_text, content_of, hex, object_kind, tag_content, value_text}
use Rattle.history_model.specs.PackedNames.{id_from_hex}
use Rattle.history_model.specs.Places.{Pair, file_at, object_place}
use Rattle.history_model.specs.Repository.{HaveOwnIds, Repository, Values, first_branch}
use Rattle.history_model.specs.StandsFor.{StandsWhole, head_text}
use Rattle.history_model.proofs.PlaceLemmas.{file_at_id, id_length, values_have_ids}
use Rattle.history_model.proofs.WholeTexts.{object_same}
use Rattle.history_model.proofs.IdLemmas.{id_from_hex-hex, length-hex}
use Rattle.history_layout.specs.TreeHalves.{HoldsValues}
use Rattle.history_layout.proofs.TreePuts.{halves_stand}
use Rattle.history_store.specs.KnownObjects.{HasKnown}
use Rattle.history_store.specs.ObjectsFace.{ids_of_objects}
use Rattle.history_store.specs.Ids.{IdSet}
use Rattle.history_store.specs.Packing.{KeepsRecords}
use Rattle.history_check_objects.specs.Flaws.{IsObjectsFlaw}
use Rattle.history_store.specs.Opened.{IsOpened, IsOpenedWith}
use Rattle.history_check_objects.specs.Opened.{IsSoundStore, store_of}
use Rattle.history_check_objects.specs.Stored.{AreFactsOf, Fact, Facts, fact_of}
use Rattle.history_texts.specs.declared.open_error.NamedBy.TheVariants.{Name}
use Rattle.history_texts.specs.declared.open_error.OpenError.{OpenError}
use Rattle.history_texts.specs.declared.open_error.OpenError.TheVariants.{Missing, WrongKind, BadPeeled}
use Rattle.history_check_objects.proofs.Joins.{whole_on}
use Rattle.history_check_names.specs.Causes.{HasCause}
use Rattle.history_check_names.specs.Joined.{StandsStore}
use Rattle.history_check_names.specs.Parts.{IsNamesPart, StandsNames}
use Rattle.history_check_names.specs.Stored.{is_of_wrong_kind, is_tag_of}
use Rattle.history_repository.specs.Causes.{IsOpenCause, IsOpenFault, facts_of}
use Rattle.history_repository.specs.Opened.{IsOpenedAs}
use Rattle.history_repository.specs.declared.folder.OpenedFolder.{OpenedFolder}
use Rattle.history_repository.proofs.NoFlaws.{fault_alone}

-- ---- HEAD's text says the branch

same_branch : (a b : Bytes) → head_text a ≡ head_text b → a ≡ b
same_branch a b e = append_cancel_left (codes "ref: ") a b (append_cancel_right (codes "ref: " ++ a) (codes "ref: " ++ b) (10 ∷ []) e)

-- ---- what a tag's first line says

-- the id in `object <hex>`, with which a tag begins
abbrev target_in : Kind → Bytes → Option Id
target_in kind content = id_from_hex kind (take (hex_len kind) (drop 7 content))

abbrev fact_read : Kind → ObjectKind → Bytes → Fact
fact_read kind kinds.Tag content = record { kind = kinds.Tag; target = target_in kind content }
fact_read kind kinds.Commit content = record { kind = kinds.Commit; target = None }
fact_read kind kinds.Tree content = record { kind = kinds.Tree; target = None }
fact_read kind kinds.Blob content = record { kind = kinds.Blob; target = None }

tag_id : (kind : Kind) (tag : TagValue) → is_tag_form kind tag ≡ true → is_id kind tag.target ≡ true
tag_id kind tag form =
    let a = and_parts (is_id kind tag.target && is_tag_name tag.name && is_actor tag.tagger && not (is_empty tag.message)) (nat_le (length (title tag.message)) max_title) form in
    let b = and_parts (is_id kind tag.target && is_tag_name tag.name && is_actor tag.tagger) (not (is_empty tag.message)) a.0 in
    let c = and_parts (is_id kind tag.target && is_tag_name tag.name) (is_actor tag.tagger) b.0 in
    (and_parts (is_id kind tag.target) (is_tag_name tag.name) c.0).0

-- so many bytes from the beginning are those of the first text
front_taken : (n : ℕ) (h a b c d e f : Bytes) → length h ≡ n → take n (h ++ a ++ b ++ c ++ d ++ e ++ f) ≡ h
front_taken n h a b c d e f same =
    take-append-le n (h ++ a ++ b ++ c ++ d ++ e) f (omega (arith, same, length-append (h ++ a ++ b ++ c ++ d) e, length-append (h ++ a ++ b ++ c) d, length-append (h ++ a ++ b) c, length-append (h ++ a) b, length-append h a))
    ∙ take-append-le n (h ++ a ++ b ++ c ++ d) e (omega (arith, same, length-append (h ++ a ++ b ++ c) d, length-append (h ++ a ++ b) c, length-append (h ++ a) b, length-append h a))
    ∙ take-append-le n (h ++ a ++ b ++ c) d (omega (arith, same, length-append (h ++ a ++ b) c, length-append (h ++ a) b, length-append h a))
    ∙ take-append-le n (h ++ a ++ b) c (omega (arith, same, length-append (h ++ a) b, length-append h a))
    ∙ take-append-le n (h ++ a) b (omega (arith, same, length-append h a))
    ∙ take-append-le n h a (omega (arith, same))
    ∙ take_all n h (omega (arith, same))

target_read : (kind : Kind) (tag : TagValue) → is_id kind tag.target ≡ true → target_in kind (tag_content tag) ≡ Some tag.target
unfolding target_in
target_read kind tag is =
    ap (id_from_hex kind) (front_taken (hex_len kind) (hex tag.target) (10 ∷ []) (line (codes "type commit")) (line (codes "tag " ++ tag.name)) (line (codes "tagger " ++ actor_text tag.tagger)) (line []) tag.message
    (length-hex tag.target ∙ id_length kind tag.target is))
    ∙ id_from_hex-hex kind tag.target is

-- ---- the files of values say their ids and facts

same_ids : (kind : Kind) (tree : Tree) (a b : Values) → HoldsValues kind tree a → HoldsValues kind tree b → HaveOwnIds kind a → HaveOwnIds kind b → (id : Id) → contains_key a id ≡ contains_key b id
same_ids kind tree a b in_a in_b own_a own_b id = go (get a id) refl (get b id) refl
  where
    some_text : (o : Option Value) → is_some o ≡ is_some (option_map (value_text kind) o)
    some_text None = refl
    some_text (Some v) = refl

    of_id : is_id kind id ≡ true → contains_key a id ≡ contains_key b id
    of_id formed =
        some_text (get a id)
        ∙ ap is_some (sym (file_at_id kind a own_a id formed) ∙ sym (in_a.files (object_place id)) ∙ in_b.files (object_place id) ∙ file_at_id kind b own_b id formed)
        ∙ sym (some_text (get b id))

    go : (x : Option Value) → get a id ≡ x → (y : Option Value) → get b id ≡ y → contains_key a id ≡ contains_key b id
    go None e None f = ap is_some e ∙ sym (ap is_some f)
    go (Some v) e y f = of_id (values_have_ids kind a own_a id v e)
    go None e (Some w) f = of_id (values_have_ids kind b own_b id w f)

-- the fact read from the text of a value is the value's fact
fact_told : (kind : Kind) (v : Value) → IsWrittenValue kind v → fact_read kind (object_kind v) (content_of kind v) ≡ fact_of v
unfolding fact_read
fact_told kind (StoredCommit commit) written = refl
fact_told kind (StoredTag tag) written = ap (λ o. record { kind = kinds.Tag; target = o }) (target_read kind tag (tag_id kind tag written.0))
fact_told kind (StoredBytes bytes) written = refl
fact_told kind (StoredFolder files) written = refl

module _ (kind : Kind) (tree : Tree) (a b : Values) (in_a : HoldsValues kind tree a) (in_b : HoldsValues kind tree b) (sound_a : IsSoundStore kind a) (sound_b : IsSoundStore kind b) where
  same_known : (id : Id) → contains_key a id ≡ contains_key b id
  same_known = same_ids kind tree a b in_a in_b (sound_a.whole).own_ids (sound_b.whole).own_ids

  text_at : (values : Values) → HoldsValues kind tree values → HaveOwnIds kind values → (id : Id) (v : Value) → get values id ≡ Some v → file_at tree (object_place id) ≡ Some (value_text kind v)
  text_at values holds own id v at = holds.files (object_place id) ∙ file_at_id kind values own id (values_have_ids kind values own id v at) ∙ ap (option_map (value_text kind)) at

  same_facts : (id : Id) → option_map fact_of (get a id) ≡ option_map fact_of (get b id)
  same_facts id = go (get a id) refl (get b id) refl
    where
      go : (x : Option Value) → get a id ≡ x → (y : Option Value) → get b id ≡ y → option_map fact_of (get a id) ≡ option_map fact_of (get b id)
      go None e None f = ap (option_map fact_of) (e ∙ sym f)
      go (Some v) e None f = absurd (cc (sym (ap is_some e) ∙ same_known id ∙ ap is_some f))
      go None e (Some w) f = absurd (cc (sym (ap is_some e) ∙ same_known id ∙ ap is_some f))
      go (Some v) e (Some w) f =
          let text : value_text kind v ≡ value_text kind w = same_Some _ _ (sym (text_at a in_a (sound_a.whole).own_ids id v e) ∙ text_at b in_b (sound_b.whole).own_ids id w f) in
          let same = object_same (object_kind v) (object_kind w) (content_of kind v) (content_of kind w) text in
          ap (option_map fact_of) e
          ∙ ap Some (sym (fact_told kind v (sound_a.written id v e)) ∙ (λ i. fact_read kind (same.0 i) (same.1 i)) ∙ fact_told kind w (sound_b.written id w f))
          ∙ sym (ap (option_map fact_of) f)

-- ---- the halves of a pair that represents a repository

module _ (kind : Kind) (pair : Pair) (r : Repository) (stands : StandsWhole kind pair r) where
  pub of_kind : r.kind ≡ kind
  of_kind = ((halves_stand kind pair r).0 stands.stands).0

  holds_values : HoldsValues kind pair.objects r.objects
  holds_values = subst (λ k. HoldsValues k pair.objects r.objects) of_kind ((halves_stand kind pair r).0 stands.stands).1

  is_sound : IsSoundStore kind r.objects
  is_sound = subst (λ k. IsSoundStore k r.objects) of_kind (record { whole = whole_on r empty first_branch (stands.whole).store; written = (stands.written).values })

  pub stands_names : StandsNames pair.names r
  stands_names = record {
    holds = ((halves_stand kind pair r).0 stands.stands).2;
    whole = (stands.whole).names;
    branch = (stands.written).branch;
    names = (stands.written).names;
  }

  -- a flaw of its objects part is a fault
  pub fault_of_objects : (MayFail : Type 0) (error : OpenError) → IsObjectsFlaw MayFail kind pair.objects error → IsOpenFault error
  fault_of_objects MayFail error h = fault_alone kind pair.objects r.objects holds_values is_sound MayFail error h

-- ---- an opened store, and the names part over it

-- what was found of the names part, by its files and their kind
pub part_of : {F : Type 0} (history : F → History) (facts : Facts) (branch : Bytes) (known own : F) (k kind : Kind) → known ≡ own → k ≡ kind
    → IsNamesPart k facts (history known).tree branch → IsNamesPart kind facts (history own).tree branch
part_of history facts branch known own k kind e f h =
    subst (λ files. IsNamesPart kind facts (history files).tree branch) e (subst (λ (q : Kind). IsNamesPart q facts (history known).tree branch) f h)

pub cause_of : {F : Type 0} (history : F → History) (MayFail : Type 0) (facts : Facts) (error : OpenError) (known own : F) (k kind : Kind) → known ≡ own → k ≡ kind
    → HasCause MayFail k facts (history known).tree error → HasCause MayFail kind facts (history own).tree error
cause_of history MayFail facts error known own k kind e f h =
    subst (λ files. HasCause MayFail kind facts (history files).tree error) e (subst (λ (q : Kind). HasCause MayFail q facts (history known).tree error) f h)

module _ (kind : Kind) (pair : Pair) (ids : IdSet) (facts : Facts) (with_facts : IsOpenedWith kind pair.objects ids facts) where
  abbrev whole : IsOpened kind pair.objects ids
  whole = with_facts.opened

  store : StandsStore kind pair.objects whole.values
  store = record { holds = whole.holds; whole = (whole.sound).whole; written = (whole.sound).written }

  known_as : (r : Repository) → StandsWhole kind pair r → (id : Id) → contains_key ids id ≡ contains_key r.objects id
  known_as r stands id =
      whole.known id
      ∙ same_known kind pair.objects whole.values r.objects whole.holds (holds_values kind pair r stands) whole.sound (is_sound kind pair r stands) id

  pub facts_as : (r : Repository) → StandsWhole kind pair r → AreFactsOf facts r.objects
  facts_as r stands id =
      with_facts.told id
      ∙ same_facts kind pair.objects whole.values r.objects whole.holds (holds_values kind pair r stands) whole.sound (is_sound kind pair r stands) id

  module _ {F : Type 0} (opened : OpenedFolder F) (own : ids_of_objects opened.objects ≡ ids) (part : IsNamesPart kind facts pair.names opened.branch.items) (keeps : KeepsRecords opened.names pair.names)
      (has : HasKnown pair.objects opened.objects) where
    abbrev one : Repository
    one = record { kind = kind; names = part.names; branch = opened.branch.items; objects = whole.values }

    names_stand : StandsNames pair.names one
    names_stand = part.stands whole.values with_facts.told

    one_stands : StandsWhole kind pair one
    one_stands = record {
      stands = (halves_stand kind pair one).1 (refl, whole.holds, names_stand.holds);
      written = record { branch = names_stand.branch; names = names_stand.names; values = (whole.sound).written };
      whole = record { store = whole_on (store_of kind whole.values) part.names opened.branch.items (whole.sound).whole; names = names_stand.whole };
    }

    -- whichever repository the pair represents
    pub opened_as : (r : Repository) → StandsWhole kind pair r → IsOpenedAs kind pair opened r
    opened_as r stands = record {
      stands = stands;
      records = keeps;
      branch = same_branch opened.branch.items r.branch (same_Some (head_text opened.branch.items) (head_text r.branch) (sym (names_stand.holds).head ∙ (stands.stands).head));
      known = λ id. ap (λ (set : IdSet). contains_key set id) own ∙ known_as r stands id;
      exist = has;
    }

    -- and it represents one
    pub opened_as_one : (r : Repository) × IsOpenedAs kind pair opened r
    opened_as_one = (one, opened_as one one_stands)

  -- ---- causes

  carried : (A : Type 0) (k l : Facts) → ((id : Id) → k id ≡ l id) → (tree : Tree) (error : OpenError) → HasCause A kind k tree error → HasCause A kind l tree error
  carried A k l same tree (Missing id (Name name)) h = (h.0, ap (option_map (λ (fact : Fact). fact.kind)) (sym (same (id_of id))) ∙ h.1)
  carried A k l same tree (WrongKind id (Name name)) h = (h.0, ap (λ o. is_of_wrong_kind (option_map (λ (fact : Fact). fact.kind) o)) (sym (same (id_of id))) ∙ h.1)
  carried A k l same tree (BadPeeled name) h = record {
    entry = h.entry;
    among = h.among;
    named = h.named;
    wrong = ap (λ o. unwrap_or (option_map (λ commit. is_tag_of o commit) h.entry.peeled) true) (sym (same h.entry.target)) ∙ h.wrong;
  }
  carried A k l same tree _ h = h

  pub names_cause : (M : Type 0) (error : OpenError) → HasCause M kind facts pair.names error → IsOpenCause M kind pair error
  names_cause M error h = inr (record {
    values = whole.values;
    store = store;
    holds = carried M facts (facts_of whole.values) with_facts.told pair.names error h;
  })
