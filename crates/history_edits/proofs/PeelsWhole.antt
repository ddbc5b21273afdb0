-- Over the objects of a repository the ids of names lead to what it says.
use Rattle.std.proofs.Common.{◌||◌, ◌≡◌, ◌≢◌, ◌⊎◌, inl, inr, Bool, true, false, cond, List, [], ◌∷◌, ◌++◌, drop, length, refl, sym, ◌∙◌, ap, subst, Option, Some, None, option_map, unwrap_or, codes, pred}
use Rattle.std.specs.Prelude.{IsSome, option_and_then}
use Rattle.std.specs.List.{list_any}
use Rattle.std.specs.FinMap.{get}
use Rattle.std.proofs.lemmas.Bool.{and_parts}
use Rattle.std.proofs.lemmas.List.{append_assoc}
use Rattle.std.proofs.lemmas.Option.{same_Some}
use Rattle.gix_hash.specs.Id.{Id}
use Rattle.gix_hash.specs.Kind.{hex_len}
use Rattle.gix_hash.specs.Order.{id_eq}
use Rattle.gix_hash.specs.Views.{IsHexOfId}
use Rattle.gix_hash.specs.declared.kind.Kind as hash
use Rattle.gix_hash.proofs.LawLemmas.{hex_text-IsHexOf}
use Rattle.gix_object_lines.specs.HexLine.{HexLineFault, IsHex, hex_line}
use Rattle.gix_object_lines.specs.declared.decode.Error as decode
use Rattle.gix_object_lines.specs.declared.decode.Error.TheVariants.{FieldName, HexDigits, LineEnd, InvalidActor, InvalidTime, Memory}
use Rattle.gix_object_lines.specs.declared.kind.Kind.{Kind}
use Rattle.gix_object_lines.specs.declared.kind.Kind.TheVariants as kinds
use Rattle.gix_object_lookup.specs.Table.{Object, Table}
use Rattle.gix_object_tag.proofs.OnePart.{one_id}
use Rattle.gix_ref_store.specs.Peels.{IsLost, IsPlain, LeadsOver, NamesNone, TagNames}
use Rattle.gix_ref_transaction.specs.Repacking.{TellsPeeled}
use Rattle.history_model.specs.Bytes.{Bytes, line}
use Rattle.history_model.specs.Forms.{HasForm, is_actor, is_id, is_tag_name}
use Rattle.history_model.specs.Objects.{CommitValue, TagValue, Value, StoredBytes, StoredCommit, StoredFolder, StoredTag, actor_text, content_of, hex, object_kind}
use Rattle.history_model.specs.Repository.{Repository, as_commit, id_at, is_tag, is_tag_value, peeled, peeled_value}
use Rattle.history_model.specs.laws.Wholeness.{IsSound}
use Rattle.history_model.proofs.IdLemmas.{has_kind, length-hex, one_id as same_id}
use Rattle.history_model.proofs.OnePairLines.{six_parts}
use Rattle.history_texts.proofs.CommitTexts.{id_formed}
use Rattle.history_edits.specs.PackPlans.{IsTableOf, PeelsWhole}
use Rattle.history_edits.proofs.PackPlanned.{target_id}

-- ---- the first line of a tag

-- two texts of one length before what follows them
same_front : (a b x y : Bytes) → length a ≡ length b → a ++ x ≡ b ++ y → (a ≡ b) × (x ≡ y)
same_front [] [] x y len is = (refl, is)
same_front [] (c ∷ b) x y len is = cc
same_front (c ∷ a) [] x y len is = cc
same_front (c ∷ a) (d ∷ b) x y len is =
    let rest = same_front a b x y (ap pred len) (ap (λ (t : Bytes). drop 1 t) is) in
    let first : c ≡ d = cc in
    ((λ i. first i ∷ rest.0 i), rest.1)

-- what follows the word and the space
abbrev cut : Bytes → Bytes
cut text = drop 7 text

module _ (kind : hash.Kind) (target : Id) (rest : Bytes) (formed : is_id kind target ≡ true) where
  abbrev content : Bytes
  content = codes "object" ++ 32 ∷ (hex target ++ 10 ∷ []) ++ rest

  own : IsHex (hex_len kind) (hex target)
  own = id_formed kind target formed

  own_id : IsHexOfId (hex target) target
  own_id = record {
    whole = length-hex target ∙ (has_kind kind target formed).whole ∙ ap hex_len (sym (has_kind kind target formed).of_kind);
    spelled = hex_text-IsHexOf target.digits (has_kind kind target formed).digits;
  }

  -- it names this id alone
  names_it : (digits after : Bytes) (next : Id) → content ≡ hex_line (codes "object") digits ++ after → length digits ≡ hex_len kind → IsHexOfId digits next → next ≡ target
  names_it digits after next is len spelled =
      let whole : hex target ++ (10 ∷ [] ++ rest) ≡ digits ++ (10 ∷ [] ++ after) = sym (append_assoc (hex target) (10 ∷ []) rest) ∙ ap cut is ∙ append_assoc digits (10 ∷ []) after in
      let same = (same_front (hex target) digits (10 ∷ rest) (10 ∷ after) (own.0 ∙ sym len) whole).0 in
      one_id digits next target spelled (subst (λ t. IsHexOfId t target) same own_id)

  -- and has no fault
  names_one : (error : decode.Error) → HexLineFault (codes "object") (hex_len kind) content error → ⊥
  names_one FieldName none = none ((hex target ++ 10 ∷ []) ++ rest) refl
  names_one HexDigits (back, is, none) = none (hex target) (10 ∷ rest) own (sym (ap cut is) ∙ append_assoc (hex target) (10 ∷ []) rest)
  names_one LineEnd (digits, back, is, its, none) =
      let whole : hex target ++ (10 ∷ [] ++ rest) ≡ digits ++ back = sym (append_assoc (hex target) (10 ∷ []) rest) ∙ ap cut is in
      none rest (sym (same_front (hex target) digits (10 ∷ rest) back (own.0 ∙ sym its.0) whole).1)
  names_one InvalidActor none = none
  names_one InvalidTime none = none
  names_one Memory none = none

-- ---- the table

none_there : {A : Type 0} → false ≡ true → A
none_there e = cc

none_some : {A X : Type 0} {x : X} → None ≡ Some x → A
none_some e = cc

module _ (r : Repository) (table : Table) (sound : IsSound r) (are : IsTableOf r table) where
  abbrev object : Value → Object
  object value = record { kind = object_kind value; content = content_of r.kind value }

  there : (id : Id) (value : Value) → get r.objects id ≡ Some value → table id ≡ Some (object value)
  there id value at = are id ∙ ap (option_map (λ (v : Value). object v)) at

  no_tag : {A : Type 0} → kinds.Commit ≡ kinds.Tag → A
  no_tag e = cc

  no_tag_there : {A : Type 0} (id : Id) (commit : CommitValue) (bytes : Bytes) → get r.objects id ≡ Some (StoredCommit commit) → table id ≡ Some (record { kind = kinds.Tag; content = bytes }) → A
  no_tag_there id commit bytes at stands = no_tag (ap (λ (o : Object). o.kind) (same_Some (object (StoredCommit commit)) (record { kind = kinds.Tag; content = bytes }) (sym (there id (StoredCommit commit) at) ∙ stands)))

  -- of a commit nothing leads on
  commit_ends : (id : Id) (commit : CommitValue) → get r.objects id ≡ Some (StoredCommit commit) → (next : Id) → TagNames table id next → ⊥
  commit_ends id commit at next (bytes, digits, after, stands, spells, is) = no_tag_there id commit bytes at stands

  commit_names : (id : Id) (commit : CommitValue) → get r.objects id ≡ Some (StoredCommit commit) → NamesNone table id → ⊥
  commit_names id commit at (bytes, error, stands, why) = no_tag_there id commit bytes at stands

  commit_leads : (id : Id) (commit : CommitValue) → get r.objects id ≡ Some (StoredCommit commit) → (tags : List Id) (end : Id) → LeadsOver table id tags end → (id ≡ end) × (tags ≡ [])
  commit_leads id commit at [] end leads = (leads, refl)
  commit_leads id commit at (tag ∷ tags) end (is, (next, names, more)) = absurd (commit_ends id commit at next names)

  module _ (id : Id) (tag : TagValue) (at : get r.objects id ≡ Some (StoredTag tag)) (of_kind : id.kind ≡ r.kind) where
    abbrev rest : Bytes
    rest = line (codes "type commit") ++ (line (codes "tag " ++ tag.name) ++ (line (codes "tagger " ++ actor_text tag.tagger) ++ (line [] ++ tag.message)))

    formed : is_id r.kind tag.target ≡ true
    formed = tag_formed (sound.written.values id (StoredTag tag) at).0
      where
        tag_formed : HasForm r.kind (StoredTag tag) → is_id r.kind tag.target ≡ true
        tag_formed form = (and_parts (is_id r.kind tag.target) (is_tag_name tag.name) (and_parts _ (is_actor tag.tagger) (and_parts _ _ (and_parts _ _ form).0).0).0).0

    text_of : (bytes : Bytes) → table id ≡ Some (record { kind = kinds.Tag; content = bytes }) → bytes ≡ codes "object" ++ 32 ∷ (hex tag.target ++ 10 ∷ []) ++ rest
    text_of bytes stands = ap (λ (o : Object). o.content) (same_Some (record { kind = kinds.Tag; content = bytes }) (object (StoredTag tag)) (sym stands ∙ there id (StoredTag tag) at))
        ∙ six_parts (line (codes "object " ++ hex tag.target)) (line (codes "type commit")) (line (codes "tag " ++ tag.name)) (line (codes "tagger " ++ actor_text tag.tagger)) (line []) tag.message

    commit_there : (commit : CommitValue) × (get r.objects tag.target ≡ Some (StoredCommit commit))
    commit_there = go (get r.objects tag.target) refl (sound.whole.store.closed id (StoredTag tag) at)
      where
        go : (o : Option Value) → get r.objects tag.target ≡ o → IsSome (option_and_then as_commit o) → (commit : CommitValue) × (get r.objects tag.target ≡ Some (StoredCommit commit))
        go None e h = cc
        go (Some (StoredCommit commit)) e h = (commit, e)
        go (Some (StoredTag other)) e h = cc
        go (Some (StoredBytes bytes)) e h = cc
        go (Some (StoredFolder files)) e h = cc

    tag_names : (next : Id) → TagNames table id next → next ≡ tag.target
    tag_names next (bytes, digits, after, stands, spells, is) =
        names_it r.kind tag.target rest formed digits after next (sym (text_of bytes stands) ∙ spells.spelled) (spells.hex.0 ∙ ap hex_len of_kind) is

    tag_named : NamesNone table id → ⊥
    tag_named (bytes, error, stands, why) =
        names_one r.kind tag.target rest formed error (subst (λ k. HexLineFault (codes "object") (hex_len k) (codes "object" ++ 32 ∷ (hex tag.target ++ 10 ∷ []) ++ rest) error) of_kind
        (subst (λ t. HexLineFault (codes "object") (hex_len id.kind) t error) (text_of bytes stands) why))

    -- a tag leads to itself, and to its commit
    tag_leads : (tags : List Id) (end : Id) → LeadsOver table id tags end → ((id ≡ end) × (tags ≡ [])) ⊎ ((end ≡ tag.target) × (tags ≡ id ∷ []))
    tag_leads [] end leads = inl (leads, refl)
    tag_leads (first ∷ tags) end (is, (next, names, more)) =
        let to = tag_names next names in
        let ends = commit_leads tag.target commit_there.0 commit_there.1 tags end (subst (λ n. LeadsOver table n tags end) to more) in
        inr (sym ends.0, (λ i. is i ∷ ends.1 i))

    apart : tag.target ≢ id
    apart same = other_value (same_Some (StoredTag tag) (StoredCommit commit_there.0) (sym at ∙ ap (get r.objects) (sym same) ∙ commit_there.1))
      where
        other_value : StoredTag tag ≡ StoredCommit commit_there.0 → ⊥
        other_value e = none_there (sym (ap is_tag_value e))

    not_plain : IsPlain table id → ⊥
    not_plain (it, stands, no_tag) = no_tag (ap (λ (o : Object). o.kind) (same_Some it (object (StoredTag tag)) (sym stands ∙ there id (StoredTag tag) at)))

    peels_tag : (told : Option Id) → TellsPeeled table id told → told ≡ Some tag.target
    peels_tag None (tags, leads, plain) = absurd (not_plain plain)
    peels_tag (Some end) ((tags, leads, plain), other) = elim (tag_leads tags end leads) [
      | inl (same, none) ↦ absurd (other (sym same))
      | inr (to, one) ↦ ap Some to
    ]

    tag_found : (end : Id) → IsLost table id end → ⊥
    tag_found end (tags, leads, why) = elim (tag_leads tags end leads) [
      | inl (same, none) ↦ lost_here same none why
      | inr (to, one) ↦ lost_there to one why
    ]
      where
        lost_here : id ≡ end → tags ≡ [] → (table end ≡ None) ⊎ (NamesNone table end ⊎ (list_any (id_eq end) tags ≡ true)) → ⊥
        lost_here same none (inl away) = none_some (sym away ∙ ap table (sym same) ∙ there id (StoredTag tag) at)
        lost_here same none (inr (inl names)) = tag_named (subst (NamesNone table) (sym same) names)
        lost_here same none (inr (inr again)) = cc (sym again ∙ ap (list_any (id_eq end)) none)

        lost_there : end ≡ tag.target → tags ≡ id ∷ [] → (table end ≡ None) ⊎ (NamesNone table end ⊎ (list_any (id_eq end) tags ≡ true)) → ⊥
        lost_there to one (inl away) = none_some (sym away ∙ ap table to ∙ there tag.target (StoredCommit commit_there.0) commit_there.1)
        lost_there to one (inr (inl names)) = commit_names tag.target commit_there.0 commit_there.1 (subst (NamesNone table) to names)
        lost_there to one (inr (inr again)) = go (id_eq end id) refl (sym (ap (list_any (id_eq end)) one) ∙ again)
          where
            go : (b : Bool) → id_eq end id ≡ b → (b || false) ≡ true → ⊥
            go true is h = apart (sym to ∙ same_id end id is)
            go false is h = cc

  -- ---- the id of a name

  module _ (name : Bytes) (id : Id) (holds : id_at r name ≡ Some id) where
    of_kind : id.kind ≡ r.kind
    of_kind = (has_kind r.kind id (target_id r sound.written name id holds)).of_kind

    stored : (value : Value) × (get r.objects id ≡ Some value) × (IsSome (peeled_value id value))
    stored = go (get r.objects id) refl (sound.whole.names.held name id holds)
      where
        go : (o : Option Value) → get r.objects id ≡ o → IsSome (option_and_then (peeled_value id) o) → (value : Value) × (get r.objects id ≡ Some value) × (IsSome (peeled_value id value))
        go None e h = cc
        go (Some value) e h = (value, e, h)

    said : (value : Value) → get r.objects id ≡ Some value → cond (is_tag r id) (peeled r id) None ≡ cond (is_tag_value value) (peeled_value id value) None
    said value at = ap (λ o. cond (unwrap_or (option_map is_tag_value o) false) (option_and_then (peeled_value id) o) None) at

    peels_id : (value : Value) → get r.objects id ≡ Some value → IsSome (peeled_value id value) → (told : Option Id) → TellsPeeled table id told → told ≡ cond (is_tag_value value) (peeled_value id value) None
    peels_id (StoredCommit commit) at some None tells = refl
    peels_id (StoredCommit commit) at some (Some end) ((tags, leads, plain), other) = absurd (other (sym (commit_leads id commit at tags end leads).0))
    peels_id (StoredTag tag) at some told tells = peels_tag id tag at of_kind told tells
    peels_id (StoredBytes bytes) at some told tells = cc
    peels_id (StoredFolder files) at some told tells = cc

    found_id : (value : Value) → get r.objects id ≡ Some value → IsSome (peeled_value id value) → (end : Id) → IsLost table id end → ⊥
    found_id (StoredCommit commit) at some end (tags, leads, why) = lost (commit_leads id commit at tags end leads) why
      where
        lost : (id ≡ end) × (tags ≡ []) → (table end ≡ None) ⊎ (NamesNone table end ⊎ (list_any (id_eq end) tags ≡ true)) → ⊥
        lost (same, none) (inl away) = none_some (sym away ∙ ap table (sym same) ∙ there id (StoredCommit commit) at)
        lost (same, none) (inr (inl names)) = commit_names id commit at (subst (NamesNone table) (sym same) names)
        lost (same, none) (inr (inr again)) = cc (sym again ∙ ap (list_any (id_eq end)) none)
    found_id (StoredTag tag) at some end lost = tag_found id tag at of_kind end lost
    found_id (StoredBytes bytes) at some end lost = none_there some
    found_id (StoredFolder files) at some end lost = none_there some

pub peels_whole : PeelsWhole
peels_whole r table sound are = record {
  peels = λ name id holds told tells. let it = stored r table sound are name id holds in peels_id r table sound are name id holds it.0 it.1 it.2 told tells ∙ sym (said r table sound are name id holds it.0 it.1);
  found = λ name id holds end lost. let it = stored r table sound are name id holds in found_id r table sound are name id holds it.0 it.1 it.2 end lost;
}
