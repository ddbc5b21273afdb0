-- What the objects of a whole store name is stored, in the kind that they say.
use Rattle.std.proofs.Common.{◌≡◌, true, ◌∷◌, [], List, map, refl, sym, ◌∙◌, ap, subst, inl, inr, Some}
use Rattle.std.specs.FinMap.{get}
use Rattle.gix_hash.specs.Id.{Id}
use Rattle.gix_hash.specs.Kind.{hex_len}
use Rattle.gix_hash.specs.declared.kind.Kind.{Kind}
use Rattle.gix_object_commit.specs.Commit.{SpellsCommit, commit_text}
use Rattle.gix_object_commit.proofs.Once.{spells_once}
use Rattle.gix_object_tree.proofs.TreeLaws.{one_tree}
use Rattle.gix_object_lines.specs.declared.kind.Kind.TheVariants as kinds
use Rattle.history_files.proofs.Items.{items, items_spelled}
use Rattle.history_files.proofs.Unfolded.{plain_map}
use Rattle.history_model.specs.FileMap.{FileMap, IsFileMap}
use Rattle.history_model.specs.Forms.{HasForm, is_commit_form, is_tag_form}
use Rattle.history_model.specs.Objects.{CommitValue, StoredBytes, StoredCommit, StoredFolder, StoredTag, TagValue, Value, commit_content, content_of, folder_id, object_kind, root, tag_content, tree_text}
use Rattle.history_model.specs.Repository.{HoldsCommit, IsStored, IsWholeStore, Repository, Values, named_ids}
use Rattle.history_model.proofs.IdLemmas.{digest_is_id, hex_tells}
use Rattle.history_model.proofs.OnePairLines.{tag_same}
use Rattle.history_model.proofs.WholeGrowth.{has_stored, holds_value}
use Rattle.history_model.proofs.WholeLists.{In, all_in, of_map}
use Rattle.history_model.proofs.WholeRoots.{HasAll}
use Rattle.history_texts.specs.Written.{AreCommitParts, NamesByCommit, NamesByParts, NamesByTag, NamesByTree, NamesObjects, Naming, commit_parts, named_by_item}
use Rattle.history_texts.proofs.CommitTexts.{ids_tell, plain_spelled, value_forms, value_parts, value_spelled}
use Rattle.history_check_objects.specs.Opened.{store_of}
use Rattle.history_repository.proofs.Items.{entry_value, item_is}

module _ (kind : Kind) (stored : Values) (whole : IsWholeStore (store_of kind stored)) where
  abbrev r : Repository
  r = store_of kind stored

  -- what the value names is stored in this kind
  pub record IsNamed (v : Value) (naming : Naming) : Type 0 where
    pub value : Value
    pub at : get stored naming.0 ≡ Some value
    pub of_kind : object_kind value ≡ naming.1
    pub among : In naming.0 (named_ids kind v)

  of_commit : (commit : CommitValue) → is_commit_form kind commit ≡ true → (by : Id) → get stored by ≡ Some (StoredCommit commit)
      → (named : List Naming) → NamesByCommit kind (commit_content kind commit) named → (naming : Naming) → In naming named → IsNamed (StoredCommit commit) naming
  of_commit commit form by at named names naming i = go (subst (In naming) parts.named_are i)
    where
      parts : NamesByParts kind names.parts named
      parts = names.names

      are : AreCommitParts kind names.parts parts.tree parts.value
      are = parts.parts_are

      spelled : SpellsCommit (hex_len kind) (commit_content kind commit) (commit_parts parts.tree parts.value)
      spelled =
          let forms = value_forms kind parts.value are.form in
          subst (λ text. SpellsCommit (hex_len kind) text (commit_parts parts.tree parts.value)) (sym (names.text ∙ ap commit_text are.told))
          (plain_spelled kind parts.tree (parts.value).parents (parts.value).author (parts.value).committer (parts.value).message are.tree_is forms.parents forms.author forms.committer)

      same : commit_parts parts.tree parts.value ≡ value_parts kind commit
      same = spells_once (hex_len kind) (commit_content kind commit) (commit_parts parts.tree parts.value) (value_parts kind commit) spelled (value_spelled kind commit (commit_content kind commit) form refl)

      same_tree : parts.tree ≡ folder_id kind commit.files
      same_tree = hex_tells kind parts.tree (folder_id kind commit.files) are.tree_is (digest_is_id kind (tree_text (root kind commit.files))) (ap (λ p. p.tree) same)

      same_parents : (parts.value).parents ≡ commit.parents
      same_parents = ids_tell kind (parts.value).parents commit.parents (value_forms kind parts.value are.form).parents (value_forms kind commit form).parents (ap (λ p. p.parents) same)

      go : In naming ((parts.tree, kinds.Tree) ∷ map (λ parent. (parent, kinds.Commit)) (parts.value).parents) → IsNamed (StoredCommit commit) naming
      go (inl e) =
          let id = ap (λ (n : Naming). n.0) e ∙ same_tree in
          record {
            value = StoredFolder commit.files;
            at = ap (get stored) id ∙ (whole.closed by (StoredCommit commit) at).1;
            of_kind = sym (ap (λ (n : Naming). n.1) e);
            among = inl id;
          }
      go (inr j) =
          let from = of_map (λ parent. (parent, kinds.Commit)) naming (parts.value).parents j in
          let parent : In from.0 commit.parents = subst (In from.0) same_parents from.1 in
          let held = holds_value r from.0 (all_in (HoldsCommit r) commit.parents (whole.closed by (StoredCommit commit) at).0 from.0 parent) in
          record {
            value = StoredCommit held.0;
            at = ap (get stored) (ap (λ (n : Naming). n.0) from.2) ∙ held.1;
            of_kind = sym (ap (λ (n : Naming). n.1) from.2);
            among = inr (subst (λ q. In q commit.parents) (sym (ap (λ (n : Naming). n.0) from.2)) parent);
          }

  of_tag : (tag : TagValue) → is_tag_form kind tag ≡ true → (by : Id) → get stored by ≡ Some (StoredTag tag)
      → (named : List Naming) → NamesByTag kind (tag_content tag) named → (naming : Naming) → In naming named → IsNamed (StoredTag tag) naming
  of_tag tag form by at named names naming i = go (subst (In naming) names.named_are i)
    where
      same : (names.tag).target ≡ tag.target
      same = ap (λ (t : TagValue). t.target) (tag_same kind names.tag tag names.form form (sym names.text))

      go : In naming (((names.tag).target, kinds.Commit) ∷ []) → IsNamed (StoredTag tag) naming
      go (inl e) =
          let id = ap (λ (n : Naming). n.0) e ∙ same in
          let held = holds_value r tag.target (whole.closed by (StoredTag tag) at) in
          record {
            value = StoredCommit held.0;
            at = ap (get stored) id ∙ held.1;
            of_kind = sym (ap (λ (n : Naming). n.1) e);
            among = inl id;
          }
      go (inr j) = absurd j

  of_tree : (files : FileMap) → IsFileMap files → HasAll (IsStored r) files
      → (named : List Naming) → NamesByTree kind (root kind files) named → (naming : Naming) → In naming named → IsNamed (StoredFolder files) naming
  of_tree files fits all named names naming i =
      let from = of_map named_by_item naming names.items (subst (In naming) names.named_are i) in
      let same = one_tree kind (root kind files) names.items (items kind files) (names.written).0 (items_spelled kind files (plain_map files fits)) in
      let entry = entry_value kind stored whole files all from.0 (item_is kind files from.0 (subst (In from.0) same from.1)) in
      record {
        value = entry.value;
        at = ap (get stored) (ap (λ (n : Naming). n.0) from.2) ∙ entry.at;
        of_kind = entry.of_kind ∙ sym (ap (λ (n : Naming). n.1) from.2);
        among = subst (λ q. In q (named_ids kind (StoredFolder files))) (sym (ap (λ (n : Naming). n.0) from.2)) entry.among;
      }

  -- what a stored value's content names is stored, and the value names it
  pub named_value : (v : Value) → HasForm kind v → (by : Id) → get stored by ≡ Some v
      → (named : List Naming) → NamesObjects kind (object_kind v) (content_of kind v) named → (naming : Naming) → In naming named → IsNamed v naming
  named_value (StoredCommit commit) form by at named names naming i = of_commit commit form.0 by at named names naming i
  named_value (StoredTag tag) form by at named names naming i = of_tag tag form by at named names naming i
  named_value (StoredBytes bytes) form by at named names naming i = absurd (subst (In naming) names i)
  named_value (StoredFolder files) form by at named names naming i = of_tree files form.map (has_stored r whole by files at) named names naming i
