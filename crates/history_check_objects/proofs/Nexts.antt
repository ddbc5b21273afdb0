-- An object of a tree whose links are stored is a value that is stored with the others.
use Rattle.std.proofs.Common.{◌≡◌, ℕ, ◌≤◌, Bool, true, false, cond, not, ◌&&◌, ◌||◌, List, [], ◌∷◌, map, length, refl, sym, ◌∙◌, ap, subst, inl, inr, Some, None, is_some, option_map, unwrap_or, bytes_eq}
use Rattle.std.specs.FinMap.{entries, get, insert, empty}
use Rattle.gix_hash.specs.Id.{Id, null_id}
use Rattle.gix_hash.specs.Order.{id_eq}
use Rattle.gix_hash.specs.declared.kind.Kind.{Kind}
use Rattle.gix_object_commit.specs.Commit.{commit_text}
use Rattle.gix_object_tree.specs.Entry.{Item}
use Rattle.gix_object_lines.specs.declared.kind.Kind.{Kind as ObjectKind}
use Rattle.gix_object_lines.specs.declared.kind.Kind.TheVariants as kinds
use Rattle.gix_ref_file.specs.Tree.{Tree}
use Rattle.history_model.specs.Bytes.{Bytes}
use Rattle.history_model.specs.FileMap.{FileMap, inside}
use Rattle.history_model.specs.Forms.{HasForm, IsWrittenValue, max_content, max_path}
use Rattle.history_model.specs.Meaning.{is_other, is_taken, some_taken, store_one}
use Rattle.history_model.specs.Objects.{CommitValue, Value, StoredCommit, StoredTag, StoredBytes, StoredFolder, commit_content, content_of, digest, empty_tree_id, id_of, object_kind, object_text, value_text}
use Rattle.history_model.specs.Places.{file_at, object_place}
use Rattle.history_model.specs.Repository.{HoldsCommit, IsStored, IsWholeStore, Repository, Values, first_branch}
use Rattle.history_model.proofs.IdLemmas.{digest_is_id, get_with_id, has_kind, one_id}
use Rattle.history_model.proofs.WholeTexts.{object_same}
use Rattle.history_model.proofs.PlaceLemmas.{text_itself, texts_apart}
use Rattle.history_check_objects.proofs.Empties.{root-empty}
use Rattle.history_model.proofs.WholeGrowth.{Coming, Fits, grown_whole, has_stored, value_holds}
use Rattle.history_model.proofs.WholeLists.{In, all_in, in_map}
use Rattle.history_model.proofs.WholeReads.{plain_written}
use Rattle.history_model.proofs.WholeRoots.{ArePlain, HasAll}
use Rattle.history_model.proofs.WholeStores.{near_stored}
use Rattle.history_texts.specs.Formats.{plain_parts}
use Rattle.history_texts.specs.ObjectTexts.{is_empty_tree, object_id}
use Rattle.history_texts.specs.Written.{AreCommitParts, IsWrittenTree, NamesByCommit, NamesByParts, NamesByTag, Naming, named_by_commit}
use Rattle.history_texts.proofs.CommitTexts.{content_of_parts}
use Rattle.history_check_objects.specs.Links.{AreReady, IsReady, Link, PathsWithin, link_by_item, plain_link}
use Rattle.history_check_objects.specs.Nexts.{IsObject, IsStoredNext, NextsAreStored, target_linked}
use Rattle.history_check_objects.specs.Opened.{AreInTree, store_of}
use Rattle.history_check_objects.specs.Stored.{target_of}
use Rattle.history_check_objects.proofs.Folders.{folder_made}
use Rattle.std.proofs.lemmas.Bool.{or_from}
use Rattle.std.proofs.lemmas.Option.{same_Some}

-- ---- values of a kind

folder_of_kind : (v : Value) → object_kind v ≡ kinds.Tree → (m : FileMap) × (v ≡ StoredFolder m)
folder_of_kind (StoredFolder m) e = (m, refl)
folder_of_kind (StoredCommit c) e = cc
folder_of_kind (StoredTag t) e = cc
folder_of_kind (StoredBytes b) e = cc

commit_of_kind : (v : Value) → object_kind v ≡ kinds.Commit → (c : CommitValue) × (v ≡ StoredCommit c)
commit_of_kind (StoredCommit c) e = (c, refl)
commit_of_kind (StoredFolder m) e = cc
commit_of_kind (StoredTag t) e = cc
commit_of_kind (StoredBytes b) e = cc

-- ---- ids that aren't taken

-- the empty tree's text is that of no other object
empty_told : (object : ObjectKind) (content : Bytes) → is_empty_tree object content ≡ bytes_eq (object_text kinds.Tree []) (object_text object content)
empty_told kinds.Tree [] = sym (text_itself (object_text kinds.Tree []))
empty_told kinds.Tree (b ∷ content) = sym (texts_apart (object_text kinds.Tree []) (object_text kinds.Tree (b ∷ content)) (λ same. let wrong = (object_same kinds.Tree kinds.Tree [] (b ∷ content) same).1 in absurd (cc wrong)))
empty_told kinds.Blob content = refl
empty_told kinds.Commit content = refl
empty_told kinds.Tag content = refl

has_map : (P Q : Value → Type 0) → ((v : Value) → P v → Q v) → (m : FileMap) → HasAll P m → HasAll Q m
has_map P Q f m h = record {
  itself = f (StoredFolder m) h.itself;
  folders = λ path content folder i j. f (StoredFolder (inside folder m)) (h.folders path content folder i j);
  bytes = λ path content i. f (StoredBytes content.bytes) (h.bytes path content i);
}

module _ (kind : Kind) (tree : Tree) (values : Values) (in_tree : AreInTree kind tree values) where
  abbrev r : Repository
  r = store_of kind values

  plain : (q : Id) (m : FileMap) → get values q ≡ Some (StoredFolder m) → ArePlain (entries m)
  plain q m at = plain_written m (((in_tree.sound).written q (StoredFolder m) at).0)

  -- all that a stored folder holds is stored or to come
  stored_comes : (vs : List Value) (q : Id) (m : FileMap) → get values q ≡ Some (StoredFolder m) → HasAll (Coming r vs) m
  stored_comes vs q m at = has_map (IsStored r) (Coming r vs) (λ v h. inr (near_stored kind values v h)) m (has_stored r (in_tree.sound).whole q m at)

  commit_held : (by : ObjectKind) (n : ℕ) (id : Id) → IsReady values by n (record { id = id; kind = kinds.Commit; name = 0 }) → HoldsCommit r id
  commit_held by n id ready = let found = commit_of_kind ready.value ready.of_kind in value_holds r id found.0 (ready.stored ∙ ap Some found.1)

  module _ (id : Id) (object : ObjectKind) (content : Bytes) (links : List Link) (is : IsObject kind tree id object content links) (none : get values id ≡ None) (n : ℕ) where
    module _ (v : Value) (of_kind : object_kind v ≡ object) (same : content_of kind v ≡ content) (form : HasForm kind v) (fits : Fits r (v ∷ []) v) (within : PathsWithin n v)
        (aims : target_of v ≡ target_linked object links) where
      text : value_text kind v ≡ object_text object content
      text = λ i. object_text (of_kind i) (same i)

      own : id_of kind v ≡ id
      own = ap (digest kind) text ∙ sym is.own

      own_kind : id.kind ≡ kind
      own_kind = ap (λ (q : Id). q.kind) is.own ∙ (has_kind kind (object_id kind object content) (digest_is_id kind (object_text object content))).of_kind

      others : not (is_empty_tree object content) ≡ is_other kind (value_text kind (StoredFolder empty)) v
      others = ap not (empty_told object content ∙ (λ i. bytes_eq (object_text kinds.Tree (sym (root-empty kind) i)) (sym text i)))

      unreserved : (id_eq (id_of kind v) (null_id kind) || (id_eq (id_of kind v) (empty_tree_id kind) && is_other kind (value_text kind (StoredFolder empty)) v)) ≡ false
      unreserved = (λ i. id_eq (own i) (null_id (sym own_kind i)) || (id_eq (own i) (empty_tree_id (sym own_kind i)) && sym others i)) ∙ is.free

      absent : get values (id_of kind v) ≡ None
      absent = ap (get values) own ∙ none

      free : some_taken kind values (v ∷ []) ≡ false
      free = or_from (is_taken kind values v) false
          (or_from (id_eq (id_of kind v) (null_id kind) || (id_eq (id_of kind v) (empty_tree_id kind) && is_other kind (value_text kind (StoredFolder empty)) v))
          (unwrap_or (option_map (is_other kind (value_text kind v)) (get values (id_of kind v))) false)
          unreserved (ap (λ o. unwrap_or (option_map (is_other kind (value_text kind v)) o) false) absent))
          refl

      objects_are : store_one kind values v ≡ insert values id v
      objects_are = ap (λ b. cond b values (insert values (id_of kind v) v)) (ap is_some absent) ∙ ap (λ q. insert values q v) own

      all_fit : (w : Value) → In w (v ∷ []) → Fits r (v ∷ []) w
      all_fit w (inl e) = subst (Fits r (v ∷ [])) (sym e) fits
      all_fit w (inr i) = absurd i

      whole : IsWholeStore (store_of kind (insert values id v))
      whole = subst (λ o. IsWholeStore (store_of kind o)) objects_are (grown_whole r (in_tree.sound).whole plain (v ∷ []) free all_fit empty first_branch)

      at_each : (P : Id → Value → Type 0) → P id v → ((q : Id) (w : Value) → get values q ≡ Some w → P q w) → (q : Id) (w : Value) → get (insert values id v) q ≡ Some w → P q w
      at_each P here there q w at = go (id_eq q id) refl (sym (get_with_id values id v q) ∙ at)
        where
          go : (b : Bool) → id_eq q id ≡ b → cond b (Some v) (get values q) ≡ Some w → P q w
          go true e h = subst (P q) (same_Some v w h) (subst (λ x. P x v) (sym (one_id q id e)) here)
          go false e h = there q w h

      stored_next : IsStoredNext kind tree values id object links n
      stored_next = record {
        value = v;
        of_kind = of_kind;
        target = aims;
        within = within;
        in_tree = record {
          sound = record {
            whole = whole;
            written = at_each (λ q w. IsWrittenValue kind w) (form, subst (λ c. length c ≤ max_content) (sym same) is.within) (in_tree.sound).written;
          };
          texts = at_each (λ q w. file_at tree (object_place q) ≡ Some (value_text kind w)) (is.stands ∙ ap Some (sym text)) in_tree.texts;
        };
      }

    bytes_next : object ≡ kinds.Blob → IsStoredNext kind tree values id object links n
    bytes_next e = stored_next (StoredBytes content) (sym e) refl tt tt tt (sym (ap (λ o. target_linked o links) e))

    tag_next : (named : List Naming) → NamesByTag kind content named → links ≡ map plain_link named → AreReady values object n links → object ≡ kinds.Tag → IsStoredNext kind tree values id object links n
    tag_next named names are ready e =
        let linked = are ∙ ap (map plain_link) names.named_are in
        let ready_links = subst (AreReady values object n) linked ready in
        stored_next (StoredTag names.tag) (sym e) (sym names.text) names.form (commit_held object n (names.tag).target ready_links.0) tt (sym (ap (λ o. target_linked o links) e ∙ ap (target_linked kinds.Tag) linked))

    commit_next : (named : List Naming) → NamesByCommit kind content named → links ≡ map plain_link named → AreReady values object n links → object ≡ kinds.Commit → IsStoredNext kind tree values id object links n
    commit_next named by are ready e = stored_next (StoredCommit commit) (sym e) content_is (parts.form, ((in_tree.sound).written tree_id (StoredFolder files) at).0) (parents_held, stored_comes (StoredCommit commit ∷ []) tree_id files at, plain tree_id files at) tt (sym (ap (λ o. target_linked o links) e))
      where
        names : NamesByParts kind by.parts named
        names = by.names

        parts : AreCommitParts kind by.parts names.tree names.value
        parts = names.parts_are

        tree_id : Id
        tree_id = names.tree

        ready_links : AreReady values object n (map plain_link (named_by_commit names.tree names.value))
        ready_links = subst (AreReady values object n) (are ∙ ap (map plain_link) names.named_are) ready

        folder : (m : FileMap) × ((ready_links.0).value ≡ StoredFolder m)
        folder = folder_of_kind (ready_links.0).value (ready_links.0).of_kind

        files : FileMap
        files = folder.0

        at : get values tree_id ≡ Some (StoredFolder files)
        at = (ready_links.0).stored ∙ ap Some folder.1

        commit : CommitValue
        commit = record names.value { files = files }

        content_is : commit_content kind commit ≡ content
        content_is =
            content_of_parts kind commit
            ∙ ap (λ q. commit_text (plain_parts q (names.value).parents (names.value).author (names.value).committer (names.value).message)) (sym ((in_tree.sound).whole.own_ids tree_id (StoredFolder files) at))
            ∙ ap commit_text (sym parts.told)
            ∙ sym by.text

        parents_held : (q : Id) → In q (names.value).parents → HoldsCommit r q
        parents_held q i = commit_held object n q
            (all_in (IsReady values object n) (map plain_link (map (λ parent. (parent, kinds.Commit)) (names.value).parents)) ready_links.1 (record { id = q; kind = kinds.Commit; name = 0 })
            (in_map plain_link (q, kinds.Commit) (map (λ parent. (parent, kinds.Commit)) (names.value).parents) (in_map (λ parent. (parent, kinds.Commit)) q (names.value).parents i)))

    tree_next : (items : List Item) → IsWrittenTree kind content items → links ≡ map link_by_item items → AreReady values object n links → n ≤ max_path → object ≡ kinds.Tree → IsStoredNext kind tree values id object links n
    tree_next items written are ready most e =
        let ready_links = subst (λ o. AreReady values o n (map link_by_item items)) e (subst (AreReady values object n) are ready) in
        let made = folder_made kind values n in_tree.sound content items written.1 (λ item i. all_in (IsReady values kinds.Tree n) (map link_by_item items) ready_links (link_by_item item) (in_map link_by_item item items i)) most in
        stored_next (StoredFolder made.0) (sym e) (made.1).text (made.1).written ((made.1).all, plain_written made.0 (made.1).written) (made.1).within (sym (ap (λ o. target_linked o links) e))

pub nexts_are_stored : NextsAreStored
nexts_are_stored kind tree values id kinds.Blob content links n in_tree is none ready most = bytes_next kind tree values in_tree id kinds.Blob content links is none n refl
nexts_are_stored kind tree values id kinds.Tag content links n in_tree is none ready most =
    let linked = is.linked in tag_next kind tree values in_tree id kinds.Tag content links is none n linked.0 linked.1 linked.2 ready refl
nexts_are_stored kind tree values id kinds.Commit content links n in_tree is none ready most =
    let linked = is.linked in commit_next kind tree values in_tree id kinds.Commit content links is none n linked.0 linked.1 linked.2 ready refl
nexts_are_stored kind tree values id kinds.Tree content links n in_tree is none ready most =
    let linked = is.linked in tree_next kind tree values in_tree id kinds.Tree content links is none n linked.0 linked.1 linked.2 ready most refl
