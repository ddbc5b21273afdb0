-- The folders whose trees edits give, as those that a commit is still to store.
use Rattle.std.proofs.Common.{◌≡◌, ◌⊎◌, inl, inr, refl, sym, ◌∙◌, ap, subst, Bool, true, false, cond, ◌||◌, List, [], ◌∷◌, ◌++◌, map, length, Option, Some, None, option_to_list}
use Rattle.std.specs.Prelude.{Contains}
use Rattle.std.specs.List.{AllByRecursion, list_any, flat_map}
use Rattle.std.specs.FinMap.{empty, get, keys, values}
use Rattle.gix_hash.specs.Id as object_id
use Rattle.gix_hash.specs.Id.{Id, null_id}
use Rattle.gix_hash.specs.Order.{id_eq}
use Rattle.gix_hash.specs.declared.kind.Kind.{Kind}
use Rattle.gix_object_lines.specs.declared.kind.Kind.TheVariants as kinds
use Rattle.history_model.specs.Bytes.{Bytes, by_bytes, is_empty}
use Rattle.history_model.specs.FileMap.{FileMap, Content, Edit, Graft, beginnings, folders_of, inside}
use Rattle.history_model.specs.Forms.{max_content}
use Rattle.history_model.specs.Objects.{Value, StoredCommit, StoredBytes, StoredFolder, content_of, digest, id_of, object_text, root, value_text}
use Rattle.history_model.specs.Repository.{Repository, HoldsCommit, IsStored, IsWholeStore, file_values}
use Rattle.history_model.specs.Commands.{Commit, CommitCommand, EditLine, PutLine, RemoveLine, RemoveFileLine, GraftLine}
use Rattle.history_model.specs.Words.{commit_of, word_meaning}
use Rattle.history_model.specs.Meaning.{edits_of, files_at, first_files, new_commit, parents_of, read_edit, some_taken, stored_by, takes_id}
use Rattle.history_layout.specs.Passing.{AreNewFolders}
use Rattle.history_layout.specs.TreeSteps.{HasText}
use Rattle.history_model.specs.laws.Wholeness.{IsSound}
use Rattle.history_model.proofs.IdLemmas.{digest_is_id, has_kind}
use Rattle.history_model.proofs.WholeLists.{In, all_in, in_left, in_either, in_map, of_flat, of_map, none_passes, one_passes, passes_one, clash}
use Rattle.history_model.proofs.WholeReads.{read_holds}
use Rattle.history_model.proofs.WholeSteps.{contains_in, in_contains}
use Rattle.history_model.proofs.WholeStores.{none_reserved}
use Rattle.history_model.proofs.WholeTexts.{text_same}
use Rattle.history_files.specs.Entries.{other_folders, own_folders}
use Rattle.history_files.specs.Editing.{AreGiven, AreTreesOf, HasTreeOf, HaveNull, standing, values_of}
use Rattle.history_files.specs.declared.trees.EditedTree.{EditedTree}
use Rattle.history_store.specs.Stores.{AreObjectsOf}
use Rattle.history_texts.specs.declared.object.NewObject.{NewObject}
use Rattle.history_plans.specs.CommitCauses.{is_long}
use Rattle.history_plans.specs.Plans.{is_long_tree, object_parts, tree_parts}
use Rattle.history_repository.proofs.Befores.{entries-empty, held_commit, held_files}
use Rattle.history_repository.proofs.FieldLemmas.{within}
use Rattle.history_model.proofs.PartLemmas.{head_same, tail_same}
use Rattle.std.proofs.lemmas.Bool.{or_from}

-- ---- lists

pub none_pass : {X : Type 0} (p : X → Bool) (xs : List X) → ((x : X) → In x xs → p x ≡ false) → list_any p xs ≡ false
none_pass p [] h = refl
none_pass p (x ∷ xs) h = or_from (p x) (list_any p xs) (h x (inl refl)) (none_pass p xs (λ y i. h y (inr i)))

-- ---- the folders that were stored before

module _ (r : Repository) (whole : IsWholeStore r) where
  -- each folder of a stored commit's files is stored
  folder_stood : (id : Id) → HoldsCommit r id → (g : FileMap) → In g (folders_of (files_at r id)) → IsStored r (StoredFolder g)
  folder_stood id holds g there =
      let held = held_commit r whole id holds in
      let files = held.0.files in
      let inner : In g (folders_of files) = subst (λ (m : FileMap). In g (folders_of m)) (held_files r whole id holds) there in
      let stored = (whole.closed id (StoredCommit held.0) held.1).1 in
      all_in (IsStored r) (file_values files) (whole.closed (id_of r.kind (StoredFolder files)) (StoredFolder files) stored) (StoredFolder g)
      (in_left (StoredFolder g) (map StoredFolder (folders_of files)) (map (λ (content : Content). StoredBytes content.bytes) (values files)) (in_map StoredFolder g (folders_of files) inner))

  -- so is each in the first commit's files
  stood : (ids : List Id) → AllByRecursion (HoldsCommit r) ids → (g : FileMap) → In g (own_folders (first_files r ids)) → IsStored r (StoredFolder g)
  stood [] hold g there = absurd (subst (λ (es : List (Bytes × Content)). In g (map (λ folder. inside folder (empty {R = by_bytes})) (flat_map beginnings (map (λ (e : Bytes × Content). e.0) es)))) entries-empty there)
  stood (id ∷ ids) hold g there = folder_stood id hold.0 g (inr there)

  -- and each of what is grafted
  line_stood : (line : EditLine) (g : FileMap) → In g (other_folders (read_edit r line)) → IsStored r (StoredFolder g)
  line_stood (PutLine kind path bytes) g there = absurd there
  line_stood (RemoveLine path) g there = absurd there
  line_stood (RemoveFileLine path) g there = absurd there
  line_stood (GraftLine path word source) g there = by_word (commit_of r word) refl there
    where
      by_keys : (id : Id) → commit_of r word ≡ Some id → (b : Bool) → In g (cond b [] (folders_of (files_at r id))) → IsStored r (StoredFolder g)
      by_keys id e true i = absurd i
      by_keys id e false i = folder_stood id (read_holds r whole (word_meaning r word) id e) g i

      by_word : (found : Option Id) → commit_of r word ≡ found → In g (other_folders (Graft path source (first_files r (option_to_list found)))) → IsStored r (StoredFolder g)
      by_word None e i =
          absurd (subst (λ (es : List (Bytes × Content)). In g (cond (is_empty (map (λ (e : Bytes × Content). e.0) es)) [] (folders_of (empty {R = by_bytes})))) entries-empty i)
      by_word (Some id) e i = by_keys id e (is_empty (keys (files_at r id))) i

  module _ (ids : List Id) (hold : AllByRecursion (HoldsCommit r) ids) (lines : List EditLine) where
    -- the folders before the edits
    abbrev stands : List FileMap
    stands = standing (first_files r ids) (map (read_edit r) lines)

    each_stood : (g : FileMap) → In g stands → IsStored r (StoredFolder g)
    each_stood g there = elim (in_either g (own_folders (first_files r ids)) (flat_map other_folders (map (read_edit r) lines)) there) [
      | inl a ↦ stood ids hold g a
      | inr b ↦
          let from = of_flat other_folders g (map (read_edit r) lines) b in
          let line = of_map (read_edit r) from.0 lines from.1 in
          line_stood line.0 g (subst (λ (edit : Edit). In g (other_folders edit)) line.2 from.2)
    ]

    has_text : (folder : FileMap) → HasTreeOf r.kind stands folder → HasText r.kind r.objects (StoredFolder folder)
    has_text folder h =
        let same : value_text r.kind (StoredFolder h.0) ≡ value_text r.kind (StoredFolder folder) = ap (object_text kinds.Tree) h.2 in
        (StoredFolder h.0, ap (λ text. get r.objects (digest r.kind text)) (sym same) ∙ each_stood h.0 (contains_in stands h.0 h.1), same)

    comes : (given : List FileMap) (folder : FileMap) → Contains given folder ⊎ HasTreeOf r.kind stands folder → Contains given folder ⊎ HasText r.kind r.objects (StoredFolder folder)
    comes given folder (inl a) = inl a
    comes given folder (inr b) = inr (has_text folder b)

    pub new_folders : (files : FileMap) (trees : List EditedTree) (given : AreGiven r.kind stands files trees) → AreNewFolders r files (given.below ++ files ∷ [])
    new_folders files trees given = record {
      among = λ folder there. elim (in_either folder given.below (files ∷ []) (contains_in (given.below ++ files ∷ []) folder there)) [
        | inl a ↦ all_in (Contains (folders_of files)) given.below given.own folder a
        | inr (inl e) ↦ in_contains (folders_of files) folder (inl e)
        | inr (inr e) ↦ absurd e
      ];
      all = λ folder there. comes (given.below ++ files ∷ []) folder
          (all_in (λ folder. Contains (given.below ++ files ∷ []) folder ⊎ HasTreeOf r.kind stands folder) (folders_of files)
          (given.in_order given.below [] files refl) folder (contains_in (folders_of files) folder there));
      in_order = λ before after folder inner split there. comes (before ++ folder ∷ []) inner
          (all_in (λ folder'. Contains (before ++ folder ∷ []) folder' ⊎ HasTreeOf r.kind stands folder') (folders_of folder)
          (given.in_order before after folder split) inner (contains_in (folders_of folder) inner there));
    }

-- ---- their trees

trees_long : (kind : Kind) (folders : List FileMap) (trees : List EditedTree) → AreTreesOf kind folders trees → list_any is_long_tree trees ≡ list_any (λ m. is_long (root kind m)) folders
trees_long kind [] [] are = refl
trees_long kind [] (tree ∷ trees) are = absurd are
trees_long kind (m ∷ folders) [] are = absurd are
trees_long kind (m ∷ folders) (tree ∷ trees) are = λ i. is_long (are.0.content i) || trees_long kind folders trees are.1 i

-- so they are the objects of these folders
parts_are : {A B C : Type 0} {a d : A} {b e : B} {c f : C} → ◌≡◌ {A = A × B × C} (a, b, c) (d, e, f) → (a ≡ d) × (b ≡ e) × (c ≡ f)
parts_are {A} {B} {C} same = (ap (λ (x : A × B × C). x.0) same, ap (λ (x : A × B × C). x.1) same, ap (λ (x : A × B × C). x.2) same)

pub trees_put : (kind : Kind) (values : List Value) (folders : List FileMap) (blobs objects : List NewObject) (trees : List EditedTree)
    → AreObjectsOf kind values blobs → AreTreesOf kind folders trees → map object_parts objects ≡ map object_parts blobs ++ map tree_parts trees → AreObjectsOf kind (values ++ map StoredFolder folders) objects
trees_put kind [] [] [] [] [] first second is = tt
trees_put kind [] [] [] (object ∷ objects) [] first second is = absurd (cc is)
trees_put kind [] [] [] objects (tree ∷ trees) first second is = absurd second
trees_put kind [] (m ∷ folders) [] objects [] first second is = absurd second
trees_put kind [] (m ∷ folders) [] [] (tree ∷ trees) first second is = absurd (cc is)
trees_put kind [] (m ∷ folders) [] (object ∷ objects) (tree ∷ trees) first second is =
    let same = parts_are (head_same is) in (
      record { id = ap object_id.id_of same.0 ∙ second.0.id; kind = same.1; content = same.2 ∙ second.0.content },
      trees_put kind [] folders [] objects trees tt second.1 (tail_same is),
    )
trees_put kind [] folders (blob ∷ blobs) objects trees first second is = absurd first
trees_put kind (value ∷ values) folders [] objects trees first second is = absurd first
trees_put kind (value ∷ values) folders (blob ∷ blobs) [] trees first second is = absurd (cc is)
trees_put kind (value ∷ values) folders (blob ∷ blobs) (object ∷ objects) trees first second is =
    let same = parts_are (head_same is) in (
      record { id = ap object_id.id_of same.0 ∙ first.0.id; kind = same.1 ∙ first.0.kind; content = same.2 ∙ first.0.content },
      trees_put kind values folders blobs objects trees first.1 second (tail_same is),
    )

-- ---- their sizes

-- the contents of the trees of all folders
abbrev pub contents : Repository → FileMap → List Bytes
contents r files = map (content_of r.kind) (map StoredFolder (folders_of files))

module _ (r : Repository) (sound : IsSound r) (files : FileMap) (folders : List FileMap) (trees : List EditedTree) (new : AreNewFolders r files folders) (are : AreTreesOf r.kind folders trees) where
  pub some_long : list_any is_long_tree trees ≡ true → list_any is_long (contents r files) ≡ true
  some_long h =
      let one = one_passes (λ m. is_long (root r.kind m)) folders (sym (trees_long r.kind folders trees are) ∙ h) in
      passes_one is_long (contents r files) (root r.kind one.0) (in_map (content_of r.kind) (StoredFolder one.0) (map StoredFolder (folders_of files))
      (in_map StoredFolder one.0 (folders_of files) (contains_in (folders_of files) one.0 (new.among one.0 (in_contains folders one.0 one.1))))) one.2

  each_short : list_any is_long_tree trees ≡ false → (m : FileMap) → In m (folders_of files) → is_long (root r.kind m) ≡ false
  each_short h m i = elim (new.all m (in_contains (folders_of files) m i)) [
    | inl a ↦ none_passes (λ m. is_long (root r.kind m)) folders (sym (trees_long r.kind folders trees are) ∙ h) m (contains_in folders m a)
    | inr b ↦
        let same : content_of r.kind b.0 ≡ root r.kind m = (text_same r.kind b.0 (StoredFolder m) b.2).1 in
        ap is_long (sym same) ∙ within max_content (length (content_of r.kind b.0)) (sound.written.values (id_of r.kind (StoredFolder m)) b.0 b.1).1
  ]

  pub none_long : list_any is_long_tree trees ≡ false → list_any is_long (contents r files) ≡ false
  none_long h = none_pass is_long (contents r files) (λ text i.
      let as_value = of_map (content_of r.kind) text (map StoredFolder (folders_of files)) i in
      let as_folder = of_map StoredFolder as_value.0 (folders_of files) as_value.1 in
      ap is_long (as_value.2 ∙ ap (content_of r.kind) as_folder.2) ∙ each_short h as_folder.0 as_folder.1)

-- ---- the null id

pub null_taken : (r : Repository) (sent : CommitCommand) → HaveNull r.kind (first_files r (parents_of r sent)) (edits_of r sent) → takes_id r (Commit sent) ≡ true
null_taken r sent null = go (some_taken r.kind r.objects (stored_by r (Commit sent))) refl
  where
    go : (b : Bool) → some_taken r.kind r.objects (stored_by r (Commit sent)) ≡ b → b ≡ true
    go true e = refl
    go false e =
        let value = null.value in
        let id = id_of r.kind value in
        let among : In value (stored_by r (Commit sent)) = in_left value (values_of (first_files r (parents_of r sent)) (edits_of r sent)) (StoredCommit (new_commit r sent) ∷ [])
        (contains_in (values_of (first_files r (parents_of r sent)) (edits_of r sent)) value null.among) in
        let kind = (has_kind r.kind id (digest_is_id r.kind (value_text r.kind value))).of_kind in
        clash (ap (λ k. id_eq id (null_id k)) (sym kind) ∙ null.null) (none_reserved r.kind r.objects (stored_by r (Commit sent)) e value among).0
