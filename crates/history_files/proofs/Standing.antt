-- The folders that exist before edits are made: those of a base, and those of files that are
-- grafted.
use Rattle.std.proofs.Common.{◌≡◌, Bool, true, false, cond, ◌&&◌, ◌||◌, List, [], ◌∷◌, ◌++◌, map, refl, sym, ◌∙◌, ap, subst, inl, inr, ◌⊎◌, Option, Some, None}
use Rattle.std.specs.Prelude.{Contains, IsFalse}
use Rattle.std.specs.List.{AllByRecursion, flat_map, list_any}
use Rattle.std.specs.FinMap.{entries, keys, get}
use Rattle.gix_hash.specs.Hasher.{empty_tree_text, id_of_message}
use Rattle.gix_hash.specs.Id.{Id, id_of, null_id}
use Rattle.gix_hash.specs.Order.{id_eq}
use Rattle.gix_hash.specs.declared.kind.Kind.{Kind}
use Rattle.gix_hash.specs.declared.kind.Kind.TheVariants.{Sha1}
use Rattle.gix_hash.proofs.EmptyObjects.{sha1-empty_tree}
use Rattle.gix_hash.specs.declared.object_id.ObjectId.{ObjectId}
use Rattle.gix_object_lookup.specs.Table.{Table}
use Rattle.gix_object_nodes.specs.Nodes.{leaf_in}
use Rattle.gix_object_nodes.specs.Files.{IsEmptyTree, Leaf, is_null}
use Rattle.gix_object_editor.specs.declared.tree.editor.state.Editor.{Editor}
use Rattle.history_model.specs.Bytes.{Bytes, is_empty}
use Rattle.history_model.specs.FileMap as model
use Rattle.history_model.specs.FileMap.{FileMap, IsFileMap, folders_of, inside}
use Rattle.history_model.specs.laws.Trees.{ComesFromFiles}
use Rattle.history_model.specs.Objects.{folder_id}
use Rattle.history_model.proofs.IdLemmas.{id_itself}
use Rattle.history_model.proofs.WholeItems.{Entry}
use Rattle.history_model.proofs.WholeLists.{In, all_in, clash, in_all, in_either, in_flat, in_left, in_map, in_right, one_passes, passes_one}
use Rattle.history_model.proofs.WholeRoots.{has_all}
use Rattle.history_model.proofs.WholeSteps.{contains_in, in_contains}
use Rattle.history_model.proofs.WholeStores.{get_in}
use Rattle.history_files.specs.Edits.{IsChange, IsGraft}
use Rattle.history_files.specs.Editing.{IsBase, NameEdits, Names, standing}
use Rattle.history_files.specs.Entries.{GraftsStand, found_leaf, is_file_mode, is_filename, is_folder_mode, names_only, other_folders, own_folders}
use Rattle.history_files.specs.Opening.{AreStanding, EditsFiles}
use Rattle.history_files.specs.Unfolding.{HasTrees, IsInTable}
use Rattle.history_files.specs.declared.edits.Change.{Change}
use Rattle.history_files.specs.declared.edits.Change.TheVariants.{Put, Remove, RemoveFile, Graft}
use Rattle.history_files.specs.declared.edits.Edit.{Edit}
use Rattle.history_files.specs.declared.found.Found.{Found}
use Rattle.history_files.specs.declared.found.Found.TheVariants.{File, Folder}
use Rattle.history_files.proofs.EmptyFiles.{empty_map}
use Rattle.history_files.proofs.Grafted.{source_files}
use Rattle.history_files.proofs.Handed.{IsInner}
use Rattle.history_files.proofs.Inside.{HasFile, file_inside, own_among}
use Rattle.history_files.proofs.Named.{GraftIn, base_inner, own_inner, own_trees}
use Rattle.history_files.proofs.Sources.{AFile, AFolder, Nothing, Source, some_file, source_of}
use Rattle.history_files.proofs.StandInEdits.{emptied}
use Rattle.std.proofs.lemmas.Bool.{and_from, and_parts}

has_keys : (m : FileMap) → HasFile m → is_empty (keys m) ≡ false
has_keys m (path, content, e) = go (keys m) (in_map (λ (x : Entry). x.0) (path, content) (entries m) (get_in m path content e))
  where
    go : (ks : List Bytes) → In path ks → is_empty ks ≡ false
    go [] i = absurd i
    go (k ∷ ks) i = refl

empty_tree_told : is_null (id_of_message Sha1 empty_tree_text) ≡ false
empty_tree_told = rw sha1-empty_tree refl

null_not_empty : IsEmptyTree (null_id Sha1) → ⊥
null_not_empty e = clash (ap is_null (sym e) ∙ id_itself (null_id Sha1)) empty_tree_told

-- ---- each folder that exists before

module _ (table : Table) (kind : Kind) where
  module _ (stands : List FileMap) (are : AreStanding table kind stands) (g : FileMap) (i : In g stands) where
    own_there : (h : FileMap) → In h (own_folders g) → In h stands
    own_there h j =
        contains_in stands h (all_in (Contains stands) (own_folders g) (all_in (λ folder. AllByRecursion (Contains stands) (own_folders folder)) stands are.closed g i) h j)

    pub stands_deeper : (name : Bytes) → HasFile (inside name g) → In (inside name g) stands
    stands_deeper name file = own_there (inside name g) (own_among g name file)

    pub stands_inner : IsInner kind table stands g
    stands_inner = record {
      map = all_in IsFileMap stands are.maps g i;
      has = has_all (IsInTable table kind) g (all_in (HasTrees table kind) stands are.trees g i);
      some = some_file g (all_in (λ folder. IsFalse (is_empty (keys folder))) stands are.some g i);
      within = λ h j. within h j;
    }
      where
        within : (h : FileMap) → (h ≡ g) ⊎ In h (own_folders g) → In h stands
        within h (inl e) = subst (λ x. In x stands) (sym e) i
        within h (inr j) = own_there h j

  pub base_standing : (files : FileMap) → IsFileMap files → AllByRecursion (HasTrees table kind) (own_folders files) → AreStanding table kind (own_folders files)
  base_standing files fits trees = record {
    maps = in_all IsFileMap (own_folders files) (λ g i. (inner g i).map);
    trees = trees;
    some = in_all (λ folder. IsFalse (is_empty (keys folder))) (own_folders files) (λ g i. has_keys g (inner g i).some);
    closed = in_all (λ folder. AllByRecursion (Contains (own_folders files)) (own_folders folder)) (own_folders files) (λ g i.
        in_all (Contains (own_folders files)) (own_folders g) (λ h j. in_contains (own_folders files) h ((inner g i).within h (inr j))));
  }
    where
      inner : (g : FileMap) → In g (own_folders files) → IsInner kind table (own_folders files) g
      inner = base_inner kind table files fits trees

  whole_standing : (other : FileMap) → IsFileMap other → HasTrees table kind other → is_empty (keys other) ≡ false → AreStanding table kind (folders_of other)
  whole_standing other fits trees some = record {
    maps = (fits, in_all IsFileMap (own_folders other) (λ g i. (inner g i).map));
    trees = (trees, own_trees kind table other fits trees);
    some = (some, in_all (λ folder. IsFalse (is_empty (keys folder))) (own_folders other) (λ g i. has_keys g (inner g i).some));
    closed = (
      in_all (Contains (folders_of other)) (own_folders other) (λ h j. in_contains (folders_of other) h (inr j)),
      in_all (λ folder. AllByRecursion (Contains (folders_of other)) (own_folders folder)) (own_folders other) (λ g i.
          in_all (Contains (folders_of other)) (own_folders g) (λ h j. in_contains (folders_of other) h ((inner g i).within h (inr j)))),
    );
  }
    where
      inner : (g : FileMap) → In g (own_folders other) → IsInner kind table (folders_of other) g
      inner = own_inner kind table other fits trees

  joined : (xs ys : List FileMap) → AreStanding table kind xs → AreStanding table kind ys → AreStanding table kind (xs ++ ys)
  joined xs ys a b = record {
    maps = both IsFileMap a.maps b.maps;
    trees = both (HasTrees table kind) a.trees b.trees;
    some = both (λ folder. IsFalse (is_empty (keys folder))) a.some b.some;
    closed = in_all (λ folder. AllByRecursion (Contains (xs ++ ys)) (own_folders folder)) (xs ++ ys) (λ g i. elim (in_either g xs ys i) [
      | inl j ↦ in_all (Contains (xs ++ ys)) (own_folders g) (λ h k. in_contains (xs ++ ys) h (in_left h xs ys (own_there xs a g j h k)))
      | inr j ↦ in_all (Contains (xs ++ ys)) (own_folders g) (λ h k. in_contains (xs ++ ys) h (in_right h xs ys (own_there ys b g j h k)))
    ]);
  }
    where
      both : (P : FileMap → Type 0) → AllByRecursion P xs → AllByRecursion P ys → AllByRecursion P (xs ++ ys)
      both P f g = in_all P (xs ++ ys) (λ x i. elim (in_either x xs ys i) [ inl j ↦ all_in P xs f x j | inr j ↦ all_in P ys g x j ])

  none_standing : AreStanding table kind []
  none_standing = record { maps = tt; trees = tt; some = tt; closed = tt }

  -- ---- those of edits

  one_standing : (path : Bytes) (change : Change) (one : model.Edit) → Names table kind path change one → AreStanding table kind (other_folders one)
  one_standing path (Put k id) one (bytes, e, same) = subst (λ x. AreStanding table kind (other_folders x)) (sym e) none_standing
  one_standing path Remove one e = subst (λ x. AreStanding table kind (other_folders x)) (sym e) none_standing
  one_standing path RemoveFile one e = subst (λ x. AreStanding table kind (other_folders x)) (sym e) none_standing
  one_standing path (Graft found) one (source, other, e, is) = subst (λ x. AreStanding table kind (other_folders x)) (sym e) (go (is_empty (keys other)) refl)
    where
      go : (b : Bool) → is_empty (keys other) ≡ b → AreStanding table kind (cond b [] (folders_of other))
      go true h = none_standing
      go false h = whole_standing other is.map is.trees h

  made_standing : (edits : List Edit) (made : List model.Edit) → NameEdits table kind edits made → AreStanding table kind (flat_map other_folders made)
  made_standing [] [] are = none_standing
  made_standing [] (one ∷ made) are = absurd are
  made_standing (edit ∷ edits) [] are = absurd are
  made_standing (edit ∷ edits) (one ∷ made) are = joined (other_folders one) (flat_map other_folders made) (one_standing edit.path.now edit.change one are.0) (made_standing edits made are.1)

  pub all_standing : (files : FileMap) → AreStanding table kind (own_folders files) → (edits : List Edit) (made : List model.Edit) → NameEdits table kind edits made → AreStanding table kind (standing files made)
  all_standing files base edits made are = joined (own_folders files) (flat_map other_folders made) base (made_standing edits made are)

  -- what is grafted comes from file maps
  pub come_from : (edits : List Edit) (made : List model.Edit) → NameEdits table kind edits made → AllByRecursion ComesFromFiles made
  come_from [] [] are = tt
  come_from [] (one ∷ made) are = absurd are
  come_from (edit ∷ edits) [] are = absurd are
  come_from (edit ∷ edits) (one ∷ made) are = (go edit.change are.0, come_from edits made are.1)
    where
      go : (change : Change) → Names table kind edit.path.now change one → ComesFromFiles one
      go (Put k id) (bytes, e, same) = subst ComesFromFiles (sym e) tt
      go Remove e = subst ComesFromFiles (sym e) tt
      go RemoveFile e = subst ComesFromFiles (sym e) tt
      go (Graft found) (source, other, e, is) = subst ComesFromFiles (sym e) is.map

  -- a grafted folder exists before
  pub graft_in : (stands : List FileMap) (path : Bytes) (found : Option Found) (one : model.Edit) → IsGraft table kind path found one → GraftsStand stands one → GraftIn kind stands (Graft found)
  graft_in stands path None one is stand = tt
  graft_in stands path (Some (File k id)) one is stand = tt
  graft_in stands path (Some (Folder id)) one (source, other, e, is) stand =
      go (source_of table kind source other (Some (Folder id)) is) (subst (GraftsStand stands) e stand)
    where
      whole_file : (s : Bytes) → HasFile (source_files s other) → HasFile other
      whole_file [] file = file
      whole_file (b ∷ s) (rest, content, at) = ((b ∷ s) ++ 47 ∷ rest, content, file_inside other (b ∷ s) rest content at)

      among : (s : Bytes) → HasFile (source_files s other) → In (source_files s other) (folders_of other)
      among [] file = inl refl
      among (b ∷ s) file = inr (own_among other (b ∷ s) file)

      there : HasFile (source_files source other) → AllByRecursion (Contains stands) (cond (is_empty (keys other)) [] (folders_of other)) → In (source_files source other) stands
      there file all =
          let those = subst (λ b. AllByRecursion (Contains stands) (cond b [] (folders_of other))) (has_keys other (whole_file source file)) all in
          contains_in stands (source_files source other) (all_in (Contains stands) (folders_of other) those (source_files source other) (among source file))

      go : Source kind source other (Some (Folder id)) → AllByRecursion (Contains stands) (cond (is_empty (keys other)) [] (folders_of other)) → (g : FileMap) × In g stands × (id_of id ≡ folder_id kind g)
      go (Nothing bad file none) all = cc
      go (AFile k x content bad same_kind same at file none) all = cc
      go (AFolder x is_it same file some) all = let one_id : id ≡ x = cc in (source_files source other, there some all, ap id_of one_id ∙ same)

  -- nor is it the tree without entries
  pub isnt_empty_tree : (path : Bytes) (found : Option Found) (one : model.Edit) → IsGraft table kind path found one → IsEmptyTree (found_leaf found).id → ⊥
  isnt_empty_tree path None one (source, other, e, is) empty = null_not_empty empty
  isnt_empty_tree path (Some (File k id)) one (source, other, e, is) empty = is.isnt_empty empty
  isnt_empty_tree path (Some (Folder id)) one (source, other, e, is) empty = is.isnt_empty empty

  pub change_in : (stands : List FileMap) (path : Bytes) (change : Change) (one : model.Edit) → IsChange table kind path change one → GraftsStand stands one → GraftIn kind stands change
  change_in stands path (Put k id) one is stand = tt
  change_in stands path Remove one is stand = tt
  change_in stands path RemoveFile one is stand = tt
  change_in stands path (Graft found) one is stand = graft_in stands path found one is stand

-- ---- grafted folders exist before

pub grafts_stand : (files : FileMap) (made : List model.Edit) → AllByRecursion (GraftsStand (standing files made)) made
grafts_stand files made = in_all (GraftsStand (standing files made)) made (λ one i.
    in_all (Contains (standing files made)) (other_folders one) (λ g j.
    in_contains (standing files made) g (in_right g (own_folders files) (flat_map other_folders made) (in_flat other_folders g one made i j))))

pub emptied_stand : (stands : List FileMap) (made : List model.Edit) → AllByRecursion (GraftsStand stands) made → AllByRecursion (GraftsStand stands) (map emptied made)
emptied_stand stands [] all = tt
emptied_stand stands (one ∷ made) all = (go one all.0, emptied_stand stands made all.1)
  where
    go : (one : model.Edit) → GraftsStand stands one → GraftsStand stands (emptied one)
    go (model.Put kind path bytes) h = tt
    go (model.Remove path) h = tt
    go (model.RemoveFile path) h = tt
    go (model.Graft path source other) h = h

-- ---- if more folders exist before

module _ (kind : Kind) (xs ys : List FileMap) (within : (g : FileMap) → In g xs → In g ys) (name : Bytes) (leaf : Leaf) where
  abbrev test : FileMap → Bool
  test folder = id_eq leaf.id (folder_id kind folder)

  more_names : names_only kind xs name leaf ≡ true → names_only kind ys name leaf ≡ true
  more_names h =
      let parts = and_parts (is_filename name) (is_file_mode leaf.mode || (is_folder_mode leaf.mode && (is_null leaf.id || list_any test xs))) h in
      and_from (is_filename name) (is_file_mode leaf.mode || (is_folder_mode leaf.mode && (is_null leaf.id || list_any test ys))) parts.0
      (go (is_file_mode leaf.mode) (is_folder_mode leaf.mode) (is_null leaf.id) parts.1)
    where
      go : (f m n : Bool) → (f || (m && (n || list_any test xs))) ≡ true → (f || (m && (n || list_any test ys))) ≡ true
      go true m n k = refl
      go false true true k = refl
      go false true false k = let one = one_passes test xs k in passes_one test ys one.0 (within one.0 one.1) one.2
      go false false n k = cc

-- an editor of a base's files, if more folders exist before
pub opened_among : {S : Type 0} (table : Table) (kind : Kind) (files : FileMap) (more : List FileMap) (editor : Editor S) → EditsFiles table kind (own_folders files) files editor → AreStanding table kind (own_folders files ++ more)
    → EditsFiles table kind (own_folders files ++ more) files editor
opened_among table kind files more editor can all = record {
  standing = all;
  unfolds = can.unfolds;
  each = λ i name s at. more_names kind (own_folders files) (own_folders files ++ more) (λ g j. in_left g (own_folders files) more j) name (leaf_in s) (can.each i name s at);
}

pub opened_with : {S : Type 0} (table : Table) (kind : Kind) (files : FileMap) (editor : Editor S) → EditsFiles table kind (own_folders files) files editor → (edits : List Edit) (made : List model.Edit) → NameEdits table kind edits made
    → EditsFiles table kind (standing files made) files editor
opened_with table kind files editor can edits made named =
    opened_among table kind files (flat_map other_folders made) editor can (all_standing table kind files can.standing edits made named)

pub base_map : (table : Table) (kind : Kind) (root : Option Id) (files : FileMap) → IsBase table kind root files → IsFileMap files
base_map table kind None files base = subst IsFileMap (sym base) empty_map
base_map table kind (Some root) files base = base.map
