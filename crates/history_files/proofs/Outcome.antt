-- What becomes of edits: the trees, or a value with the null id.
use Rattle.std.proofs.Common.{◌≡◌, ◌∙◌, sym, subst, true, false, List, [], ◌∷◌, ◌++◌, map, inl, inr, ◌⊎◌}
use Rattle.std.specs.List.{flat_map, list_all, list_any}
use Rattle.gix_hash.specs.Hasher.{empty_blob_text, id_of_message}
use Rattle.gix_hash.specs.Id.{id_of}
use Rattle.gix_hash.specs.declared.kind.Kind.{Kind}
use Rattle.gix_hash.specs.declared.object_id.ObjectId.{ObjectId}
use Rattle.gix_object_lookup.specs.Table.{Table}
use Rattle.gix_object_editor.specs.Editor.{EachEntryHas, IsAsRead, files_of}
use Rattle.gix_object_editor.specs.Entries.{PassesDown, Property}
use Rattle.gix_object_editor.specs.Stored.{HasStored}
use Rattle.gix_object_nodes.specs.Files.{Trees, is_null}
use Rattle.gix_object_editor.specs.declared.tree.editor.state.Editor.{Editor}
use Rattle.history_model.specs.Bytes.{Bytes}
use Rattle.history_model.specs.FileMap as model
use Rattle.history_model.specs.FileMap.{FileMap, IsFileMap, edited_by, folders_of, is_path, some_refused}
use Rattle.history_model.specs.laws.Trees.{EditsKeep, edit_path}
use Rattle.history_model.specs.Meaning.{put_bytes}
use Rattle.history_model.specs.Objects.{StoredFolder, folder_id}
use Rattle.history_model.proofs.WholeLists.{In, all_in, clash, in_left, in_map, in_right}
use Rattle.history_model.proofs.WholeSteps.{in_contains}
use Rattle.history_files.specs.Edits.{AreEdits, EditsMake, EditsPass}
use Rattle.history_files.specs.Editing.{AreEdited, AreGiven, HaveNull, HavePaths, NameEdits, Names, standing, values_of}
use Rattle.history_files.specs.Entries.{GraftsStand, MayBeMade, names_only}
use Rattle.history_files.specs.Handing.{HasWritten}
use Rattle.history_files.specs.Opening.{EditsFiles}
use Rattle.history_files.specs.StandIns.{puts_null, stand_in}
use Rattle.history_files.specs.Unfolding.{IsUnfolded}
use Rattle.history_files.specs.declared.edits.Change.{Change}
use Rattle.history_files.specs.declared.edits.Change.TheVariants.{Put, Remove, RemoveFile, Graft}
use Rattle.history_files.specs.declared.edits.Edit.{Edit}
use Rattle.history_files.specs.declared.trees.EditedFiles.{EditedFiles}
use Rattle.history_files.specs.declared.trees.EditedTree.{EditedTree}
use Rattle.history_files.proofs.GivenTrees.{none_null, written_trees}
use Rattle.history_files.proofs.Named.{GraftIn, may_be_made, passes_down, same_paths}
use Rattle.history_files.proofs.Parsed.{has_stored, trees_in}
use Rattle.history_files.proofs.Standing.{come_from, graft_in, grafts_stand, stands_deeper, stands_inner}
use Rattle.history_files.proofs.StandInEdits.{emptied, emptied_refused, empty_id, have_ids, named_edits, null_value, stand_in_edits}

pub have_paths : (table : Table) (kind : Kind) (edits : List Edit) (made : List model.Edit) → NameEdits table kind edits made → list_all (λ (edit : Edit). is_path edit.path.now) edits ≡ true → HavePaths made
have_paths table kind edits made named fine = sym (same_paths table kind edits made named) ∙ fine

pub no_paths : (table : Table) (kind : Kind) (edits : List Edit) (made : List model.Edit) → NameEdits table kind edits made → list_all (λ (edit : Edit). is_path edit.path.now) edits ≡ false → list_all (λ e. is_path (edit_path e)) made ≡ false
no_paths table kind edits made named bad = sym (same_paths table kind edits made named) ∙ bad

module _ {S : Type 0} (kind : Kind) (table : Table) (files : FileMap) (made : List model.Edit) (edits : List Edit) (named : NameEdits table kind edits made)
    (fine : list_all (λ (edit : Edit). is_path edit.path.now) edits ≡ true) (opened : Editor S) (map_is : IsFileMap files) (base : EditsFiles table kind (standing files made) files opened) where
  here : IsUnfolded kind files (files_of (trees_in table) opened)
  here = base.unfolds (trees_in table) (has_stored table)

  -- the edits were tested with another id in place of the null one
  pub put_null : list_any (λ (edit : Edit). puts_null edit.change) edits ≡ true → (tested : List Edit) (blank : ObjectId) → tested ≡ map (stand_in blank) edits → id_of blank ≡ id_of_message kind empty_blob_text
      → EditsPass table tested (λ trees. files_of trees opened) → HaveNull kind files made
  put_null null tested blank same is passes =
      let are = stand_in_edits table kind blank (is ∙ sym (empty_id kind)) edits made named in
      let pass = passes (trees_in table) kind files (map emptied made) (has_stored table) (subst (λ es. AreEdits table kind es (map emptied made)) (sym same) are) here in
      let value = null_value table kind edits made named null in
      record {
        paths = have_paths table kind edits made named fine;
        accepted = sym (emptied_refused files made) ∙ pass;
        value = value.0;
        among = in_contains (values_of files made) value.0 (in_left value.0 (flat_map put_bytes made) (map StoredFolder (folders_of (edited_by files made))) value.1);
        null = value.2;
      }

  module _ (keeps : EditsKeep) (none : list_any (λ (edit : Edit). puts_null edit.change) edits ≡ false) (read_before : IsAsRead (trees_in table) opened) (after : Editor S)
      (makes : EditsMake table edits (λ trees. files_of trees opened) (λ trees. files_of trees after)) (passes : EditsPass table edits (λ trees. files_of trees opened))
      (each : (has : Property) → PassesDown table has → MayBeMade has edits → EachEntryHas has opened → EachEntryHas has after)
      (read : (trees : Trees) → HasStored table trees → IsAsRead trees opened → IsAsRead trees after) (edited : EditedFiles) (written : HasWritten kind after edited) where
    are : AreEdits table kind edits made
    are = named_edits table kind edits made named none

    paths : HavePaths made
    paths = have_paths table kind edits made named fine

    accepted : some_refused files made ≡ false
    accepted = passes (trees_in table) kind files made (has_stored table) are here

    fits : IsFileMap (edited_by files made)
    fits = keeps files made map_is paths (come_from table kind edits made named)

    among_stands : (change : Change) (path : Bytes) (one : model.Edit) → Names table kind path change one → In one made → GraftIn kind (standing files made) change
    among_stands (Put k id) path one e i = tt
    among_stands Remove path one e i = tt
    among_stands RemoveFile path one e i = tt
    among_stands (Graft found) path one e i =
        graft_in table kind (standing files made) path found one e (all_in (GraftsStand (standing files made)) made (grafts_stand files made) one i)

    given : ((id_of edited.root ≡ folder_id kind (edited_by files made)) × AreGiven kind (standing files made) (edited_by files made) edited.trees.items)
        ⊎ ((tree : FileMap) × In tree (folders_of (edited_by files made)) × (is_null (folder_id kind tree) ≡ true) × (list_any (λ (k : EditedTree). is_null (id_of k.id)) edited.trees.items ≡ true))
    given =
        let stands = standing files made in
        let inner = stands_inner table kind stands base.standing in
        let down = passes_down kind stands table stands inner (stands_deeper table kind stands base.standing) in
        let all = each (names_only kind stands) down (may_be_made kind stands table edits made named paths among_stands) base.each in
        written_trees kind table stands inner after all (read (trees_in table) (has_stored table) read_before) (edited_by files made) fits
        (makes (trees_in table) kind files made (has_stored table) are here) edited written

    pub done : list_any (λ (k : EditedTree). is_null (id_of k.id)) edited.trees.items ≡ false → AreEdited kind files made edited
    done nonnull = elim given [
      | inl trees ↦ record { paths = paths; accepted = accepted; ids = have_ids table kind edits made named none; root = trees.0; trees = trees.1 }
      | inr null ↦ clash null.3 nonnull
    ]

    pub tree_null : list_any (λ (k : EditedTree). is_null (id_of k.id)) edited.trees.items ≡ true → HaveNull kind files made
    tree_null told = elim given [
      | inl trees ↦ clash told (none_null kind (trees.1.below ++ edited_by files made ∷ []) edited.trees.items trees.1.trees_are)
      | inr null ↦ record {
        paths = paths;
        accepted = accepted;
        value = StoredFolder null.0;
        among = in_contains (values_of files made) (StoredFolder null.0)
            (in_right (StoredFolder null.0) (flat_map put_bytes made) (map StoredFolder (folders_of (edited_by files made))) (in_map StoredFolder null.0 (folders_of (edited_by files made)) null.1));
        null = null.2;
      }
    ]
