-- Edits in a row, of which one isn't made.
use Rattle.std.proofs.Common.{◌≡◌, ◌∙◌, ap, sym, refl, true, false, Bool, ◌||◌, ◌&&◌, List, [], ◌∷◌, map}
use Rattle.std.specs.List.{AllByRecursion, list_all}
use Rattle.gix_hash.specs.declared.kind.Kind.{Kind}
use Rattle.gix_object_editor.specs.Editor.{EachEntryHas, files_of}
use Rattle.gix_object_editor.specs.Stored.{HasStored}
use Rattle.gix_object_nodes.specs.Files.{Trees}
use Rattle.gix_object_editor.specs.declared.tree.editor.state.Editor.{Editor}
use Rattle.gix_object_lookup.specs.Table.{Table}
use Rattle.history_model.specs.Bytes.{Bytes}
use Rattle.history_model.specs.FileMap as model
use Rattle.history_model.specs.FileMap.{FileMap, edited, is_path, is_refused, some_refused}
use Rattle.history_model.specs.laws.Trees.{edit_path}
use Rattle.history_files.specs.Edits.{AreEdits, IsChange, IsEdit}
use Rattle.history_files.specs.Editing.{EditsFault, HavePaths}
use Rattle.history_files.specs.Entries.{GraftsStand, names_only}
use Rattle.history_files.specs.Opening.{EditsFiles, MakingFault}
use Rattle.history_files.specs.Unfolding.{IsUnfolded}
use Rattle.history_files.specs.declared.edits.Change.{Change}
use Rattle.history_files.specs.declared.edits.Change.TheVariants.{Put, Remove, RemoveFile, Graft}
use Rattle.history_files.specs.declared.edits.Edit.{Edit}
use Rattle.history_files.specs.declared.edits.EditError.{EditError}
use Rattle.history_files.specs.declared.edits.EditError.TheVariants.{BadPath, IsFolder, NullId, EmptyTree, Failed, Broken, Memory}
use Rattle.history_files.proofs.StandInEdits.{emptied, emptied_refused}
use Rattle.std.proofs.lemmas.Bool.{and_parts}

-- what is left to do comes to the same
pub record IsLeftOver {S : Type 0} (table : Table) (kind : Kind) (stands : List FileMap) (files : FileMap) (made : List model.Edit) (edits : List Edit) (editor : Editor S) : Type 0 where
  pub now : FileMap
  pub more : List model.Edit
  pub can : EditsFiles table kind stands now editor
  pub paths : HavePaths more
  pub edits_are : AreEdits table kind edits more
  pub stand : AllByRecursion (GraftsStand stands) more
  pub refused : some_refused files made ≡ some_refused now more

made_path : (table : Table) (kind : Kind) (path : Bytes) (change : Change) (one : model.Edit) → IsChange table kind path change one → edit_path one ≡ path
made_path table kind path (Put k id) one (bytes, e, same, n) = ap edit_path e
made_path table kind path Remove one e = ap edit_path e
made_path table kind path RemoveFile one e = ap edit_path e
made_path table kind path (Graft found) one (source, other, e, is) = ap edit_path e

module _ {S : Type 0} (table : Table) (kind : Kind) (stands : List FileMap) (files : FileMap) (made : List model.Edit) (edit : Edit) (edits : List Edit) (editor : Editor S) where
  pub left_next : (new : Editor S) → IsLeftOver table kind stands files made (edit ∷ edits) editor
      → ((now : FileMap) (one : model.Edit) → EditsFiles table kind stands now editor → is_path edit.path.now ≡ true → IsEdit table kind edit one → GraftsStand stands one
      → ((trees : Trees) → HasStored table trees → IsUnfolded kind (edited now one) (files_of trees new)) × EachEntryHas (names_only kind stands) new × (is_refused now one ≡ false))
      → IsLeftOver table kind stands files made edits new
  left_next new left step = go left.more left.edits_are left.stand left.paths left.refused
    where
      go : (more : List model.Edit) → AreEdits table kind (edit ∷ edits) more → AllByRecursion (GraftsStand stands) more → HavePaths more → some_refused files made ≡ some_refused left.now more → IsLeftOver table kind stands files made edits new
      go [] are stand paths refused = absurd are
      go (one ∷ more) (first, others) stand paths refused =
          let both = and_parts (is_path (edit_path one)) (list_all (λ e. is_path (edit_path e)) more) paths in
          let next = step left.now one left.can (ap is_path (sym (made_path table kind edit.path.now edit.change one first)) ∙ both.0) first stand.0 in
          record {
            now = edited left.now one;
            more = more;
            can = record { standing = left.can.standing; unfolds = next.0; each = next.1 };
            paths = both.1;
            edits_are = others;
            stand = stand.1;
            refused = refused ∙ ap (λ b. b || some_refused (edited left.now one) more) next.2;
          }

  pub left_fault : (may_fail : Type 0) (error : EditError) → IsLeftOver table kind stands files made (edit ∷ edits) editor
      → ((now : FileMap) (one : model.Edit) → EditsFiles table kind stands now editor → is_path edit.path.now ≡ true → IsEdit table kind edit one → GraftsStand stands one → MakingFault may_fail now (one ∷ []) error)
      → MakingFault may_fail files made error
  left_fault may_fail error left fault = go left.more left.edits_are left.stand left.paths left.refused
    where
      one_refused : (now : FileMap) (one : model.Edit) (more : List model.Edit) (a : Bool) → is_refused now one ≡ a → (a || false) ≡ true → (is_refused now one || some_refused (edited now one) more) ≡ true
      one_refused now one more true e h = ap (λ b. b || some_refused (edited now one) more) e
      one_refused now one more false e h = cc

      turn : (now : FileMap) (one : model.Edit) (more : List model.Edit) → some_refused files made ≡ some_refused now (one ∷ more) → (err : EditError) → MakingFault may_fail now (one ∷ []) err → MakingFault may_fail files made err
      turn now one more refused BadPath h = absurd h
      turn now one more refused IsFolder h = refused ∙ one_refused now one more (is_refused now one) refl h
      turn now one more refused NullId h = absurd h
      turn now one more refused EmptyTree h = absurd h
      turn now one more refused Failed h = h
      turn now one more refused (Broken oid) h = absurd h
      turn now one more refused Memory h = tt

      go : (more : List model.Edit) → AreEdits table kind (edit ∷ edits) more → AllByRecursion (GraftsStand stands) more → HavePaths more → some_refused files made ≡ some_refused left.now more → MakingFault may_fail files made error
      go [] are stand paths refused = absurd are
      go (one ∷ more) (first, others) stand paths refused =
          let both = and_parts (is_path (edit_path one)) (list_all (λ e. is_path (edit_path e)) more) paths in
          turn left.now one more refused error (fault left.now one left.can (ap is_path (sym (made_path table kind edit.path.now edit.change one first)) ∙ both.0) first stand.0)

-- ---- of whole lists

pub making_fault : (may_fail : Type 0) (kind : Kind) (files : FileMap) (made : List model.Edit) → HavePaths made → (error : EditError) → MakingFault may_fail files made error → EditsFault may_fail kind files made error
making_fault may_fail kind files made paths BadPath h = absurd h
making_fault may_fail kind files made paths IsFolder h = (paths, h)
making_fault may_fail kind files made paths NullId h = absurd h
making_fault may_fail kind files made paths EmptyTree h = absurd h
making_fault may_fail kind files made paths Failed h = h
making_fault may_fail kind files made paths (Broken oid) h = absurd h
making_fault may_fail kind files made paths Memory h = tt

pub emptied_fault : (may_fail : Type 0) (files : FileMap) (made : List model.Edit) (error : EditError) → MakingFault may_fail files (map emptied made) error → MakingFault may_fail files made error
emptied_fault may_fail files made BadPath h = absurd h
emptied_fault may_fail files made IsFolder h = sym (emptied_refused files made) ∙ h
emptied_fault may_fail files made NullId h = absurd h
emptied_fault may_fail files made EmptyTree h = absurd h
emptied_fault may_fail files made Failed h = h
emptied_fault may_fail files made (Broken oid) h = absurd h
emptied_fault may_fail files made Memory h = tt

emptied_path : (edit : model.Edit) → edit_path (emptied edit) ≡ edit_path edit
emptied_path (model.Put kind path bytes) = refl
emptied_path (model.Remove path) = refl
emptied_path (model.RemoveFile path) = refl
emptied_path (model.Graft path source other) = refl

pub emptied_paths : (made : List model.Edit) → list_all (λ e. is_path (edit_path e)) (map emptied made) ≡ list_all (λ e. is_path (edit_path e)) made
emptied_paths [] = refl
emptied_paths (edit ∷ made) = λ i. is_path (emptied_path edit i) && emptied_paths made i
