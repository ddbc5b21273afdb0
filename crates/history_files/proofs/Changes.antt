-- Edits of a file map, as an editor makes them.
use Rattle.std.proofs.Common.{◌≡◌, ◌∙◌, ap, sym, subst, refl, ℕ, zero, suc, ◌+◌, ◌<◌, ◌≤◌, arith, false, ◌||◌, List, [], ◌∷◌, length, drop, get_or, Option}
use Rattle.std.proofs.Math.Seq.{drop-cons}
use Rattle.gix_hash.specs.declared.kind.Kind.{Kind}
use Rattle.gix_hash.specs.declared.object_id.ObjectId.{ObjectId}
use Rattle.gix_object_lookup.specs.Table.{Table}
use Rattle.gix_object_nodes.specs.Files as unfolded
use Rattle.gix_object_nodes.specs.Files.{Path, Trees, SameFiles, HasNoneBelow, is_null}
use Rattle.gix_object_editor.specs.Stored.{HasStored}
use Rattle.gix_object_editor.specs.Editor.{leaf_of_kind}
use Rattle.history_model.specs.Bytes.{Bytes}
use Rattle.history_model.specs.FileMap as model
use Rattle.history_model.specs.FileMap.{FileMap, components, edited, edited_by, is_refused, some_refused, has_below}
use Rattle.history_model.specs.declared.FileKind.{FileKind}
use Rattle.history_files.specs.Unfolding.{IsUnfolded, entry_kind, file_leaf}
use Rattle.history_files.specs.Edits.{IsChange, IsEdit, AreEdits}
use Rattle.history_files.specs.Entries.{found_leaf}
use Rattle.history_files.specs.declared.edits.Change.TheVariants.{Put, Remove, RemoveFile, Graft}
use Rattle.history_files.specs.declared.edits.Edit.{Edit}
use Rattle.history_files.specs.declared.found.Found.{Found}
use Rattle.history_files.proofs.Grafted.{graft_put}
use Rattle.history_files.proofs.Sources.{leaf_has}
use Rattle.history_files.proofs.Edited.{put_unfolds, removed_unfolds}
use Rattle.history_files.proofs.LawLemmas.{folders_agree}

pub same_unfolded : (kind : Kind) (files : FileMap) (a b : unfolded.FileMap) → IsUnfolded kind files a → SameFiles b a → IsUnfolded kind files b
same_unfolded kind files a b is same = record {
  at = λ path. same (components path) ∙ is.at path;
  only = λ names leaf e. is.only names leaf (sym (same names) ∙ e);
}

module _ (table : Table) (kind : Kind) (files : FileMap) (there : unfolded.FileMap) (is : IsUnfolded kind files there) (path : Bytes) (made : model.Edit) (new : unfolded.FileMap) where
  pub put_made : (trees : Trees) (file : FileKind) (id : ObjectId) → IsChange table kind path (Put file id) made → SameFiles new (unfolded.put trees (components path) (leaf_of_kind (entry_kind file) id) there)
      → IsUnfolded kind (edited files made) new
  put_made trees file id (bytes, edit, same, isnt_null) after =
      subst (λ e. IsUnfolded kind (edited files e) new) (sym edit)
      (same_unfolded kind _ (unfolded.put trees (components path) (file_leaf kind (record { kind = file; bytes = bytes })) there) new
      (put_unfolds kind files there is path (record { kind = file; bytes = bytes }) (ap is_null (sym same) ∙ isnt_null) trees)
      (λ q. after q ∙ ap (λ i. unfolded.put trees (components path) (record { mode = (leaf_of_kind (entry_kind file) id).mode; id = i }) there q) same))

  pub remove_made : IsChange table kind path Remove made → SameFiles new (unfolded.removed (components path) there) → IsUnfolded kind (edited files made) new
  remove_made edit after =
      subst (λ e. IsUnfolded kind (edited files e) new) (sym edit)
      (same_unfolded kind _ (unfolded.removed (components path) there) new (removed_unfolds kind files there is path) after)

  pub file_removed : IsChange table kind path RemoveFile made → SameFiles new (unfolded.removed (components path) there) → IsUnfolded kind (edited files made) new
  file_removed edit after =
      subst (λ e. IsUnfolded kind (edited files e) new) (sym edit)
      (same_unfolded kind _ (unfolded.removed (components path) there) new (removed_unfolds kind files there is path) after)

  pub none_refused : IsChange table kind path RemoveFile made → HasNoneBelow (components path) there → is_refused files made ≡ false
  none_refused edit none = ap (is_refused files) edit ∙ (folders_agree kind files there path is).1 none

  -- over trees that have those of the other files
  pub graft_made : (trees : Trees) (found : Option Found) → HasStored table trees → IsChange table kind path (Graft found) made → SameFiles new (unfolded.put trees (components path) (found_leaf found) there)
      → IsUnfolded kind (edited files made) new
  graft_made trees found stored (source, other, edit, from) after =
      subst (λ e. IsUnfolded kind (edited files e) new) (sym edit)
      (same_unfolded kind _ (unfolded.put trees (components path) (found_leaf found) there) new
      (graft_put kind files there is path source other from.map trees (found_leaf found) (leaf_has table kind trees stored source other found from)) after)

  pub graft_passes : (found : Option Found) → IsChange table kind path (Graft found) made → is_refused files made ≡ false
  graft_passes found (source, other, edit, from) = ap (is_refused files) edit

-- ---- edits in a row

-- what is left to do comes to the same
pub record IsLeft (table : Table) (kind : Kind) (files : FileMap) (made : List model.Edit) (edits : List Edit) (there : unfolded.FileMap) : Type 0 where
  pub now : FileMap
  pub more : List model.Edit
  pub edits_are : AreEdits table kind edits more
  pub unfolds : IsUnfolded kind now there
  pub result : edited_by files made ≡ edited_by now more
  pub refused : some_refused files made ≡ some_refused now more

pub at_first : (table : Table) (kind : Kind) (files : FileMap) (made : List model.Edit) (edits : List Edit) (there : unfolded.FileMap) → AreEdits table kind edits made → IsUnfolded kind files there → IsLeft table kind files made edits there
at_first table kind files made edits there are is = record { now = files; more = made; edits_are = are; unfolds = is; result = refl; refused = refl }

pub at_last : (table : Table) (kind : Kind) (files : FileMap) (made : List model.Edit) (there : unfolded.FileMap) → IsLeft table kind files made [] there → IsUnfolded kind (edited_by files made) there × (some_refused files made ≡ false)
at_last table kind files made there left = go left.more left.edits_are left.result left.refused
  where
    go : (more : List model.Edit) → AreEdits table kind [] more → edited_by files made ≡ edited_by left.now more → some_refused files made ≡ some_refused left.now more → IsUnfolded kind (edited_by files made) there × (some_refused files made ≡ false)
    go [] are result refused = (subst (λ m. IsUnfolded kind m there) (sym result) left.unfolds, refused)
    go (e ∷ more) are result refused = absurd are

pub one_done : (table : Table) (kind : Kind) (files : FileMap) (made : List model.Edit) (edit : Edit) (edits : List Edit) (there new : unfolded.FileMap) → IsLeft table kind files made (edit ∷ edits) there
    → ((now : FileMap) (one : model.Edit) → IsEdit table kind edit one → IsUnfolded kind now there → IsUnfolded kind (edited now one) new × (is_refused now one ≡ false)) → IsLeft table kind files made edits new
one_done table kind files made edit edits there new left step = go left.more left.edits_are left.result left.refused
  where
    go : (more : List model.Edit) → AreEdits table kind (edit ∷ edits) more → edited_by files made ≡ edited_by left.now more → some_refused files made ≡ some_refused left.now more → IsLeft table kind files made edits new
    go [] are result refused = absurd are
    go (one ∷ more) (first, others) result refused =
        let next = step left.now one first left.unfolds in
        record { now = edited left.now one; more = more; edits_are = others; unfolds = next.0; result = result; refused = refused ∙ ap (λ b. b || some_refused (edited left.now one) more) next.1 }

-- ---- lists of edits

pub cut_edit : (edits : List Edit) (i : ℕ) (d : Edit) → i < length edits → drop i edits ≡ get_or edits i d ∷ drop (i + 1) edits
cut_edit edits i d within =
    let next : suc i ≡ i + 1 = omega arith in
    drop-cons edits i d within ∙ ap (λ n. get_or edits i d ∷ drop n edits) next

pub none_left : (edits : List Edit) (i : ℕ) → length edits ≤ i → drop i edits ≡ []
none_left [] zero h = refl
none_left [] (suc i) h = refl
none_left (e ∷ edits) zero h = absurd (omega arith)
none_left (e ∷ edits) (suc i) h = none_left edits i (omega arith)
