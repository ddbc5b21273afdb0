-- What making edits does to an editor's files, and why they aren't made. `is_honest` says that a
-- store returns what its table has, `may_fail` that its lookups may fail.
use Rattle.std.specs.Prelude.{[], ◌∷◌, List, Result, OnOk, IfErr, IsFalse, IsTrue}
use Rattle.std.specs.List.{AllByRecursion}
use Rattle.gix_hash.specs.declared.kind.Kind.{Kind}
use Rattle.gix_object_lookup.specs.Table.{Table}
use Rattle.gix_object_nodes.specs.Files.{Trees}
use Rattle.gix_object_editor.specs.Editor.{files_of}
use Rattle.gix_object_editor.specs.Stored.{HasStored}
use Rattle.gix_object_editor.specs.declared.tree.editor.state.Editor.{Editor}
use Rattle.history_model.specs.FileMap as model
use Rattle.history_model.specs.FileMap.{FileMap, edited, is_path, is_refused}
use Rattle.history_files.specs.Editing.{HavePaths}
use Rattle.history_files.specs.Edits.{AreEdits, EditsMake, EditsPass, IsEdit}
use Rattle.history_files.specs.Entries.{GraftsStand}
use Rattle.history_files.specs.Opening.{EditsFiles, MakingFault}
use Rattle.history_files.specs.Unfolding.{IsUnfolded}
use Rattle.history_files.specs.declared.edits.Edit.{Edit}
use Rattle.history_files.specs.declared.edits.EditError.{EditError}

-- ---- of edits

-- the editor then has the files that the edits make of those that it had
abbrev pub MakesEdits : {S X : Type 0} → (S → Type 0) → (S → Table) → List Edit
    → Editor S → Editor S → Result X EditError → Type 0
MakesEdits is_honest table edits old new result = is_honest old.store
    → OnOk result (EditsMake (table old.store) edits (λ trees. files_of trees old)
    (λ trees. files_of trees new))

-- no edit was to be refused
abbrev pub AcceptsEdits : {S X : Type 0} → (S → Type 0) → (S → Table) → List Edit → Editor S
    → Result X EditError → Type 0
AcceptsEdits is_honest table edits old result = is_honest old.store
    → OnOk result (EditsPass (table old.store) edits (λ trees. files_of trees old))

-- why they aren't made of the files that the editor has, if their paths are well-formed and what
-- they graft are folders that exist before
abbrev pub RefusesEdits : {S X : Type 0} → (S → Type 0) → (S → Type 0) → (S → Table) → List Edit
    → Editor S → Result X EditError → Type 0
RefusesEdits is_honest may_fail table edits old result = is_honest old.store
    → (kind : Kind) (stands : List FileMap) (files : FileMap) (made : List model.Edit)
    → EditsFiles (table old.store) kind stands files old
    → HavePaths made → AreEdits (table old.store) kind edits made
    → AllByRecursion (GraftsStand stands) made
    → IfErr result (MakingFault (may_fail old.store) files made)

-- ---- of one edit

abbrev pub MakesEdit : {S X : Type 0} → (S → Type 0) → (S → Table) → Edit
    → Editor S → Editor S → Result X EditError → Type 0
MakesEdit is_honest table edit old new result = is_honest old.store
    → OnOk result ((trees : Trees) (kind : Kind) (files : FileMap) (made : model.Edit)
    → HasStored (table old.store) trees → IsEdit (table old.store) kind edit made
    → IsUnfolded kind files (files_of trees old)
    → IsUnfolded kind (edited files made) (files_of trees new))

abbrev pub AcceptsEdit : {S X : Type 0} → (S → Type 0) → (S → Table) → Edit → Editor S
    → Result X EditError → Type 0
AcceptsEdit is_honest table edit old result = is_honest old.store
    → OnOk result ((trees : Trees) (kind : Kind) (files : FileMap) (made : model.Edit)
    → HasStored (table old.store) trees → IsEdit (table old.store) kind edit made
    → IsUnfolded kind files (files_of trees old) → IsFalse (is_refused files made))

abbrev pub RefusesEdit : {S X : Type 0} → (S → Type 0) → (S → Type 0) → (S → Table) → Edit
    → Editor S → Result X EditError → Type 0
RefusesEdit is_honest may_fail table edit old result = is_honest old.store
    → (kind : Kind) (stands : List FileMap) (files : FileMap) (made : model.Edit)
    → EditsFiles (table old.store) kind stands files old
    → IsTrue (is_path edit.path.now)
    → IsEdit (table old.store) kind edit made → GraftsStand stands made
    → IfErr result (MakingFault (may_fail old.store) files (made ∷ []))
