-- The files of a commit, as its parent's and its edits make them.
use Rattle.std.specs.Prelude.{◌≡◌, ⊤, Bool, true, false, List, Option, Some, None, Result, Ok, Err, IsTrue, IsFalse}
use Rattle.std.specs.List.{AllZip, flat_map, list_any}
use Rattle.std.specs.FinMap.{get}
use Rattle.gix_hash.specs.Id.{Id}
use Rattle.history_model.specs.Bytes.{Bytes}
use Rattle.history_model.specs.FileMap as model
use Rattle.history_model.specs.FileMap.{FileMap, grafted_paths, some_refused}
use Rattle.history_model.specs.Causes.{is_bad_path}
use Rattle.history_model.specs.Commands.{EditLine, GraftLine}
use Rattle.history_model.specs.Words.{commit_of}
use Rattle.history_model.specs.Meaning.{first_files, put_bytes, word_files}
use Rattle.history_model.specs.Objects.{StoredFolder, folder_id}
use Rattle.history_model.specs.Repository as plain
use Rattle.history_model.specs.declared.Cause.TheVariants as cause
use Rattle.history_model.specs.declared.Fault.TheVariants as fault
use Rattle.history_files.specs.Editing.{AreEdited, HaveNull, Names}
use Rattle.history_files.specs.Edits.{IsSource}
use Rattle.history_files.specs.Laws.{table_of}
use Rattle.history_files.specs.declared.found.Found.{Found}
use Rattle.history_files.specs.declared.edits.Change.{Change}
use Rattle.history_files.specs.declared.edits.Change.TheVariants as change
use Rattle.history_files.specs.declared.edits.Edit as files
use Rattle.history_files.specs.declared.edits.EditError.{EditError}
use Rattle.history_files.specs.declared.edits.EditError.TheVariants as refused
use Rattle.history_files.specs.declared.trees.EditedFiles.{EditedFiles}
use Rattle.history_store.specs.Stores.{AreObjectsOf}
use Rattle.history_word.specs.declared.command.Edit.{Edit}
use Rattle.history_word.specs.declared.command.Edit.TheVariants.{Put, Remove, RemoveFile, Graft}
use Rattle.history_repository.specs.Meant.{HasRoot, peeled_id}
use Rattle.history_repository.specs.Reads.{IsReadingFault}
use Rattle.history_repository.specs.Fields.{kept_bytes}
use Rattle.history_plans.specs.declared.editing.Changes.{Changes}
use Rattle.history_plans.specs.declared.editing.PathChange.{PathChange}
use Rattle.history_repository.specs.declared.stored.PeeledCommit.{PeeledCommit}
use Rattle.history_repository.specs.declared.stopped.Stopped.{Stopped}
use Rattle.history_repository.specs.declared.stopped.Stopped.TheVariants.{Refused, Fault}

-- ---- what is read of edits

-- the edit of the bytes that are kept; of a graft with the files of its word's commit
abbrev pub kept_edit : plain.Repository → Edit → model.Edit
kept_edit r (Put put) = model.Put put.kind (kept_bytes put.path) (kept_bytes put.content)
kept_edit r (Remove path) = model.Remove (kept_bytes path)
kept_edit r (RemoveFile path) = model.RemoveFile (kept_bytes path)
kept_edit r (Graft graft) =
    model.Graft (kept_bytes graft.path) (kept_bytes graft.source) (word_files r graft.word.items)

-- what is found for an edit is what a graft has at its source
abbrev pub IsFoundFor : plain.Repository → Edit → Option Found → Type 0
IsFoundFor r (Graft graft) found =
    IsSource (table_of r) r.kind (kept_bytes graft.source) (word_files r graft.word.items) found
IsFoundFor r _ found = ⊤

-- the commit of the line's word, if it has one, with its root, if that is known
abbrev pub HasSource : plain.Repository → EditLine → Option PeeledCommit → Type 0
HasSource r (GraftLine path word source) (Some commit) =
    (commit_of r word ≡ Some (peeled_id commit)) × HasRoot r commit
HasSource r (GraftLine path word source) None = ⊥
HasSource r _ source = ⊤

-- the change at its path is this edit, with the id of the bytes that it puts, or with what it
-- grafts
abbrev pub IsChangeOf : plain.Repository → PathChange → model.Edit → Type 0
IsChangeOf r change made = Names (table_of r) r.kind change.path.items change.change made

abbrev pub AreChangesOf : plain.Repository → List PathChange → List model.Edit → Type 0
AreChangesOf r = AllZip (IsChangeOf r)

-- the changes are these edits, and the objects those of the bytes that they put
pub record AreReadAs (r : plain.Repository) (changes : Changes) (made : List model.Edit) : Type 0 where
  pub changes_are : AreChangesOf r changes.made.items made
  pub blobs_are : AreObjectsOf r.kind (flat_map put_bytes made) changes.blobs.items

-- the files are stored as a folder
abbrev pub StandsWithFolders : plain.Repository → FileMap → Type 0
StandsWithFolders r files = get r.objects (folder_id r.kind files) ≡ Some (StoredFolder files)

-- whether the change grafts what isn't there
abbrev pub grafts_none : Change → Bool
grafts_none (change.Graft None) = true
grafts_none _ = false

-- whether a graft would put something at a bad path
abbrev pub grafts_badly : List model.Edit → Bool
grafts_badly made = list_any is_bad_path (flat_map grafted_paths made)

-- The edits are read, and no path at which they graft is bad; or one is; or a fault was met.
abbrev pub TellsRead : {T : Type 0} → Type 0 → List model.Edit → (T → Type 0) → Result T Stopped → Type 0
TellsRead MayFail made IsRead (Ok value) = IsFalse (grafts_badly made) × IsRead value
TellsRead MayFail made IsRead (Err (Refused reason)) =
    (reason ≡ cause.BadPath) × IsTrue (grafts_badly made)
TellsRead MayFail made IsRead (Err (Fault reason)) = IsReadingFault MayFail (Fault reason)

-- where an edit is made, and what it does
abbrev pub edit_parts : files.Edit → Bytes × Change
edit_parts edit = (edit.path.now, edit.change)

abbrev pub change_parts : PathChange → Bytes × Change
change_parts change = (change.path.items, change.change)

-- what is returned if edits aren't made
abbrev pub unmade : EditError → Result (Option EditedFiles) Stopped
unmade refused.BadPath = Err (Refused cause.BadPath)
unmade refused.IsFolder = Err (Refused cause.IsFolder)
unmade refused.NullId = Ok None
unmade refused.EmptyTree = Err (Fault fault.File)
unmade refused.Failed = Err (Fault fault.File)
unmade (refused.Broken oid) = Err (Fault fault.File)
unmade refused.Memory = Err (Fault fault.Memory)

-- The trees of what the edits make of the first commit's files; or what is put or one of these
-- would have the null id; or there is a folder where a file is to be removed; or a fault was met.
abbrev pub TellsEdited : Type 0 → plain.Repository → List Id → List model.Edit
    → Result (Option EditedFiles) Stopped → Type 0
TellsEdited MayFail r ids made (Ok (Some edited)) = AreEdited r.kind (first_files r ids) made edited
TellsEdited MayFail r ids made (Ok None) = HaveNull r.kind (first_files r ids) made
TellsEdited MayFail r ids made (Err (Refused reason)) =
    (reason ≡ cause.IsFolder) × IsTrue (some_refused (first_files r ids) made)
TellsEdited MayFail r ids made (Err (Fault reason)) = IsReadingFault MayFail (Fault reason)
