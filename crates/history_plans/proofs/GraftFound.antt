-- What is found for an edit, and why none is.
use Rattle.std.proofs.Common.{◌≡◌, refl, sym, ◌∙◌, ap, subst, false, List, [], ◌∷◌, Option, Some, None, Err, option_to_list}
use Rattle.std.specs.Prelude.{Result, Ok}
use Rattle.std.specs.List.{list_any}
use Rattle.std.specs.FinMap.{get}
use Rattle.std.proofs.lemmas.Bool.{or_parts}
use Rattle.gix_hash.specs.Id.{Id, id_of}
use Rattle.gix_hash.specs.declared.object_id.ObjectId.{ObjectId}
use Rattle.history_model.specs.Bytes.{Bytes}
use Rattle.history_model.specs.Causes.{is_bad_path}
use Rattle.history_model.specs.CommandParts.{edit_paths, source_paths}
use Rattle.history_model.specs.Commands.{EditLine, PutLine, RemoveLine, RemoveFileLine, GraftLine}
use Rattle.history_model.specs.FileMap as model
use Rattle.history_model.specs.FileMap.{FileMap}
use Rattle.history_model.specs.Forms.{IsWritten}
use Rattle.history_model.specs.Objects.{CommitValue, StoredCommit, StoredFolder, folder_id}
use Rattle.history_model.specs.Meaning.{files_at, first_files, word_files}
use Rattle.history_model.specs.Repository as plain
use Rattle.history_model.specs.Repository.{HoldsCommit, IsWholeStore}
use Rattle.history_model.specs.Words.{commit_of, word_meaning}
use Rattle.history_model.proofs.WholeReads.{read_holds}
use Rattle.history_files.specs.Edits.{IsSource}
use Rattle.history_files.specs.Laws.{table_of}
use Rattle.history_files.specs.declared.found.Found.{Found}
use Rattle.history_word.specs.Commands.{IsEdit}
use Rattle.history_word.specs.declared.command.Edit.{Edit}
use Rattle.history_word.specs.declared.command.Edit.TheVariants.{Put, Remove, RemoveFile, Graft}
use Rattle.history_word.specs.declared.command.Graft as grafts
use Rattle.history_repository.specs.Reads.{GivesMeant, IsReadingFault}
use Rattle.history_repository.specs.Fields.{kept_bytes}
use Rattle.history_repository.specs.Meant.{HasRoot, peeled_id}
use Rattle.history_repository.specs.declared.stored.PeeledCommit.{PeeledCommit}
use Rattle.history_plans.specs.Files.{HasSource, IsFoundFor, StandsWithFolders, TellsRead, kept_edit}
use Rattle.history_repository.specs.declared.stopped.Stopped.{Stopped}
use Rattle.history_repository.specs.declared.stopped.Stopped.TheVariants.{Refused, Fault}
use Rattle.history_repository.proofs.Befores.{held_commit, held_files}
use Rattle.history_repository.proofs.FieldLemmas.{whole_path}
use Rattle.history_plans.proofs.SourcesStand.{files_folder}

-- what is given is meant otherwise too
pub gives_as : {T : Type 0} (MayFail : Type 0) (P Q : T → Type 0) (result : Result T Stopped) → ((value : T) → P value → Q value) → GivesMeant MayFail P result → GivesMeant MayFail Q result
gives_as MayFail P Q (Ok value) turned gives = turned value gives
gives_as MayFail P Q (Err stopped) turned gives = gives

-- a fault of reading stops edits
pub fault_told : {T : Type 0} (MayFail : Type 0) (made : List model.Edit) (IsRead : T → Type 0) (stopped : Stopped) → IsReadingFault MayFail stopped → TellsRead MayFail made IsRead (Err stopped)
fault_told MayFail made IsRead (Refused cause) fault = absurd fault
fault_told MayFail made IsRead (Fault reason) fault = fault

-- for an edit that is no graft nothing need be found
pub none_found : (MayFail : Type 0) (r : plain.Repository) (edit : Edit) → ((graft : grafts.Graft) → edit ≡ Graft graft → ⊥) → TellsRead MayFail (kept_edit r edit ∷ []) (IsFoundFor r edit) (Ok None)
none_found MayFail r (Put put) apart = (refl, tt)
none_found MayFail r (Remove path) apart = (refl, tt)
none_found MayFail r (RemoveFile path) apart = (refl, tt)
none_found MayFail r (Graft graft) apart = absurd (apart graft refl)

-- a stopped reading is reported alike, whatever was to be read
pub stopped_as : {S T : Type 0} (MayFail : Type 0) (made : List model.Edit) (IsRead : S → Type 0) (AreRead : T → Type 0) (stopped : Stopped) → TellsRead MayFail made IsRead (Err stopped) → TellsRead MayFail made AreRead (Err stopped)
stopped_as MayFail made IsRead AreRead (Refused cause) told = told
stopped_as MayFail made IsRead AreRead (Fault reason) told = told

module _ (r : plain.Repository) (graft : grafts.Graft) where
  -- the commit of a graft's word, and its path
  pub commit_there : (line : EditLine) (commit : PeeledCommit) → IsEdit (Graft graft) line → list_any is_bad_path (edit_paths line) ≡ false → HasSource r line (Some commit)
      → (commit_of r graft.word.items ≡ Some (peeled_id commit)) × (is_bad_path (kept_bytes graft.path) ≡ false) × HasRoot r commit
  commit_there (PutLine kind path bytes) commit is good has = absurd is
  commit_there (RemoveLine path) commit is good has = absurd is
  commit_there (RemoveFileLine path) commit is good has = absurd is
  commit_there (GraftLine path word from) commit is good has =
      let parts = or_parts (is_bad_path path) (list_any is_bad_path (source_paths from)) good in
      (ap (commit_of r) is.1 ∙ has.0, ap is_bad_path (whole_path graft.path path is.0 parts.0) ∙ parts.0, has.1)

  -- a graft has a commit
  pub no_commit : (line : EditLine) → IsEdit (Graft graft) line → HasSource r line None → ⊥
  no_commit (PutLine kind path bytes) is has = is
  no_commit (RemoveLine path) is has = is
  no_commit (RemoveFileLine path) is has = is
  no_commit (GraftLine path word from) is has = has

  module _ (whole : IsWholeStore r) (written : IsWritten r) (commit : PeeledCommit) (reads : commit_of r graft.word.items ≡ Some (peeled_id commit)) where
    pub word_holds : HoldsCommit r (peeled_id commit)
    word_holds = read_holds r whole (word_meaning r graft.word.items) (peeled_id commit) reads

    -- the files that it has
    word_files_are : word_files r graft.word.items ≡ files_at r (peeled_id commit)
    word_files_are = ap (λ o. first_files r (option_to_list o)) reads

    pub word_stands : StandsWithFolders r (word_files r graft.word.items)
    word_stands = subst (StandsWithFolders r) (sym word_files_are) (files_folder r whole written (peeled_id commit) word_holds)

    pub found_is : (source : Bytes) → source ≡ kept_bytes graft.source → (found : Option Found) → IsSource (table_of r) r.kind source (files_at r (peeled_id commit)) found → IsFoundFor r (Graft graft) found
    found_is source same found is =
        subst (λ s. IsSource (table_of r) r.kind s (word_files r graft.word.items) found) same
        (subst (λ (files : FileMap). IsSource (table_of r) r.kind source files found) (sym word_files_are) is)

-- ---- the root of a stored commit

module _ (r : plain.Repository) (whole : IsWholeStore r) (written : IsWritten r) (id : Id) (holds : HoldsCommit r id) (root : ObjectId)
    (is : (commit : CommitValue) → get r.objects id ≡ Some (StoredCommit commit) → id_of root ≡ folder_id r.kind commit.files) where
  -- it is that of the commit's files
  pub root_is : id_of root ≡ folder_id r.kind (files_at r id)
  root_is =
      let held = held_commit r whole id holds in
      is held.0 held.1 ∙ sym (ap (folder_id r.kind) (held_files r whole id holds))

  pub root_stands : get r.objects (id_of root) ≡ Some (StoredFolder (files_at r id))
  root_stands = ap (get r.objects) root_is ∙ files_folder r whole written id holds
