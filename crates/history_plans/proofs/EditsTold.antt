-- What edits of files report if they fail.
use Rattle.std.proofs.Common.{◌≡◌, refl, sym, ◌∙◌, subst, List, [], ◌∷◌}
use Rattle.std.specs.Prelude.{Option, Some, None, Result, Ok, Err, IfOk, IfErr, IsErrAnd, OnOk, option_map}
use Rattle.gix_hash.specs.Id.{Id, id_of}
use Rattle.gix_hash.specs.declared.kind.Kind.{Kind}
use Rattle.gix_hash.specs.declared.object_id.ObjectId.{ObjectId}
use Rattle.gix_object_lookup.specs.Table.{Table}
use Rattle.gix_object_lookup.specs.declared.find.Error as find
use Rattle.gix_object_lookup.specs.declared.find.Error.TheVariants as looked_up
use Rattle.gix_ref_file.specs.History.{History}
use Rattle.history_model.specs.FileMap.{FileMap}
use Rattle.history_model.specs.Meaning.{files_at, first_files}
use Rattle.history_files.specs.Editing.{AreEdited, EditsFault, HavePaths, IsBase, NameEdits, OfEdits}
use Rattle.history_files.specs.declared.trees.EditedFiles.{EditedFiles}
use Rattle.history_files.specs.declared.edits.EditError.{EditError}
use Rattle.history_store.specs.KnownObjects.{table_of, HoldsKnown}
use Rattle.history_plans.specs.Files.{TellsEdited, unmade}
use Rattle.history_repository.specs.Faults.{find_fault}
use Rattle.history_repository.specs.TreesBefore.{IsTreeBefore}
use Rattle.history_repository.specs.Stands.{Stands}
use Rattle.history_repository.specs.declared.repository.Repository.{Repository}
use Rattle.history_repository.specs.declared.stopped.Stopped.{Stopped}
use Rattle.history_repository.specs.declared.stopped.Stopped.TheVariants.{Fault}
use Rattle.history_repository.proofs.Tables.{root_of, holds_known, tables_same}
use Rattle.history_model.specs.FileMap as model
use Rattle.history_model.specs.Repository as plain
use Rattle.history_files.specs.declared.edits.Edit as editing
use Rattle.history_files.specs.declared.edits.EditError.TheVariants as refused
use Rattle.history_files.specs.Laws as laws

-- ---- the files before a commit

module _ {F : Type 0} (IsHonest : F → Type 0) (history : F → History) (repository : Repository F) (r : plain.Repository) (stands : Stands IsHonest history repository r) where
  -- the tree of the first parent is the root of its files
  pub base_told : (ids : List Id) (tree : Option ObjectId) → IsTreeBefore r ids tree → IsBase (table_of history repository.objects) r.kind (option_map id_of tree) (first_files r ids)
  base_told [] tree is = subst (λ (t : Option ObjectId). IsBase (table_of history repository.objects) r.kind (option_map id_of t) (first_files r [])) (sym is) refl
  base_told (id ∷ ids) None is = absurd is
  base_told (id ∷ ids) (Some tree) is = root_of IsHonest history repository r stands (id_of tree) (files_at r id) is

-- What edits of these files come to, by the contract of the call that makes them.
module _ {F : Type 0} (IsHonest : F → Type 0) (history : F → History) (repository : Repository F) (r : plain.Repository) (stands : Stands IsHonest history repository r) (MayFail : Type 0)
    (ids : List Id) (tree : Option ObjectId) (before : IsTreeBefore r ids tree) (edits : List editing.Edit) (made : List model.Edit) (named : NameEdits (laws.table_of r) r.kind edits made) (kind : Kind) (same : kind ≡ r.kind)
    (root : Option Id) (is_root : root ≡ option_map id_of tree) (result : Result EditedFiles EditError) where
  abbrev Of : (Kind → Option Id → FileMap → List model.Edit → Type 0) → Kind → Option Id → Type 0
  Of P k o = OfEdits (HoldsKnown IsHonest history repository.objects) (table_of history repository.objects) k o edits (P k o)

  at_files : (P : Kind → Option Id → FileMap → List model.Edit → Type 0) → Of P kind root → P r.kind (option_map id_of tree) (first_files r ids) made
  at_files P told =
      let at_kind : Of P r.kind root = subst (λ (k : Kind). Of P k root) same told in
      let at_root : Of P r.kind (option_map id_of tree) = subst (λ (o : Option Id). Of P r.kind o) is_root at_kind in
      at_root (holds_known IsHonest history repository r stands) (first_files r ids) made (base_told IsHonest history repository r stands ids tree before)
      (subst (λ (table : Table). NameEdits table r.kind edits made) (sym (tables_same IsHonest history repository r stands)) named)

  pub edited_told : Of (λ k o files made. IfOk result (AreEdited k files made)) kind root → (edited : EditedFiles) → result ≡ Ok edited → AreEdited r.kind (first_files r ids) made edited
  edited_told told edited is =
      subst (λ (x : Result EditedFiles EditError). IfOk x (AreEdited r.kind (first_files r ids) made)) is
      (at_files (λ k o files made. IfOk result (AreEdited k files made)) told)

  pub refused_told : Of (λ k o files made. IfErr result (EditsFault MayFail k files made)) kind root → (error : EditError) → result ≡ Err error → EditsFault MayFail r.kind (first_files r ids) made error
  refused_told told error is =
      subst (λ (x : Result EditedFiles EditError). IfErr x (EditsFault MayFail r.kind (first_files r ids) made)) is
      (at_files (λ k o files made. IfErr result (EditsFault MayFail k files made)) told)

-- if all paths are paths, such an error is reported as `TellsEdited` says
pub unmade_told : (r : plain.Repository) (MayFail : Type 0) (ids : List Id) (made : List model.Edit) → HavePaths made → (error : EditError) → EditsFault MayFail r.kind (first_files r ids) made error
    → TellsEdited MayFail r ids made (unmade error)
unmade_told r MayFail ids made paths refused.BadPath h = absurd (cc (sym paths ∙ h))
unmade_told r MayFail ids made paths refused.IsFolder h = (refl, h.1)
unmade_told r MayFail ids made paths refused.NullId h = h
unmade_told r MayFail ids made paths refused.EmptyTree h = absurd h
unmade_told r MayFail ids made paths refused.Failed h = h
unmade_told r MayFail ids made paths (refused.Broken oid) h = absurd h
unmade_told r MayFail ids made paths refused.Memory h = tt

-- so is a lookup that failed
pub find_told : (r : plain.Repository) (MayFail : Type 0) (ids : List Id) (made : List model.Edit) (result : Result (Option EditedFiles) Stopped) (error : find.Error) → IsErrAnd result (λ stopped. stopped ≡ Fault (find_fault error))
    → (error ≡ looked_up.Failed → MayFail) → TellsEdited MayFail r ids made result
find_told r MayFail ids made (Ok edited) error is fails = absurd is
find_told r MayFail ids made (Err stopped) looked_up.Failed is fails = subst (λ (s : Stopped). TellsEdited MayFail r ids made (Err s)) (sym is) (fails refl)
find_told r MayFail ids made (Err stopped) looked_up.Memory is fails = subst (λ (s : Stopped). TellsEdited MayFail r ids made (Err s)) (sym is) tt

-- what holds at any rate holds if a call succeeds
pub on_ok : {A E : Type 0} (result : Result A E) (P : Type 0) → P → OnOk result P
on_ok (Ok value) P holds = holds
on_ok (Err error) P holds = tt
