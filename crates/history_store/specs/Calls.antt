-- What each call over objects or names keeps, and what it does to their files.
use Rattle.std.specs.Prelude.{◌≡◌, ◌≢◌, ◌<◌, ◌≤◌, ◌⊎◌, ◌↔◌, List, Option, Some, Result, IfErr, IfOk, IsErrOf, IsFalse, OnErr, OnOk, length}
use Rattle.gix_hash.specs.Id.{id_of}
use Rattle.gix_hash.specs.declared.kind.Kind.{Kind}
use Rattle.gix_hash.specs.declared.object_id.ObjectId.{ObjectId}
use Rattle.gix_object_lines.specs.declared.kind.Kind.{Kind as ObjectKind}
use Rattle.gix_object_write.specs.Keeping.{IsAsBefore, Puts}
use Rattle.gix_ref_file.specs.Calls.{Achieves, Finds, HasFault, Passes}
use Rattle.gix_ref_file.specs.History.{Adds}
use Rattle.gix_ref_file.specs.Tree.{Tree}
use Rattle.gix_ref_file.specs.declared.files.FileError.{FileError}
use Rattle.gix_ref_file.specs.declared.files.FileError.TheVariants.{Failed}
use Rattle.gix_ref_file.specs.declared.files.Files.{Ghosts}
use Rattle.history_layout.specs.EditSteps.{EditsMade, EditsOnTheWay}
use Rattle.history_layout.specs.EditSteps as steps
use Rattle.history_layout.specs.PackSteps.{PacksNames, PacksOnTheWay}
use Rattle.history_layout.specs.SwitchSteps.{HeadOnTheWay, NamesBranch}
use Rattle.history_model.specs.Bytes.{Bytes}
use Rattle.history_model.specs.Forms.{max_content}
use Rattle.history_model.specs.Objects.{object_text}
use Rattle.history_model.specs.Places.{file_at, object_place, unfinished_place}
use Rattle.history_model.specs.Repository.{Repository}
use Rattle.history_texts.specs.ObjectTexts.{object_id}
use Rattle.history_texts.specs.declared.object.NewObject.{NewObject}
use Rattle.history_store.specs.Changing.{MakesChange}
use Rattle.history_store.specs.KnownObjects.{HoldsKnown, table_of}
use Rattle.history_store.specs.NamesFace.{files_of_names, kind_of_names}
use Rattle.history_store.specs.ObjectsFace.{files_of_objects, kind_of_objects}
use Rattle.history_store.specs.Packing.{KeepsRecords}
use Rattle.history_store.specs.Puts.{Fits, IsRefusal, is_fault}
use Rattle.history_store.specs.Stores.{HoldsFile, IsFinished, IsIdTaken, IsTaken, KeepsFiles, MayHold}
use Rattle.history_store.specs.declared.names.Names.{Names}
use Rattle.history_store.specs.declared.objects.Objects.{Objects}
use Rattle.history_store.specs.declared.objects.PutMadeError.{PutMadeError}
use Rattle.history_store.specs.declared.objects.PutMadeError.TheVariants.{IdTaken}
use Rattle.history_store.specs.declared.put.PutError.{PutError}
use Rattle.history_store.specs.declared.put.PutError.TheVariants.{TooLarge}

-- ---- what it keeps, whatever it returns

-- Honest files stay honest. The count of their failed calls only rises, and not at all unless the
-- call reports a failed one.
pub record KeepsHonesty {F : Type 0} (files : Ghosts F) (Reports : Type 0) (old new : F) : Type 0 where
  pub honest : files.is_honest old → files.is_honest new
  pub later : files.failures old ≤ files.failures new
  pub unfailed : ¬ Reports → files.failures new ≡ files.failures old

-- So do the files of objects, and the kind of their ids stays.
pub record KeepsObjects {F : Type 0} (files : Ghosts F) (Reports : Type 0) (old new : Objects F) : Type 0 where
  pub kind : kind_of_objects new ≡ kind_of_objects old
  pub part : KeepsHonesty files Reports (files_of_objects old) (files_of_objects new)

-- So do the files of names, and the kind of their ids stays.
pub record KeepsNames {F : Type 0} (files : Ghosts F) (Reports : Type 0) (old new : Names F) : Type 0 where
  pub kind : kind_of_names new ≡ kind_of_names old
  pub part : KeepsHonesty files Reports (files_of_names old) (files_of_names new)

module _ {F : Type 0} (files : Ghosts F) where
  -- ---- a text that is written

  -- At `Ok` the text is at the place, each other file is as before, and none is left unfinished. At
  -- each moment all files are as before, or the text is there whole. If a failed change changes
  -- nothing, an error leaves no file that is new.
  pub record WritesText {T E : Type 0} (place text : Bytes) (old new : F) (result : Result T E) : Type 0 where
    pub stored : Achieves files.is_honest files.history old new result (HoldsFile place text)
    pub finished : files.is_honest old → place ≢ unfinished_place
        → OnOk result (IsFinished (files.history new).tree)
    pub moments : Passes files.is_honest files.history old new (MayHold place text)
    pub atomic : files.is_atomic → files.is_honest old
        → OnErr result (KeepsFiles (files.history old).tree (files.history new).tree)

  -- The same of an object's text; and if it is at the place already, nothing is written.
  pub record WritesObject {T E : Type 0} (place text : Bytes) (old new : F) (result : Result T E) : Type 0 where
    pub stored : Achieves files.is_honest files.history old new result (HoldsFile place text)
    pub finished : files.is_honest old
        → OnOk result (IsFinished (files.history new).tree ⊎ (new ≡ old))
    pub once : files.is_honest old → file_at (files.history old).tree place ≡ Some text → new ≡ old
    pub moments : Passes files.is_honest files.history old new (MayHold place text)
    pub atomic : files.is_atomic → files.is_honest old
        → OnErr result (KeepsFiles (files.history old).tree (files.history new).tree)

  -- `IdTaken` says that the object's id is taken. If it is, nothing is written whatever is returned,
  -- and never `Ok`.
  pub record RefusesTaken {T : Type 0} (object : NewObject) (old new : F) (result : Result T PutMadeError)
      : Type 0 where
    pub own : (id : ObjectId) → IsErrOf result (IdTaken id) → id ≡ object.id
    pub taken : (id : ObjectId) → IsErrOf result (IdTaken id)
        → Finds files.is_honest files.history old (IsTaken object)
    pub unwritten : (id : ObjectId) → IsErrOf result (IdTaken id) → new ≡ old
    pub untouched : files.is_honest old → IsTaken object (files.history old).tree → new ≡ old
    pub free : Achieves files.is_honest files.history old new result (λ old new. ¬ IsTaken object old)

  -- ---- a content that is put

  -- The id that is returned is the content's. The map of objects gains the object if it isn't there,
  -- and with an error it is as before. What is put is in written form and names only what is stored.
  pub record PutsContent (kind : ObjectKind) (content : Bytes) (old new : Objects F)
      (result : Result ObjectId PutError) : Type 0 where
    pub id : IfOk result (λ id. id_of id ≡ object_id (kind_of_objects old) kind content)
    pub holds : HoldsKnown files.is_honest files.history old
        → HoldsKnown files.is_honest files.history new
    pub added : HoldsKnown files.is_honest files.history old
        → OnOk result (Puts (table_of files.history old) (table_of files.history new)
        (object_id (kind_of_objects old) kind content) (record { kind = kind; content = content }))
    pub kept : HoldsKnown files.is_honest files.history old
        → OnErr result (IsAsBefore (table_of files.history old) (table_of files.history new))
    pub fits : HoldsKnown files.is_honest files.history old
        → OnOk result (Fits (kind_of_objects old) (table_of files.history old) kind content)

  -- Each error has its cause, and those before it have none. With a cause, no file is changed.
  pub record RefusesContent (kind : ObjectKind) (content : Bytes) (old new : Objects F)
      (result : Result ObjectId PutError) : Type 0 where
    pub causes : HoldsKnown files.is_honest files.history old
        → IfErr result (IsRefusal (kind_of_objects old) (table_of files.history old)
        (files.history (files_of_objects old)).tree kind content)
    pub large : IsErrOf result TooLarge ↔ (max_content < length content)
    pub free : Achieves files.is_honest files.history
        (files_of_objects old) (files_of_objects new) result (λ old' new'.
        ¬ IsIdTaken (object_id (kind_of_objects old) kind content) kind content old')
    pub untouched : IfErr result (λ error. IsFalse (is_fault error)
        → files_of_objects new ≡ files_of_objects old)

  -- ---- names that change

  -- These names move, and that one goes. On the way each is as before or has moved, and none goes
  -- before all have moved. `Failed` comes only from a fault of the files.
  pub record ChangesNames (kind : Kind) (moved : List steps.MovedName) (gone : Option Bytes)
      (old new : Names F) (result : Result (Unit {0}) FileError) : Type 0 where
    pub moments : Adds (EditsOnTheWay kind moved gone (files.history (files_of_names old)).tree)
        (files.history (files_of_names old)) (files.history (files_of_names new))
    pub changed : OnOk result (EditsMade kind moved gone (files.history (files_of_names old)).tree
        (files.history (files_of_names new)).tree)
    pub records : OnOk result (KeepsRecords new (files.history (files_of_names new)).tree)
    pub failed : IsErrOf result Failed
        → HasFault files.failures files.reading_may_fail (files_of_names old) (files_of_names new)

  -- So they do by a transaction, after which the kept records are as they were read.
  pub record Transacts (kind : Kind) (moved : List steps.MovedName) (gone : Option Bytes)
      (old new : Names F) (result : Result (Unit {0}) FileError) : Type 0 where
    pub moments : Adds (EditsOnTheWay kind moved gone (files.history (files_of_names old)).tree)
        (files.history (files_of_names old)) (files.history (files_of_names new))
    pub changed : OnOk result (MakesChange old moved gone (files.history (files_of_names old)).tree
        (files.history (files_of_names new)).tree)
    pub failed : IsErrOf result Failed
        → HasFault files.failures files.reading_may_fail (files_of_names old) (files_of_names new)

  -- The names of the repository are packed. On the way each has its own file, or its record.
  -- `Failed` comes only from a fault of the files, or of a lookup.
  pub record PacksNamesOf (r : Repository) (LookupMayFail : Type 0) (old new : Names F)
      (result : Result (Unit {0}) FileError) : Type 0 where
    pub moments : Adds (PacksOnTheWay r (files.history (files_of_names old)).tree)
        (files.history (files_of_names old)) (files.history (files_of_names new))
    pub packed : OnOk result (PacksNames r (files.history (files_of_names old)).tree
        (files.history (files_of_names new)).tree)
    pub failed : IsErrOf result Failed
        → HasFault files.failures (files.reading_may_fail ⊎ LookupMayFail)
        (files_of_names old) (files_of_names new)

  -- HEAD comes to name the branch. On the way it is as before or names it, whole. `Failed` comes only
  -- from a fault of the files.
  pub record SwitchesHead (to : Bytes) (old new : Names F) (result : Result (Unit {0}) FileError)
      : Type 0 where
    pub moments : Adds (HeadOnTheWay to (files.history (files_of_names old)).tree)
        (files.history (files_of_names old)) (files.history (files_of_names new))
    pub switched : OnOk result (NamesBranch to (files.history (files_of_names old)).tree
        (files.history (files_of_names new)).tree)
    pub records : OnOk result (KeepsRecords new (files.history (files_of_names new)).tree)
    pub failed : IsErrOf result Failed
        → HasFault files.failures files.reading_may_fail (files_of_names old) (files_of_names new)
