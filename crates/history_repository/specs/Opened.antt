-- A folder that was opened, and the repository that it is.
use Rattle.std.specs.Prelude.{◌≡◌, Result, IfErr, IfOk}
use Rattle.std.specs.FinMap.{contains_key}
use Rattle.gix_hash.specs.Id.{Id}
use Rattle.gix_hash.specs.declared.kind.Kind.{Kind}
use Rattle.gix_ref_file.specs.History.{History}
use Rattle.gix_ref_file.specs.declared.files.Files.{Ghosts}
use Rattle.history_model.specs.Places.{Pair}
use Rattle.history_model.specs.Repository.{Repository}
use Rattle.history_model.specs.StandsFor.{StandsWhole}
use Rattle.history_store.specs.KnownObjects.{HasKnown}
use Rattle.history_store.specs.ObjectsFace.{ids_of_objects}
use Rattle.history_store.specs.Packing.{KeepsRecords}
use Rattle.history_repository.specs.Causes.{IsOpenCause, IsOpenFault}
use Rattle.history_repository.specs.declared.folder.OpenedFolder.{OpenedFolder}
use Rattle.history_repository.specs.declared.open_error.OpenRefusal.{OpenRefusal}

-- the trees of two parts
abbrev pub trees_of : {F : Type 0} → (F → History) → F → F → Pair
trees_of history objects names =
    record { objects = (history objects).tree; names = (history names).tree }

-- The pair represents this whole repository; the branch and the ids that are kept are its own, the
-- records those of `packed-refs`, and what is known of the objects is so.
pub record IsOpenedAs {F : Type 0} (kind : Kind) (pair : Pair) (opened : OpenedFolder F)
    (r : Repository) : Type 0 where
  pub stands : StandsWhole kind pair r
  pub branch : opened.branch.items ≡ r.branch
  pub records : KeepsRecords opened.names pair.names
  pub known : (id : Id) → contains_key (ids_of_objects opened.objects) id ≡ contains_key r.objects id
  pub exist : HasKnown pair.objects opened.objects

-- Two honest parts are opened only if they represent a whole repository; whichever they represent,
-- what is opened is that one.
pub record OpensWhole {F E : Type 0} (files : Ghosts F) (kind : Kind) (objects names : F)
    (result : Result (OpenedFolder F) E) : Type 0 where
  pub stands : files.is_honest objects → files.is_honest names → IfOk result (λ opened.
      (r : Repository) × IsOpenedAs kind (trees_of files.history objects names) opened r)
  pub same : (r : Repository) → files.is_honest objects → files.is_honest names
      → StandsWhole kind (trees_of files.history objects names) r
      → IfOk result (λ opened. IsOpenedAs kind (trees_of files.history objects names) opened r)

-- Both parts are handed back if they aren't opened. Of honest parts the error is a cause that holds, and
-- a fault if they represent a whole repository.
pub record RefusesParts {F T : Type 0} (files : Ghosts F) (kind : Kind) (objects names : F)
    (result : Result T (OpenRefusal F)) : Type 0 where
  pub refused : files.is_honest objects → files.is_honest names → IfErr result (λ refusal.
      IsOpenCause files.reading_may_fail kind (trees_of files.history objects names) refusal.error)
  pub accepted : (r : Repository) → files.is_honest objects → files.is_honest names
      → StandsWhole kind (trees_of files.history objects names) r
      → IfErr result (λ refusal. IsOpenFault refusal.error)
  pub handed_back : IfErr result (λ refusal. (refusal.objects ≡ objects) × (refusal.names ≡ names))
