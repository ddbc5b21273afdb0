-- Why no object is found whose id a record is to hold.
use Rattle.std.specs.Prelude.{◌≡◌, List, Option, Some, Contains}
use Rattle.gix_hash.specs.Id.{Id, id_of}
use Rattle.gix_object_lookup.specs.Existing.{LookupFault}
use Rattle.gix_object_lookup.specs.Table.{Table}
use Rattle.gix_object_lookup.specs.declared.traits.Lookup.{Ghosts as LookupGhosts}
use Rattle.gix_ref_file.specs.declared.files.Files.{Ghosts}
use Rattle.gix_ref_name.specs.Targets.{Points, ToObject, ToName, target_view}
use Rattle.gix_ref_edit.specs.declared.change.Change.{Change}
use Rattle.gix_ref_edit.specs.declared.change.Change.TheVariants.{Update, Delete}
use Rattle.gix_ref_edit.specs.declared.change.RefEdit.{RefEdit}
use Rattle.gix_ref_store.specs.Peels.{IsLost}
use Rattle.gix_ref_store.specs.declared.store.file.find.Error.TheVariants as find
use Rattle.gix_ref_store.specs.declared.store.file.find.ExistingError.TheVariants as existing
use Rattle.gix_ref_store.specs.declared.store.file.follow.Error.{Error as FollowError}
use Rattle.gix_ref_store.specs.declared.store.file.follow.Error.TheVariants as follow
use Rattle.gix_ref_store.specs.declared.store.file.peel.Error.{Error}
use Rattle.gix_ref_store.specs.declared.store.file.peel.Error.TheVariants.{FollowToObject, Find, NotFound, Memory}
use Rattle.gix_ref_transaction.specs.declared.repacking.error.RepackError.{RepackError}
use Rattle.gix_ref_transaction.specs.declared.repacking.error.RepackError.TheVariants as repack

-- a reading failed, or memory ran out: R says whether readings may fail
abbrev pub GivesUp : Type 0 → FollowError → Type 0
GivesUp R (follow.Follow existing.NotFound) = ⊥
GivesUp R (follow.Follow (existing.Find (find.ReferenceCreation error))) = ⊥
GivesUp R (follow.Follow (existing.Find (find.PackedOpen error))) = ⊥
GivesUp R (follow.Follow (existing.Find find.ReadFileContents)) = R
GivesUp R (follow.Follow (existing.Find find.Memory)) = Unit {0}
GivesUp R follow.Cycle = ⊥
GivesUp R follow.DepthLimitExceeded = ⊥
GivesUp R follow.Memory = Unit {0}

-- the id leads to no object, or a reading or a lookup gave up: M says whether lookups may fail
abbrev pub ResolveFault : Type 0 → Type 0 → Table → Id → Error → Type 0
ResolveFault R M table id (FollowToObject error) = GivesUp R error
ResolveFault R M table id (Find error) = LookupFault M error
ResolveFault R M table id (NotFound oid) = IsLost table id (id_of oid)
ResolveFault R M table id Memory = Unit {0}

-- the same if objects are given, by which ids are packed
abbrev pub PackFault : {O : Type 0} → Type 0 → (O → Type 0) → (O → Table) → Option O → Id → Error
    → Type 0
PackFault {O} R may_fail table given id error =
    (objects : O) × (given ≡ Some objects)
    × ResolveFault R (may_fail objects) (table objects) id error

-- the same of these files and objects
abbrev pub PackCause : {F O : Type 0} → Ghosts F → LookupGhosts O → Option O → Id → Error → Type 0
PackCause files objects given =
    PackFault files.reading_may_fail objects.may_fail objects.table given

-- of the id that a target or a change gives
abbrev pub TargetFault : (Id → Error → Type 0) → Points → Error → Type 0
TargetFault Why (ToObject id) error = Why id error
TargetFault Why (ToName name) error = ⊥

abbrev pub ChangeFault : (Id → Error → Type 0) → Change → Error → Type 0
ChangeFault Why (Update log expected new) error = TargetFault Why (target_view new) error
ChangeFault Why (Delete expected log) error = ⊥

-- of one of these edits
abbrev pub SomeChangeFault : (Id → Error → Type 0) → List RefEdit → Error → Type 0
SomeChangeFault Why edits error =
    (edit : RefEdit) × Contains edits edit × ChangeFault Why edit.change error

-- this is why, if no object is found
abbrev pub IfUnresolved : (Error → Type 0) → RepackError → Type 0
IfUnresolved Why (repack.Resolve error) = Why error
IfUnresolved Why (repack.PackedTransactionAcquire error) = Unit {0}
IfUnresolved Why (repack.PackedTransactionPrepare error) = Unit {0}
IfUnresolved Why repack.Memory = Unit {0}
