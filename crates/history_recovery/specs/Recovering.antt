-- What recovery makes of the two parts of a repository, and what it passes through.
use Rattle.std.specs.Prelude.{◌≡◌}
use Rattle.gix_ref_file.specs.Tree.{Tree}
use Rattle.gix_ref_file.specs.History.{History, moment}
use Rattle.gix_ref_file.specs.declared.files.FileError.{FileError}
use Rattle.gix_ref_file.specs.declared.files.Files.{Ghosts}
use Rattle.gix_ref_file.specs.declared.files.FileError.TheVariants as files
use Rattle.history_model.specs.Places.{Pair}
use Rattle.history_model.specs.Recovery.{recovered_names, recovered_objects}
use Rattle.history_model.specs.Moments.{Moment, IsStepPair}
use Rattle.gix_hash.specs.declared.kind.Kind.{Kind}
use Rattle.history_recovery.specs.declared.recovering.RecoverError.{RecoverError}
use Rattle.history_recovery.specs.declared.recovering.RecoverError.TheVariants as errors

-- ---- each part

-- the tree recovers to what the old one does
abbrev pub ObjectsAlike : Tree → Tree → Type 0
ObjectsAlike old tree = recovered_objects tree ≡ recovered_objects old

abbrev pub NamesAlike : Kind → Tree → Tree → Type 0
NamesAlike kind old tree = recovered_names kind tree ≡ recovered_names kind old

-- the tree is what the old one recovers to
abbrev pub AreObjectsRecovered : Tree → Tree → Type 0
AreObjectsRecovered old new = new ≡ recovered_objects old

abbrev pub AreNamesRecovered : Kind → Tree → Tree → Type 0
AreNamesRecovered kind old new = new ≡ recovered_names kind old

-- ---- both

-- the two trees as they are now
abbrev pub pair_of : History → History → Pair
pair_of objects names = record { objects = objects.tree; names = names.tree }

abbrev pub pair_in : {F : Type 0} → Ghosts F → F → F → Pair
pair_in members objects names = pair_of (members.history objects) (members.history names)

-- The moment of both parts, without the counts of failed calls.
abbrev pub now : History → History → Moment
now objects names = record {
  objects = moment objects;
  names = moment names;
  object_failures = 0;
  name_failures = 0;
}

-- A pair since these histories: all changes of the objects part come before the first of the names
-- part.
abbrev pub IsOnTheWay : History → History → History → History → Pair → Type 0
IsOnTheWay old_objects old_names objects names pair =
    IsStepPair objects names (now old_objects old_names) (now objects names) pair

-- ---- errors

abbrev pub recover_fault : FileError → RecoverError
recover_fault files.Failed = errors.File
recover_fault files.Memory = errors.Memory
