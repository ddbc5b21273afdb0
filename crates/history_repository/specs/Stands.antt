-- The plain repository that a repository with its files represents.
use Rattle.std.specs.Prelude.{◌≡◌}
use Rattle.gix_ref_file.specs.History.{History}
use Rattle.history_model.specs.Places.{Pair}
use Rattle.history_model.specs.StandsFor.{StandsWhole}
use Rattle.history_model.specs.Recovery.{recovered}
use Rattle.history_repository.specs.declared.repository.Repository.{Repository}
use Rattle.std.specs.FinMap.{contains_key}
use Rattle.gix_traverse_commit_known.specs.Told.{rows_of}
use Rattle.gix_hash.specs.Id.{Id}
use Rattle.history_repository.specs.Face.{objects_part, names_part, known_ids, rows_in}
use Rattle.history_repository.specs.KeptRows.{AgreeRows}
use Rattle.history_store.specs.KnownObjects.{HasKnown}
use Rattle.history_store.specs.NamesFace.{kind_of_names}
use Rattle.history_store.specs.ObjectsFace.{kind_of_objects}
use Rattle.history_store.specs.Packing.{KeepsRecords}
use Rattle.history_model.specs.Repository as plain

-- the two trees of its parts
abbrev pub pair_of : {F : Type 0} → (F → History) → Repository F → Pair
pair_of history repository =
    record {
      objects =
          (history (objects_part repository)).tree;
      names = (history (names_part repository)).tree;
    }

-- Both parts are honest files, and the pair of their trees represents this plain repository, which
-- is whole and in its written form; what is kept in memory is its own.
pub record Stands {F : Type 0} (IsHonest : F → Type 0) (history : F → History)
    (repository : Repository F) (r : plain.Repository) : Type 0 where
  pub honest_objects : IsHonest (objects_part repository)
  pub honest_names : IsHonest (names_part repository)
  pub whole : StandsWhole r.kind (pair_of history repository) r
  pub objects_kind : kind_of_objects repository.objects ≡ r.kind
  pub names_kind : kind_of_names repository.names ≡ r.kind
  pub branch : repository.branch.items ≡ r.branch
  -- the ids that are known are those of what is stored
  pub known : (id : Id) → contains_key (known_ids repository) id ≡ contains_key r.objects id
  -- what else is known of the objects is so: folders, and which are commits
  pub exist : HasKnown (pair_of history repository).objects repository.objects
  -- the records that are kept are those of `packed-refs`
  pub records : KeepsRecords repository.names (pair_of history repository).names
  -- the rows that are kept say what is stored of their commits
  pub rows : AgreeRows r.kind r.objects (rows_of (rows_in repository))

-- What recovery makes of the two trees represents this plain repository, which is whole and in its
-- written form.
abbrev pub RecoversTo : {F : Type 0} → (F → History) → Repository F → plain.Repository → Type 0
RecoversTo history repository r =
    StandsWhole r.kind (recovered r.kind (pair_of history repository)) r
