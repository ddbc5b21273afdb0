-- What is stored in each of the two parts, and what storing values makes of it.
use Rattle.std.specs.Prelude.{◌≡◌, ⊤, List, Result, Ok, Err, IsTrue, IsFalse}
use Rattle.gix_ref_file.specs.History.{History}
use Rattle.gix_ref_file.specs.Tree.{Tree}
use Rattle.history_model.specs.Objects.{Value}
use Rattle.history_model.specs.Repository.{Values, HaveOwnIds}
use Rattle.history_model.specs.Meaning.{some_taken, store_all}
use Rattle.history_layout.specs.TreeHalves.{HoldsValues}
use Rattle.gix_hash.specs.declared.kind.Kind.{Kind}
use Rattle.history_model.specs.declared.Fault.TheVariants.{Memory, File, IdTaken}
use Rattle.std.specs.FinMap.{contains_key}
use Rattle.gix_hash.specs.Id.{Id}
use Rattle.history_repository.specs.Face.{objects_part, names_part, known_ids}
use Rattle.history_repository.specs.declared.repository.Repository.{Repository}
use Rattle.history_repository.specs.declared.stopped.Stopped.{Stopped}
use Rattle.history_repository.specs.declared.stopped.Stopped.TheVariants.{Refused, Fault}
use Rattle.history_store.specs.KnownObjects.{HasKnown}
use Rattle.history_store.specs.ObjectsFace.{kind_of_objects}
use Rattle.history_store.specs.Changing.{HoldNamesOf}
use Rattle.history_model.specs.Repository as plain

-- the tree of a part
abbrev pub objects_tree : {F : Type 0} → (F → History) → Repository F → Tree
objects_tree history repository = (history (objects_part repository)).tree

abbrev pub names_tree : {F : Type 0} → (F → History) → Repository F → Tree
names_tree history repository = (history (names_part repository)).tree

-- The objects part is honest and holds these values, each under its own id, and what is known of
-- it is so.
pub record ObjectsStand {F : Type 0} (IsHonest : F → Type 0) (history : F → History)
    (repository : Repository F) (values : Values) : Type 0 where
  pub honest : IsHonest (objects_part repository)
  pub holds : HoldsValues (kind_of_objects repository.objects)
      (objects_tree history repository) values
  pub own_ids : HaveOwnIds (kind_of_objects repository.objects) values
  pub exist : HasKnown (objects_tree history repository) repository.objects

-- The ids that are known are those of these values.
abbrev pub KnowsIds : {F : Type 0} → Repository F → Values → Type 0
KnowsIds repository values =
    (id : Id) → contains_key (known_ids repository) id ≡ contains_key values id

-- The names part is honest and holds the names of this repository, and the records that are kept
-- are those of its `packed-refs`.
abbrev pub NamesStand : {F : Type 0} → (F → Type 0) → (F → History) → Repository F
    → plain.Repository → Type 0
NamesStand IsHonest history repository r = HoldNamesOf IsHonest history repository.names r

-- No id is taken, and the tree holds these values beside those that were stored; or one is taken,
-- or a fault was met.
abbrev pub StoresValues : Type 0 → Kind → Values → List Value → Tree → Result (Unit {0}) Stopped
    → Type 0
StoresValues CallFailed kind values more new (Ok done) =
    IsFalse (some_taken kind values more) × HoldsValues kind new (store_all kind values more)
StoresValues CallFailed kind values more new (Err (Refused cause)) = ⊥
StoresValues CallFailed kind values more new (Err (Fault Memory)) = ⊤
StoresValues CallFailed kind values more new (Err (Fault File)) = CallFailed
StoresValues CallFailed kind values more new (Err (Fault IdTaken)) =
    IsTrue (some_taken kind values more)
