-- Objects that were read from a store, and are held by their ids.
use Rattle.std.specs.Prelude.{◌≡◌, List, Option, Some, Result, map, option_map, unwrap_or}
use Rattle.std.specs.BTreeMap.{BTreeMap, get_by, keys}
use Rattle.gix_hash.specs.Id.{Id, id_of}
use Rattle.gix_hash.specs.Order.{id_cmp}
use Rattle.gix_hash.specs.declared.object_id.ObjectId.{ObjectId}
use Rattle.gix_object_lookup.specs.Table.{Table}
use Rattle.history_files.specs.Laws.{table_of}
use Rattle.history_store.specs.declared.objects.Object.{Object}
use Rattle.history_repository.specs.declared.held_objects.HeldObjects.{HeldObjects}
use Rattle.history_repository.specs.Reads.{GivesMeant}
use Rattle.history_repository.specs.declared.stopped.Stopped.{Stopped}
use Rattle.gix_object_lookup.specs.Table as tables
use Rattle.history_model.specs.Repository as plain

-- objects under their ids
abbrev pub Entries : Type 0
Entries = BTreeMap ObjectId Object

abbrev pub object_in : Entries → Id → Option Object
object_in objects id = get_by (λ key. id_cmp id (id_of key)) objects

abbrev pub ids_of : Entries → List Id
ids_of objects = map id_of (keys objects)

abbrev pub table_object : Object → tables.Object
table_object object = record { kind = object.kind; content = object.content.items }

-- this is the table's object of the id
abbrev pub IsAt : Table → Id → Object → Type 0
IsAt table id object = table id ≡ Some (table_object object)

abbrev pub AreAt : Table → Entries → Type 0
AreAt table objects =
    (key : ObjectId) (object : Object) → object_in objects (id_of key) ≡ Some object
    → IsAt table (id_of key) object

-- each object that is held is the table's
abbrev pub AreOf : Table → HeldObjects → Type 0
AreOf table held = AreAt table held.objects

-- if the objects that were held before are the repository's, what is meant, and all that are held
-- since are so too; or a fault of reading
abbrev pub HoldsMore : {T : Type 0} → Type 0 → plain.Repository → HeldObjects → HeldObjects
    → (T → Type 0) → Result T Stopped → Type 0
HoldsMore MayFail r before now IsMeant result =
    AreOf (table_of r) before
    → GivesMeant MayFail (λ value. IsMeant value × AreOf (table_of r) now) result

-- the commit of a tag, or else the commit itself
abbrev pub commit_or : Id → Option ObjectId → Id
commit_or id tagged = unwrap_or (option_map id_of tagged) id
