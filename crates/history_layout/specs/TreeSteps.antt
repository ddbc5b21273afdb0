-- What a step of one tree does to the half that it holds.
use Rattle.std.specs.Prelude.{List, Contains, ◌⊎◌, ◌≡◌, ◌≢◌, Bool, false, not, ◌&&◌, ◌||◌, ◌++◌, Some, None, option_map, unwrap_or, bytes_eq, IsTrue, IsFalse}
use Rattle.std.specs.FinMap.{get, contains_key, empty}
use Rattle.gix_ref_file.specs.Tree.{Tree, folder}
use Rattle.history_model.specs.Bytes.{Bytes}
use Rattle.history_model.specs.Objects.{Actor, Value, StoredFolder, value_text, id_of, empty_tree_id}
use Rattle.gix_hash.specs.Order.{id_eq}
use Rattle.gix_hash.specs.Id.{Id, null_id}
use Rattle.history_model.specs.Repository.{Repository, LogEntry, IsWholeStore, id_at, Values, HaveOwnIds}
use Rattle.history_model.specs.Meaning.{store_one, store_all, some_taken, is_taken, is_other}
use Rattle.history_model.specs.Places.{file_at, object_place, unfinished_place, is_object_folder}
use Rattle.history_layout.specs.TreeHalves.{HoldsValues}
use Rattle.gix_hash.specs.declared.kind.Kind.{Kind}

-- ---- values

-- The value's text is at its place, each other file is as before, and there are no folders but
-- those of objects.
pub record PutsValue (kind : Kind) (value : Value) (old new : Tree) : Type 0 where
  pub here : file_at new (object_place (id_of kind value)) ≡ Some (value_text kind value)
  pub others : (path : Bytes) → path ≢ object_place (id_of kind value)
      → file_at new path ≡ file_at old path
  pub folders : (path : Bytes) → get new path ≡ Some folder → IsTrue (is_object_folder path)

-- A put of a value whose id isn't taken stores it.
abbrev pub PutsStore : Type 0
PutsStore =
    (kind : Kind) (old new : Tree) (values : Values) (value : Value) → HaveOwnIds kind values
    → IsFalse (is_taken kind values value)
    → HoldsValues kind old values → PutsValue kind value old new
    → HoldsValues kind new (store_one kind values value)

-- If the text of a value is at its place, storing the value changes nothing.
abbrev pub StandingIsStored : Type 0
StandingIsStored =
    (kind : Kind) (tree : Tree) (values : Values) (value : Value) → HaveOwnIds kind values
    → HoldsValues kind tree values
    → file_at tree (object_place (id_of kind value)) ≡ Some (value_text kind value)
    → store_one kind values value ≡ values

-- What is stored under an id that isn't taken has the value's text.
abbrev pub StoredStands : Type 0
StoredStands =
    (kind : Kind) (tree : Tree) (values : Values) (value : Value) → HaveOwnIds kind values
    → HoldsValues kind tree values → IsFalse (is_taken kind values value)
    → IsTrue (contains_key values (id_of kind value))
    → file_at tree (object_place (id_of kind value)) ≡ Some (value_text kind value)

-- whether the file at the value's place has other bytes, or its id is null, or it is the empty
-- tree's though the value is no empty tree
abbrev pub is_taken_at : Kind → Tree → Value → Bool
is_taken_at kind tree value =
    let id = id_of kind value in
    id_eq id (null_id kind)
    || (id_eq id (empty_tree_id kind) && is_other kind (value_text kind (StoredFolder empty)) value)
    || unwrap_or
    (option_map (λ text. not (bytes_eq (value_text kind value) text))
    (file_at tree (object_place id))) false

-- The tree determines whether a value's id is taken.
abbrev pub TreesTellTaken : Type 0
TreesTellTaken =
    (kind : Kind) (tree : Tree) (values : Values) (value : Value) → HaveOwnIds kind values
    → HoldsValues kind tree values
    → is_taken kind values value ≡ is_taken_at kind tree value

-- Storing a value keeps each value under its own id.
abbrev pub OwnIdsStay : Type 0
OwnIdsStay =
    (kind : Kind) (values : Values) (value : Value) → HaveOwnIds kind values
    → HaveOwnIds kind (store_one kind values value)

-- The order of values makes no difference: neither to whether an id of them is taken nor, if none
-- is, to the files and the ids.
pub record StoresAlike (kind : Kind) (values : Values) (more others : List Value) : Type 0 where
  pub taken : some_taken kind values others ≡ some_taken kind values more
  pub holds : (tree : Tree) → IsFalse (some_taken kind values more)
      → HoldsValues kind tree (store_all kind values more)
      → HoldsValues kind tree (store_all kind values others)
  pub ids : (id : Id) → IsFalse (some_taken kind values more)
      → contains_key (store_all kind values others) id
      ≡ contains_key (store_all kind values more) id

-- a value of the same text is stored under the value's id
abbrev pub HasText : Kind → Values → Value → Type 0
HasText kind values value =
    (other : Value) × (get values (id_of kind value) ≡ Some other)
    × (value_text kind other ≡ value_text kind value)

-- This holds even if values are left out whose text is stored already.
abbrev pub StoresInAnyOrder : Type 0
StoresInAnyOrder = (r : Repository) (more others : List Value) → IsWholeStore r
    → ((value : Value) → Contains more value → Contains others value)
    → ((value : Value) → Contains others value
    → Contains more value ⊎ HasText r.kind r.objects value)
    → StoresAlike r.kind r.objects more others

-- There is no file where an object is written before it is renamed to its place.
abbrev pub NoneUnfinished : Type 0
NoneUnfinished =
    (kind : Kind) (tree : Tree) (values : Values) → HaveOwnIds kind values
    → HoldsValues kind tree values → file_at tree unfinished_place ≡ None

-- A text that was written there and renamed is put, if each other file is as before.
pub record RenamesValue (kind : Kind) (value : Value) (old new : Tree) : Type 0 where
  pub here : file_at new (object_place (id_of kind value)) ≡ Some (value_text kind value)
  pub gone : file_at new unfinished_place ≡ None
  pub others : (path : Bytes) → path ≢ unfinished_place → path ≢ object_place (id_of kind value)
      → file_at new path ≡ file_at old path
  pub folders : (path : Bytes) → get new path ≡ Some folder → IsTrue (is_object_folder path)

abbrev pub RenamesPut : Type 0
RenamesPut =
    (kind : Kind) (old new : Tree) (values : Values) (value : Value) → HaveOwnIds kind values
    → HoldsValues kind old values
    → RenamesValue kind value old new → PutsValue kind value old new

-- ---- names

-- the entry of a move to this id
abbrev pub move_entry : Repository → Bytes → Id → Actor → Bytes → LogEntry
move_entry r name id actor message =
    record {
      before =
          unwrap_or (id_at r name) (null_id r.kind);
      after = id;
      actor = actor;
      message = message;
    }
