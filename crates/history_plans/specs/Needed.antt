-- Which of a commit's objects need storing.
use Rattle.std.specs.Prelude.{◌≡◌, ◌⊎◌, List, Contains}
use Rattle.gix_hash.specs.Id.{id_of}
use Rattle.gix_hash.specs.declared.kind.Kind.{Kind}
use Rattle.gix_object_lookup.specs.Existing.{Stands}
use Rattle.history_model.specs.Objects.{Value, value_text}
use Rattle.history_model.specs.Meaning.{some_taken, store_all}
use Rattle.history_model.specs.Repository.{IsWholeStore}
use Rattle.history_model.specs.Repository as plain
use Rattle.history_layout.specs.Passing.{StoresWhole}
use Rattle.history_layout.specs.TreeSteps.{HasText}
use Rattle.history_files.specs.Laws.{table_of}
use Rattle.history_files.specs.declared.read_trees.ReadTrees.{ReadTrees}
use Rattle.history_texts.specs.declared.object.NewObject.{NewObject}
use Rattle.history_store.specs.Stores.{AreObjectsOf, text_of}
use Rattle.history_repository.specs.Reads.{AreTrees}

-- one of the objects has the object's text
abbrev pub HasEqual : List NewObject → NewObject → Type 0
HasEqual objects object =
    (other : NewObject) × Contains objects other × (text_of other ≡ text_of object)

-- the object is stored, if each tree that was read is
abbrev pub WasRead : ReadTrees → NewObject → Type 0
WasRead read object =
    (r : plain.Repository) → AreTrees r read
    → Stands (table_of r) (id_of object.id) object.kind object.content.items

-- one of the values has the value's text
abbrev pub HasTextAmong : Kind → List Value → Value → Type 0
HasTextAmong kind values value =
    (other : Value) × Contains values other × (value_text kind other ≡ value_text kind value)

-- Storing the fewer values leaves what storing all leaves, and takes an id exactly if that does.
pub record StoresSame (r : plain.Repository) (values fewer : List Value) : Type 0 where
  pub taken : some_taken r.kind r.objects fewer ≡ some_taken r.kind r.objects values
  pub stored : store_all r.kind r.objects fewer ≡ store_all r.kind r.objects values

-- The objects are those of some of the values, and the text of each other value is among theirs, or
-- is stored already. So storing them leaves the same, and is on the way as whole.
pub record AreNeeded (r : plain.Repository) (values : List Value)
    (objects : List NewObject) : Type 0 where
  pub fewer : List Value
  pub objects_are : AreObjectsOf r.kind fewer objects
  pub among : (value : Value) → Contains fewer value → Contains values value
  pub all : (value : Value) → Contains values value
      → HasTextAmong r.kind fewer value ⊎ HasText r.kind r.objects value
  pub same : StoresSame r values fewer
  pub whole : StoresWhole r values → StoresWhole r fewer

-- the same of whichever values the objects are of, over a whole store from which the trees were
-- read
abbrev pub AreNeededOf : ReadTrees → List NewObject → List NewObject → Type 0
AreNeededOf read objects needed =
    (r : plain.Repository) (values : List Value) → IsWholeStore r → AreTrees r read
    → AreObjectsOf r.kind values objects → AreNeeded r values needed
