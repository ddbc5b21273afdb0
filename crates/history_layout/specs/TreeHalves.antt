-- A pair that represents a repository, cut into its two trees: the files of the values, and those
-- of the names.
use Rattle.std.specs.Prelude.{◌≡◌, ◌↔◌, [], Some, option_map, unwrap_or, MatchOption, IsTrue}
use Rattle.std.specs.FinMap.{get}
use Rattle.gix_ref_file.specs.Tree.{Tree, folder}
use Rattle.history_model.specs.Bytes.{Bytes}
use Rattle.history_model.specs.Objects.{Value, value_text}
use Rattle.gix_hash.specs.Id.{Id}
use Rattle.history_model.specs.Repository.{Repository, Values, HaveOwnIds, id_at, moves_at}
use Rattle.history_model.specs.Forms.{is_id}
use Rattle.history_model.specs.Places.{Pair, file_at, object_place, is_object_folder, head_place, packed_place, log_place, is_name_place, is_name_folder}
use Rattle.history_model.specs.PackedNames.{packed_file, PackedAgrees}
use Rattle.history_model.specs.Logs.{log_text}
use Rattle.history_model.specs.NameStates.{Holds, name_state}
use Rattle.history_model.specs.StandsFor.{StandsFor, value_files, head_text}
use Rattle.gix_hash.specs.declared.kind.Kind.{Kind}

-- The tree has the files of these values and no other, and no folders but those of objects.
pub record HoldsValues (kind : Kind) (tree : Tree) (values : Values) : Type 0 where
  pub files : (path : Bytes) → file_at tree path ≡ get (value_files kind values) path
  pub folders : (path : Bytes) → get tree path ≡ Some folder → IsTrue (is_object_folder path)

-- The tree has HEAD, the names and the logs of this repository, and no other file or folder.
pub record HoldsNames (tree : Tree) (r : Repository) : Type 0 where
  pub head : file_at tree head_place ≡ Some (head_text r.branch)
  pub names : (name : Bytes) (id : Id)
      → (name_state r.kind tree name ≡ Holds id) ↔ (id_at r name ≡ Some id)
  pub logs : (name : Bytes)
      → unwrap_or (file_at tree (log_place name)) [] ≡ log_text (moves_at r name)
  pub packed : (text : Bytes) → file_at tree packed_place ≡ Some text
      → MatchOption (packed_file r.kind text) ⊥ (PackedAgrees r)
  pub places : (path text : Bytes) → file_at tree path ≡ Some text → IsTrue (is_name_place r path)
  pub folders : (path : Bytes) → get tree path ≡ Some folder → IsTrue (is_name_folder path)

-- A pair represents a repository exactly if the kinds are equal and each tree holds its half.
abbrev pub HalvesStand : Type 0
HalvesStand = (kind : Kind) (pair : Pair) (r : Repository)
    → StandsFor kind pair r
    ↔ ((r.kind ≡ kind) × HoldsValues r.kind pair.objects r.objects × HoldsNames pair.names r)

-- A tree that holds a repository's names holds them with more values too.
abbrev pub NamesSpeakOfMore : Type 0
NamesSpeakOfMore =
    (tree : Tree) (r : Repository) (values : Values)
    → ((id : Id) (value : Value) → get r.objects id ≡ Some value → get values id ≡ Some value)
    → HoldsNames tree r → HoldsNames tree (record r { objects = values })

-- ---- what a tree of values says

-- Different ids have different places.
abbrev pub PlacesTellIds : Type 0
PlacesTellIds =
    (kind : Kind) (a b : Id) → IsTrue (is_id kind a) → IsTrue (is_id kind b)
    → object_place a ≡ object_place b → a ≡ b

-- At an id's place is the text of what is stored under it, and no file if nothing is.
abbrev pub PlacesTellValues : Type 0
PlacesTellValues =
    (kind : Kind) (tree : Tree) (values : Values) → HoldsValues kind tree values
    → HaveOwnIds kind values
    → (id : Id) → IsTrue (is_id kind id)
    → file_at tree (object_place id) ≡ option_map (value_text kind) (get values id)

-- Nothing is stored under anything but ids of the kind.
abbrev pub ValuesHaveIds : Type 0
ValuesHaveIds =
    (kind : Kind) (values : Values) → HaveOwnIds kind values → (id : Id) (value : Value)
    → get values id ≡ Some value → IsTrue (is_id kind id)
