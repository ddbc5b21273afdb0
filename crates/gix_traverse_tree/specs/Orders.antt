-- The entries that lie under a tree, with their paths, in both orders. H says whether the store
-- returns what the table has.
use Rattle.std.specs.Prelude.{ℕ, ◌≡◌, ◌≢◌, ⊤, true, false, List, [], ◌∷◌, ◌++◌, Option, Some, None, if◌then◌else◌}
use Rattle.std.specs.List.{AllByRecursion}
use Rattle.gix_hash.specs.Id.{Id}
use Rattle.gix_hash.specs.declared.kind.Kind.{Kind}
use Rattle.gix_object_lines.specs.Bytes.{Lacks}
use Rattle.gix_object_lines.specs.declared.kind.Kind.TheVariants as kinds
use Rattle.gix_object_tree.specs.Entry.{Item, SpellsEntry}
use Rattle.gix_object_tree.specs.Order.{is_tree}
use Rattle.gix_object_lookup.specs.Table.{Table}
use Rattle.gix_object_lookup.specs.Existing.{Stands}
use Rattle.gix_traverse_tree.specs.Calls.{Call, push}
use Rattle.gix_traverse_tree.specs.Recorder.{Bytes, Recorded, joined, recording_of}
use Rattle.gix_traverse_tree.specs.declared.recorder.Location.{Location}
use Rattle.gix_traverse_tree.specs.declared.recorder.Location.TheVariants.{Path, FileName}
use Rattle.gix_traverse_tree.specs.declared.recorder.Recorder.{Recorder}

-- what is recorded of where a name lies: its whole path, itself, or nothing
abbrev pub tracked : Option Location → Bytes → Bytes → Bytes
tracked (Some Path) folder name = joined folder name
tracked (Some FileName) folder name = name
tracked None folder name = []

-- an entry of the tree at this folder
abbrev pub recorded_in : Option Location → Bytes → Item → Recorded
recorded_in location folder item =
    record { mode = item.mode; path = tracked location folder item.name; id = item.id }

-- the folder of an entry's own entries
abbrev pub folder_in : Bytes → Item → Bytes
folder_in folder item = joined folder item.name

-- ---- each entry, then what lies in it, then the entry after it

pub data InOrder (H : Type 0) (table : Table) (location : Option Location) : Kind → Bytes → List ℕ
    → List Recorded → Type 0 where
  none : {ids : Kind} {folder : Bytes} → InOrder H table location ids folder [] []
  file : {ids : Kind} {folder : Bytes} {content rest : List ℕ} {item : Item} {more : List Recorded}
      → SpellsEntry ids content item rest → is_tree item ≡ false
      → InOrder H table location ids folder rest more
      → InOrder H table location ids folder content (recorded_in location folder item ∷ more)
  tree : {ids : Kind} {folder : Bytes} {content rest below : List ℕ} {item : Item}
      {inside more : List Recorded}
      → SpellsEntry ids content item rest → is_tree item ≡ true
      → (H → Stands table item.id kinds.Tree below)
      → InOrder H table location item.id.kind (folder_in folder item) below inside
      → InOrder H table location ids folder rest more
      → InOrder H table location ids folder content
      (recorded_in location folder item ∷ (inside ++ more))

-- ---- the entries of a tree, then those of the trees among them, and so on

-- a tree and its folder
abbrev pub Folder : Type 0
Folder = Bytes × Id

abbrev pub folders_in : Bytes → Item → List Folder
folders_in folder item = if is_tree item then (folder_in folder item, item.id) ∷ [] else []

-- the entries of one tree, and the folders among them
pub data Listed (location : Option Location) (ids : Kind) (folder : Bytes) : List ℕ
    → List Recorded → List Folder → Type 0 where
  none : Listed location ids folder [] [] []
  entry : {content rest : List ℕ} {item : Item} {more : List Recorded} {folders : List Folder}
      → SpellsEntry ids content item rest → Listed location ids folder rest more folders
      → Listed location ids folder content (recorded_in location folder item ∷ more)
      (folders_in folder item ++ folders)

-- the entries of these folders, each one's own folders after all others
pub data LevelByLevel (H : Type 0) (table : Table) (location : Option Location) : List Folder
    → List Recorded → Type 0 where
  none : LevelByLevel H table location [] []
  folder : {folder : Bytes} {id : Id} {rest below : List Folder} {content : List ℕ}
      {here more : List Recorded}
      → (H → Stands table id kinds.Tree content) → Listed location id.kind folder content here below
      → LevelByLevel H table location (rest ++ below) more
      → LevelByLevel H table location ((folder, id) ∷ rest) (here ++ more)

-- ---- names

-- a name of one folder, as Git writes it
abbrev pub IsName : Bytes → Type 0
IsName name = (name ≢ []) × Lacks 47 name

-- each name that is pushed is such a name
abbrev pub TellsName : Call → Type 0
TellsName (push name) = IsName name
TellsName call = ⊤

abbrev pub HasNames : List Call → Type 0
HasNames calls = AllByRecursion TellsName calls

-- ---- what a recorder has after a whole walk

-- no path is built or queued yet
abbrev pub IsFresh : Recorder → Type 0
IsFresh recorder = ((recording_of recorder).queue ≡ []) × ((recording_of recorder).path ≡ [])

-- the entries of the tree under the id were added in order
abbrev pub RecordsInDepth : Type 0 → Table → Id → Recorder → Recorder → Type 0
RecordsInDepth H table id old new =
    (content : List ℕ) × (found : List Recorded) × (H → Stands table id kinds.Tree content)
    × InOrder H table (recording_of old).location id.kind [] content found
    × ((recording_of new).entries ≡ (recording_of old).entries ++ found)

-- the entries of a tree of this content were added, then those of the trees among them, level by
-- level
abbrev pub RecordsInBreadth : Type 0 → Table → Kind → List ℕ → Recorder → Recorder → Type 0
RecordsInBreadth H table ids content old new = (here more : List Recorded) × (folders : List Folder)
    × Listed (recording_of old).location ids [] content here folders
    × LevelByLevel H table (recording_of old).location folders more
    × ((recording_of new).entries ≡ (recording_of old).entries ++ (here ++ more))
