-- How far a survey has come: what it has done holds values of the tree, and what is open leads to
-- what comes next.
use Rattle.std.specs.Prelude.{◌≡◌, ◌≢◌, ◌⊎◌, ◌≤◌, ℕ, List, [], ◌∷◌, length, map, take, Contains, Option, Some, None, is_some, option_map, option_and_then, IsTrue, IsFalse}
use Rattle.std.specs.declared.cmp.Ordering.{Ordering}
use Rattle.std.specs.BTreeMap as maps
use Rattle.std.specs.BTreeSet.{BTreeSet}
use Rattle.std.specs.BTreeSet as sets
use Rattle.std.specs.FinMap.{get}
use Rattle.gix_hash.specs.Id.{Id, id_of}
use Rattle.gix_hash.specs.Order.{id_cmp}
use Rattle.gix_hash.specs.declared.kind.Kind.{Kind}
use Rattle.gix_hash.specs.declared.object_id.ObjectId.{ObjectId}
use Rattle.gix_object_lines.specs.declared.kind.Kind.{Kind as ObjectKind}
use Rattle.gix_ref_file.specs.Tree.{Tree, folder}
use Rattle.history_model.specs.Bytes.{Bytes}
use Rattle.history_model.specs.Forms.{is_id, max_path}
use Rattle.history_model.specs.Objects.{Value, object_kind}
use Rattle.history_model.specs.Places.{file_at, is_object_folder, object_place}
use Rattle.history_model.specs.Repository.{Values}
use Rattle.history_check_objects.specs.Flaws.{HasPath, Names}
use Rattle.history_check_objects.specs.Links.{AreReady, Link, PathsWithin}
use Rattle.history_check_objects.specs.Nexts.{IsObject}
use Rattle.history_check_objects.specs.Opened.{AreInTree}
use Rattle.history_check_objects.specs.Stored.{target_of}
use Rattle.history_check_objects.specs.declared.stored.Done.{Done}
use Rattle.history_check_objects.specs.declared.stored.Stored.{Stored}
use Rattle.history_check_objects.specs.declared.order.Frame.{Frame}
use Rattle.history_check_objects.specs.declared.reading.Link as own

-- ---- what is listed

-- Each file is at the place of one of these ids, and each folder is one of objects; at the place of
-- each id there is a file.
pub record AreListed (kind : Kind) (tree : Tree) (ids : List ObjectId) : Type 0 where
  pub formed : (id : ObjectId) → Contains ids id → IsTrue (is_id kind (id_of id))
  pub stand : (id : ObjectId) → Contains ids id
      → (text : Bytes) × (file_at tree (object_place (id_of id)) ≡ Some text)
  pub files : (path text : Bytes) → file_at tree path ≡ Some text
      → (id : ObjectId) × Contains ids id × (path ≡ object_place (id_of id))
  pub folders : (path : Bytes) → get tree path ≡ Some folder → IsTrue (is_object_folder path)

-- ---- what was read

abbrev pub link_of : own.Link → Link
link_of link = record { id = id_of link.id; kind = link.kind; name = link.name }

abbrev pub links_of : List own.Link → List Link
links_of links = map link_of links

-- ---- what is known

-- the order of ids
abbrev pub by_id : ObjectId → ObjectId → Ordering
by_id a b = id_cmp (id_of a) (id_of b)

abbrev pub Unmet : Type 0
Unmet = BTreeSet ObjectId

-- some path below the tree of this id is so long, or nothing is
abbrev pub Reaches : Kind → Tree → Id → ℕ → Type 0
Reaches kind tree id n =
    (n ≡ 0) ⊎ ((path : Bytes) × HasPath kind tree id path × (length path ≡ n))

-- the value that is stored under the id, of the kind and with the paths that were noted
pub record IsDone (kind : Kind) (tree : Tree) (values : Values) (id : Id) (done : Done)
    : Type 0 where
  pub value : Value
  pub stored : get values id ≡ Some value
  pub of_kind : object_kind value ≡ done.kind
  pub within : PathsWithin done.longest value
  pub reaches : Reaches kind tree id done.longest

-- An object that was read, and whose first links are stored.
pub record IsOpen (kind : Kind) (tree : Tree) (values : Values) (frame : Frame) : Type 0 where
  pub content : Bytes
  pub object : IsObject kind tree (id_of frame.id) frame.kind content (links_of frame.links.items)
  pub formed : IsTrue (is_id kind (id_of frame.id))
  pub absent : get values (id_of frame.id) ≡ None
  pub ready : AreReady values frame.kind frame.longest
      (take frame.next (links_of frame.links.items))
  pub reaches : Reaches kind tree (id_of frame.id) frame.longest
  pub most : frame.longest ≤ max_path

-- the last of the open objects, which is the first here, names this one
abbrev pub Leads : Kind → Tree → Id → List Frame → Type 0
Leads kind tree id [] = Unit {0}
Leads kind tree id (frame ∷ frames) =
    (as_kind : ObjectKind) × Names kind tree (id_of frame.id) id as_kind

-- no open object has this id
abbrev pub IsApart : Id → List Frame → Type 0
IsApart id [] = Unit {0}
IsApart id (frame ∷ frames) = (id_of frame.id ≢ id) × IsApart id frames

-- an open object has this id
abbrev pub IsAmong : Id → List Frame → Type 0
IsAmong id [] = ⊥
IsAmong id (frame ∷ frames) = (id_of frame.id ≡ id) ⊎ IsAmong id frames

-- each open object is named by the one below it, and none is open twice
abbrev pub AreOpen : Kind → Tree → Values → List Frame → Type 0
AreOpen kind tree values [] = Unit {0}
AreOpen kind tree values (frame ∷ frames) =
    IsOpen kind tree values frame × IsApart (id_of frame.id) frames
    × Leads kind tree (id_of frame.id) frames × AreOpen kind tree values frames

-- the object that comes next: it is listed, isn't known, and the last of the open ones names it
pub record IsDue (kind : Kind) (tree : Tree) (ids : List ObjectId) (values : Values)
    (unmet : Unmet) (frames : List Frame) (due : ObjectId) : Type 0 where
  pub listed : Contains ids due
  pub absent : get values (id_of due) ≡ None
  pub met : IsFalse (sets.contains by_id unmet due)
  pub apart : IsApart (id_of due) frames
  pub leads : Leads kind tree (id_of due) frames

-- a listed object is to come, is the one that comes next, is open, or is done
abbrev pub IsSomewhere : Unmet → Stored → List Frame → Option ObjectId → ObjectId → Type 0
IsSomewhere unmet stored frames due id =
    IsTrue (sets.contains by_id unmet id)
    ⊎ ((next : ObjectId) × (due ≡ Some next) × (id_of next ≡ id_of id))
    ⊎ IsAmong (id_of id) frames ⊎ IsTrue (is_some (maps.get by_id stored.done id))

-- The survey has come so far: what is done is stored in values of the tree; each listed object is
-- somewhere.
pub record Stands (kind : Kind) (tree : Tree) (ids : List ObjectId) (unmet : Unmet) (stored : Stored)
    (frames : List Frame) (due : Option ObjectId) : Type 0 where
  pub values : Values
  pub in_tree : AreInTree kind tree values
  pub listed : AreListed kind tree ids
  pub known : (id : Id) (value : Value) → get values id ≡ Some value
      → (own : ObjectId) × Contains ids own × (id ≡ id_of own)
  pub dones : (id : ObjectId) (noted : Done) → maps.get by_id stored.done id ≡ Some noted
      → IsDone kind tree values (id_of id) noted
  pub tags : (id : ObjectId) → option_map id_of (maps.get by_id stored.tags id)
      ≡ option_and_then target_of (get values (id_of id))
  pub open_ones : AreOpen kind tree values frames
  pub read : (id : Id) → IsAmong id frames → (own : ObjectId) × Contains ids own × (id ≡ id_of own)
  pub to_come : (id : ObjectId) → IsTrue (sets.contains by_id unmet id)
      → Contains ids id × (get values (id_of id) ≡ None) × IsApart (id_of id) frames
  pub each : (id : ObjectId) → Contains ids id → IsSomewhere unmet stored frames due id
  pub next : (id : ObjectId) → due ≡ Some id → IsDue kind tree ids values unmet frames id
