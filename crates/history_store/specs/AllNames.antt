-- The names below a folder with the ids that they read as, and whether a name collides with
-- another, packed or not.
use Rattle.std.specs.Prelude.{◌≡◌, ◌⊎◌, Bool, true, false, List, [], ◌∷◌, map, Option, Some, None, if◌then◌else◌, IsSome}
use Rattle.std.specs.FinMap.{FinMap, entries, get}
use Rattle.gix_ref_file.specs.Tree.{Tree}
use Rattle.gix_hash.specs.Id.{Id, id_of}
use Rattle.gix_hash.specs.declared.kind.Kind.{Kind}
use Rattle.gix_ref_store.specs.RefStates.{Met}
use Rattle.gix_ref_way.specs.Ways.{IsAbove}
use Rattle.history_model.specs.Bytes.{Bytes, by_bytes}
use Rattle.history_model.specs.FileMap.{is_below}
use Rattle.history_model.specs.Forms.{is_name}
use Rattle.history_store.specs.Packing.{id_read, told_id}
use Rattle.history_store.specs.declared.listed.NamedId.{NamedId}

-- ---- below a folder

-- an id for each of some names, which are in the order of their bytes
abbrev pub NameIds : Type 0
NameIds = FinMap by_bytes Id

-- a name and its id
abbrev pub name_entry : NamedId → Bytes × Id
name_entry named = (named.name.items, id_of named.id)

-- the id that a name below the folder reads as; none of any other name
abbrev pub id_below : Kind → Tree → Bytes → Bytes → Option Id
id_below kind tree folder name = if is_below folder name then id_read kind tree name else None

-- The names below the folder that read as an id, with these, each once and in order.
pub record ListsAll (kind : Kind) (tree : Tree) (folder : Bytes)
    (names : List NamedId) : Type 0 where
  pub ids : NameIds
  pub each : (name : Bytes) → get ids name ≡ id_below kind tree folder name
  pub are : map name_entry names ≡ entries ids

-- a name with its id before others, if it has one
abbrev pub with_entry : Bytes → Option Id → List (Bytes × Id) → List (Bytes × Id)
with_entry name None later = later
with_entry name (Some id) later = (name, id) ∷ later

-- those of what is listed that a repository may hold and that have an id
abbrev pub entries_of : List Met → List (Bytes × Id)
entries_of [] = []
entries_of (met ∷ mets) =
    with_entry met.name (if is_name met.name then told_id met.ref_state else None)
    (entries_of mets)

-- ---- in a name's way

-- whether a folder of the name reads as an id
abbrev pub TellsHeldAbove : Kind → Bytes → Tree → Bool → Type 0
TellsHeldAbove kind name tree true =
    (other : Bytes) × IsAbove other name × IsSome (id_read kind tree other)
TellsHeldAbove kind name tree false =
    (other : Bytes) → IsAbove other name → id_read kind tree other ≡ None

-- whether a name below this one reads as an id
abbrev pub TellsHeldBelow : Kind → Bytes → Tree → Bool → Type 0
TellsHeldBelow kind name tree true =
    (other : Bytes) × IsAbove name other × IsSome (id_read kind tree other)
TellsHeldBelow kind name tree false =
    (other : Bytes) → IsAbove name other → id_read kind tree other ≡ None

-- Whether the name collides with another: one of its folders, or a name below it, reads as an id.
abbrev pub TellsMeeting : Kind → Bytes → Tree → Bool → Type 0
TellsMeeting kind name tree true =
    (other : Bytes) × (IsAbove other name ⊎ IsAbove name other)
    × IsSome (id_read kind tree other)
TellsMeeting kind name tree false =
    (other : Bytes) → IsAbove other name ⊎ IsAbove name other → id_read kind tree other ≡ None
