-- What is at several paths below a root, and the trees that are looked up on the way. H says
-- whether the store returns what the table has, M whether its lookups may fail.
use Rattle.std.specs.Prelude.{ℕ, ◌≡◌, ◌≢◌, ◌==◌, ◌⊎◌, ⊤, true, false, List, [], ◌∷◌, ◌++◌, Option, Some, length, option_map, Contains}
use Rattle.std.specs.List.{AllByRecursion, AllZip, slice_split}
use Rattle.gix_hash.specs.Id.{Id, id_of}
use Rattle.gix_hash.specs.declared.object_id.ObjectId.{ObjectId}
use Rattle.gix_object_lines.specs.declared.decode.Error as decode
use Rattle.gix_object_lines.specs.declared.kind.Kind.TheVariants as kinds
use Rattle.gix_object_tree.specs.Entry.{Item, FaultBehind}
use Rattle.gix_object_tree.specs.Mode.{kind_value}
use Rattle.gix_object_tree.specs.ModeText.{Mode, mode_of}
use Rattle.gix_object_tree.specs.Order.{is_tree}
use Rattle.gix_object_tree.specs.Reading.{Place}
use Rattle.gix_object_tree.specs.declared.tree.mode.EntryKind.TheVariants as entries
use Rattle.gix_object_tree.specs.declared.tree.mode.EntryMode.{EntryMode}
use Rattle.gix_object_lookup.specs.Existing.{KindFault}
use Rattle.gix_object_lookup.specs.Path.{Path, Follows, IsNamedBy}
use Rattle.gix_object_lookup.specs.Table.{Table}
use Rattle.gix_traverse_tree.specs.declared.error.Error.{Error}
use Rattle.gix_traverse_tree.specs.declared.error.Error.TheVariants as errors

-- the names of a path: what lies between its slashes
abbrev pub names_of : List ℕ → Path
names_of path = slice_split (λ byte. byte == 47) path

-- a root as an entry: a tree without a name
abbrev pub root_item : Id → Item
root_item id =
    record {
      mode =
          record { value = kind_value entries.Tree; padded = false };
      name = [];
      id = id;
    }

-- the entry to which names lead from the root: none if one of them isn't there or lies in no tree
abbrev pub LeadsTo : Type 0 → Table → Id → Path → Option Item → Type 0
LeadsTo H table root names found = Follows H table (Some (root_item root)) names found

-- an entry as it is returned
abbrev pub Answer : Type 0
Answer = EntryMode × ObjectId

-- what is returned of an entry
abbrev pub told_of : Answer → Mode × Id
told_of answer = (mode_of answer.0, id_of answer.1)

-- the answer is the entry at the path
abbrev pub TellsAt : Type 0 → Table → Id → Path → Option Answer → Type 0
TellsAt H table root names answer = (found : Option Item) × LeadsTo H table root names found
    × (option_map told_of answer ≡ option_map (λ (item : Item). (item.mode, item.id)) found)

-- an answer for each path, in their order
abbrev pub TellsEach : Type 0 → Table → Id → List Path → List (Option Answer) → Type 0
TellsEach H table root paths answers = AllZip (TellsAt H table root) paths answers

-- ---- the trees that are looked up

-- the path begins with these names, and doesn't end with them
abbrev pub Begins : Path → Path → Type 0
Begins path front = (name : List ℕ) × (rest : Path) × (front ++ name ∷ rest ≡ path)

-- one of the paths does
abbrev pub BeginsOne : List Path → Path → Type 0
BeginsOne [] front = ⊥
BeginsOne (path ∷ paths) front = Begins path front ⊎ BeginsOne paths front

-- one of the paths begins with these names, which lead to a tree
pub record IsTreeAbove (H : Type 0) (table : Table) (root : Id) (paths : List Path)
    (front : Path) : Type 0 where
  pub begins : BeginsOne paths front
  pub item : Item
  pub tree : is_tree item ≡ true
  pub leads : LeadsTo H table root front (Some item)

-- no two of them are one
abbrev pub AreDifferent : List Path → Type 0
AreDifferent [] = ⊤
AreDifferent (front ∷ fronts) =
    AllByRecursion (λ other. other ≢ front) fronts × AreDifferent fronts

-- so many trees are looked up: one at a time, and none twice, at beginnings of the paths
pub record AsksFor (H : Type 0) (table : Table) (root : Id) (paths : List Path)
    (asked : ℕ) : Type 0 where
  pub fronts : List Path
  pub count : length fronts ≡ asked
  pub once : AreDifferent fronts
  pub above : AllByRecursion (IsTreeAbove H table root paths) fronts

-- all that the paths lead into, if the store returns what the table has
pub record AsksForAll (H : Type 0) (table : Table) (root : Id) (paths : List Path)
    (asked : ℕ) : Type 0 where
  pub asks : AsksFor H table root paths asked
  pub whole : H → (front : Path) → IsTreeAbove H table root paths front
      → Contains asks.fronts front

-- ---- why none is returned

-- entries begin the content, and then, before its end, none does for this cause
abbrev pub IsUnread : Place → decode.Error → Type 0
IsUnread tree cause = (behind : FaultBehind tree.kind tree.input cause) × (behind.rest ≢ [])

-- why one of these trees isn't read: it isn't found, or it has an entry that isn't spelled
abbrev pub EntriesFault : Type 0 → Type 0 → Table → Id → List Path → Error → Type 0
EntriesFault H M table root paths (errors.Find error) = (front : Path)
    × (above : IsTreeAbove H table root paths front)
    × KindFault H M table above.item.id kinds.Tree error
EntriesFault H M table root paths errors.Cancelled = ⊥
EntriesFault H M table root paths (errors.ObjectDecode cause) = (front : Path)
    × (above : IsTreeAbove H table root paths front) × (tree : Place)
    × IsNamedBy H table above.item tree × IsUnread tree cause
EntriesFault H M table root paths errors.Cycle = ⊥
EntriesFault H M table root paths errors.Memory = ⊤
