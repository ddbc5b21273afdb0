-- Entries by their paths: from tree to tree, each under the id that an entry of the one before
-- names.
use Rattle.std.specs.Prelude.{ℕ, ◌≡◌, ◌≢◌, ◌==◌, ◌⊎◌, ⊤, not, IsTrue, List, [], ◌∷◌, ◌++◌, length, filter, Option, None, Some}
use Rattle.std.specs.Bool.{MatchBool}
use Rattle.std.specs.List.{All, slice_split}
use Rattle.gix_object_lines.specs.declared.decode.Error as decode
use Rattle.gix_object_lines.specs.declared.kind.Kind.TheVariants as kinds
use Rattle.gix_object_tree.specs.Entry.{Item, SpellsEntries, SpellsTree, FaultBehind}
use Rattle.gix_object_tree.specs.Order.{is_tree}
use Rattle.gix_object_tree.specs.Reading.{Place}
use Rattle.gix_object_lookup.specs.Existing.{Stands, KindFault}
use Rattle.gix_object_lookup.specs.Table.{Table}
use Rattle.gix_object_lookup.specs.declared.lookup.Error.{Error}
use Rattle.gix_object_lookup.specs.declared.lookup.Error.TheVariants.{Find, Decode, Memory}

-- names, one below the other
abbrev pub Path : Type 0
Path = List (List ℕ)

-- none of the entries has the name
abbrev pub LackName : List ℕ → List Item → Type 0
LackName name items = All (λ item. item.name ≢ name) items

-- ---- a name in one tree

-- the entry is the first of the name that the tree's content spells, or the content spells entries
-- of which none has it
abbrev pub FindsFirst : Place → List ℕ → Option Item → Type 0
FindsFirst tree name None =
    (items : List Item) × SpellsTree tree.kind tree.input items × LackName name items
FindsFirst tree name (Some item) = (front : List Item) × (rest : List ℕ)
    × SpellsEntries tree.kind tree.input (front ++ item ∷ []) rest
    × LackName name front × (item.name ≡ name)

-- entries without the name are spelled, and then none for this cause
abbrev pub IsUnspelled : Place → List ℕ → decode.Error → Type 0
IsUnspelled tree name cause =
    (behind : FaultBehind tree.kind tree.input cause) × LackName name behind.items

-- why a name isn't sought to its end in a tree that is read
abbrev pub NameFault : Place → List ℕ → Error → Type 0
NameFault tree name (Find error) = ⊥
NameFault tree name (Decode cause) = IsUnspelled tree name cause
NameFault tree name Memory = ⊤

-- ---- from tree to tree: `honest` says whether a store answers by its table, `may_fail` whether
-- its lookups may fail

-- the tree that the entry names: its content is stored under the entry's id
abbrev pub IsNamedBy : Type 0 → Table → Item → Place → Type 0
IsNamedBy honest table item tree =
    honest → (tree.kind ≡ item.id.kind) × Stands table item.id kinds.Tree tree.input

-- the entry of the name in the tree that an entry names: none if it names no tree
abbrev pub IsBelow : Type 0 → Table → Item → List ℕ → Option Item → Type 0
IsBelow honest table item name found = MatchBool (is_tree item)
    ((tree : Place) × IsNamedBy honest table item tree × FindsFirst tree name found)
    (found ≡ None)

-- from an entry, if there is one, on by the names of the path
abbrev pub Follows : Type 0 → Table → Option Item → Path → Option Item → Type 0
Follows honest table found [] answer = answer ≡ found
Follows honest table None (name ∷ path) answer = answer ≡ None
Follows honest table (Some item) (name ∷ path) answer = (next : Option Item)
    × IsBelow honest table item name next × Follows honest table next path answer

-- the entry of a path that begins in a tree: none for the path without names
abbrev pub LooksUp : Type 0 → Table → Place → Path → Option Item → Type 0
LooksUp honest table tree [] answer = answer ≡ None
LooksUp honest table tree (name ∷ path) answer = (found : Option Item)
    × FindsFirst tree name found × Follows honest table found path answer

-- the names of a path in one text: what lies between slashes, unless it is empty
abbrev pub names_in : List ℕ → Path
names_in path = filter (λ name. not (length name == 0)) (slice_split (λ byte. byte == 47) path)

-- ---- why none is returned

-- the tree that an entry names isn't given, or the name isn't sought to its end there
abbrev pub BelowFault : Type 0 → Type 0 → Table → Item → List ℕ → Error → Type 0
BelowFault honest may_fail table item name (Find error) =
    IsTrue (is_tree item) × KindFault honest may_fail table item.id kinds.Tree error
BelowFault honest may_fail table item name (Decode cause) = IsTrue (is_tree item)
    × ((tree : Place) × IsNamedBy honest table item tree × IsUnspelled tree name cause)
BelowFault honest may_fail table item name Memory = ⊤

-- names that begin the path lead from an entry to another, and below that one the next name's
-- lookup ends with this error
pub record FollowFault (honest may_fail : Type 0) (table : Table) (item : Item) (path : Path)
    (error : Error) : Type 0 where
  pub front : Path
  pub name : List ℕ
  pub rest : Path
  pub whole : front ++ name ∷ rest ≡ path
  pub last : Item
  pub leads : Follows honest table (Some item) front (Some last)
  pub fault : BelowFault honest may_fail table last name error

-- the lookup of the first name ends with this error, or it finds an entry, and the error is one of
-- the names after it; without names only memory may be missing
abbrev pub PathFault : Type 0 → Type 0 → Table → Place → Path → Error → Type 0
PathFault honest may_fail table tree [] error = error ≡ Memory
PathFault honest may_fail table tree (name ∷ path) error = NameFault tree name error
    ⊎ ((item : Item) × FindsFirst tree name (Some item)
    × FollowFault honest may_fail table item path error)
