-- What is known of the numbers of paths, while trees are read. H says whether the store returns
-- what the table has, M whether its lookups may fail.
use Rattle.std.specs.Prelude.{ℕ, zero, suc, ◌≡◌, ◌<◌, ◌≤◌, ◌⊎◌, true, List, [], ◌∷◌, Option, None, Some, length, slice_index_or, option_map, bytes_eq, if◌then◌else◌}
use Rattle.gix_hash.specs.Id.{id_of}
use Rattle.gix_object_lines.specs.declared.kind.Kind.TheVariants as kinds
use Rattle.gix_object_tree.specs.Entry.{Item}
use Rattle.gix_object_tree.specs.ModeText.{mode_of}
use Rattle.gix_object_tree.specs.Order.{is_tree}
use Rattle.gix_object_tree.specs.Reading.{Place}
use Rattle.gix_object_lookup.specs.Existing.{KindFault}
use Rattle.gix_object_lookup.specs.Path.{IsBelow, IsNamedBy}
use Rattle.gix_object_lookup.specs.Table.{Table}
use Rattle.gix_traverse_tree.specs.AtPaths.{Answer, IsUnread}
use Rattle.gix_traverse_tree.specs.Folders.{number_in, numbers_of}
use Rattle.gix_traverse_tree.specs.declared.error.Error.{Error}
use Rattle.gix_traverse_tree.specs.declared.error.Error.TheVariants as errors
use Rattle.gix_traverse_tree.specs.declared.folders.Folder.{Folder}

-- what is known of a number
abbrev pub known : List (Option Answer) → ℕ → Option Answer
known found n = slice_index_or found n None

-- the entry of this name that is returned so
abbrev pub item_named : List ℕ → Answer → Item
item_named name answer =
    record { mode = mode_of answer.0; name = name; id = id_of answer.1 }

-- the entry of this name that is known of a number
abbrev pub told_at : List ℕ → List (Option Answer) → ℕ → Option Item
told_at name found n = option_map (item_named name) (known found n)

-- the first entry of the name
abbrev pub named : List ℕ → List Item → Option Item
named name [] = None
named name (item ∷ items) = if bytes_eq name item.name then Some item else named name items

-- what was there before, and otherwise this
abbrev pub else_this : Option Item → Item → Option Item
else_this None item = Some item
else_this (Some before) item = Some before

-- nothing is known of the numbers of a folder's names, each of which has its own
pub record AwaitsNames (folder : Folder) (found : List (Option Answer)) : Type 0 where
  pub within : (name : List ℕ) (n : ℕ) → number_in folder name ≡ Some n → n < length found
  pub none : (name : List ℕ) (n : ℕ) → number_in folder name ≡ Some n → known found n ≡ None
  pub once : (name other : List ℕ) (n : ℕ) → number_in folder name ≡ Some n
      → number_in folder other ≡ Some n → name ≡ other

-- of all other numbers the same is known
pub record KeepsOthers (folder : Folder) (old new : List (Option Answer)) : Type 0 where
  pub len : length new ≡ length old
  pub others : (n : ℕ) → ((name : List ℕ) → number_in folder name ≡ Some n → ⊥)
      → known new n ≡ known old n

-- from what is known to the entry of a name below it: none below none
abbrev pub StepsTo : Type 0 → Table → Option Answer → List ℕ → Option Answer → Type 0
StepsTo H table None name next = next ≡ None
StepsTo H table (Some answer) name next =
    IsBelow H table (item_named [] answer) name (option_map (item_named name) next)

-- a known tree, from which a path goes on
abbrev pub IsAskedFor : Folder → Option Answer → Type 0
IsAskedFor folder None = ⊥
IsAskedFor folder (Some answer) = (is_tree (item_named [] answer) ≡ true)
    × ((name : List ℕ) × (n : ℕ) × (number_in folder name ≡ Some n))

-- such a tree is looked up and counted, and nothing else
abbrev pub CountsAsked : Folder → Option Answer → ℕ → ℕ → Type 0
CountsAsked folder place old new =
    ((new ≡ suc old) × IsAskedFor folder place)
    ⊎ ((new ≡ old) × (IsAskedFor folder place → ⊥))

-- why a known tree isn't read
abbrev pub ReadFault : Type 0 → Type 0 → Table → Folder → Option Answer → Error → Type 0
ReadFault H M table folder None error = ⊥
ReadFault H M table folder (Some answer) (errors.Find error) = IsAskedFor folder (Some answer)
    × KindFault H M table (id_of answer.1) kinds.Tree error
ReadFault H M table folder (Some answer) errors.Cancelled = ⊥
ReadFault H M table folder (Some answer) (errors.ObjectDecode cause) =
    IsAskedFor folder (Some answer)
    × ((tree : Place) × IsNamedBy H table (item_named [] answer) tree × IsUnread tree cause)
ReadFault H M table folder (Some answer) errors.Cycle = ⊥
ReadFault H M table folder (Some answer) errors.Memory = ⊥

-- ---- all numbers below one

-- a known tree has the number, and a path goes on from there
abbrev pub IsAskedAt : List Folder → List (Option Answer) → ℕ → Type 0
IsAskedAt folders found n = (answer : Answer) × (known found n ≡ Some answer)
    × (is_tree (item_named [] answer) ≡ true)
    × ((name : List ℕ) × (m : ℕ) × (numbers_of folders n name ≡ Some m))

-- so many numbers below this one have such trees
abbrev pub Counted : List Folder → List (Option Answer) → ℕ → ℕ → Type 0
Counted folders found zero asked = asked ≡ 0
Counted folders found (suc n) asked = (before : ℕ) × Counted folders found n before
    × (((asked ≡ suc before) × IsAskedAt folders found n)
    ⊎ ((asked ≡ before) × (IsAskedAt folders found n → ⊥)))

-- what is known below each number below this one
abbrev pub StepsBelow : Type 0 → Table → List Folder → List (Option Answer) → ℕ → Type 0
StepsBelow H table folders found below = (i n : ℕ) (name : List ℕ) → i < below
    → numbers_of folders i name ≡ Some n → StepsTo H table (known found i) name (known found n)

-- the trees of all numbers below this one are read, and no other
pub record ReadsBelow (H : Type 0) (table : Table) (folders : List Folder)
    (found : List (Option Answer)) (asked below : ℕ) : Type 0 where
  pub steps : StepsBelow H table folders found below
  pub none : (i n : ℕ) (name : List ℕ) → below ≤ i → numbers_of folders i name ≡ Some n
      → known found n ≡ None
  pub counted : Counted folders found below asked

-- after the trees of all numbers below this one its own isn't read
pub record StopsReading (H M : Type 0) (table : Table) (folders : List Folder)
    (found : List (Option Answer)) (asked : ℕ) (error : Error) : Type 0 where
  pub number : ℕ
  pub steps : StepsBelow H table folders found number
  pub counted : Counted folders found (suc number) asked
  pub folder : Folder
  pub there : (name : List ℕ) → numbers_of folders number name ≡ number_in folder name
  pub fault : ReadFault H M table folder (known found number) error
