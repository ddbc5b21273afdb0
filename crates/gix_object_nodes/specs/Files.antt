-- The files that a tree unfolds to, as a map from paths to mode and id, and edits of it (Git's
-- glossary, "tree object"; Pro Git, "Tree Objects"). Trees are followed in a table of trees by
-- their ids. Each path is followed to its own end, so that a cycle of trees does no harm.
use Rattle.std.specs.Prelude.{ℕ, ◌≡◌, ◌≢◌, ◌&&◌, not, Bool, List, [], ◌∷◌, ◌++◌, Option, Some, None, is_some, bytes_eq, if◌then◌else◌}
use Rattle.std.specs.List.{All}
use Rattle.gix_hash.specs.Id.{Id, null_id}
use Rattle.gix_hash.specs.Hasher.{id_of_message, empty_tree_text}
use Rattle.gix_hash.specs.Order.{id_eq}
use Rattle.gix_object_tree.specs.Entry.{Item}
use Rattle.gix_object_tree.specs.Mode.{is_tree_value}
use Rattle.gix_object_tree.specs.ModeText.{Mode}

abbrev pub Bytes : Type 0
Bytes = List ℕ

-- names, one below the other
abbrev pub Path : Type 0
Path = List Bytes

-- what is at a path
pub record Leaf : Type 0 where
  pub mode : Mode
  pub id : Id

abbrev pub FileMap : Type 0
FileMap = Path → Option Leaf

-- the entries of the tree under each id, as far as there are any
abbrev pub Trees : Type 0
Trees = Id → Option (List Item)

-- the table without trees: over it an entry that isn't null is a file, unless a tree was opened for
-- it
abbrev pub no_trees : Trees
no_trees id = None

-- ---- unfolding

abbrev pub is_null : Id → Bool
is_null id = id_eq id (null_id id.kind)

-- the id is that of the tree without entries
abbrev pub IsEmptyTree : Id → Type 0
IsEmptyTree id = id ≡ id_of_message id.kind empty_tree_text

abbrev pub leaf_of : Item → Leaf
leaf_of item = record { mode = item.mode; id = item.id }

-- the entry of this name
abbrev pub named : Bytes → List Item → Option Item
named name [] = None
named name (item ∷ items) = if bytes_eq name item.name then Some item else named name items

abbrev pub through : {A B : Type 0} → Option A → (A → Option B) → Option B
through None f = None
through (Some a) f = f a

-- the tree that an entry leads to
abbrev pub tree_under : Trees → Leaf → Option (List Item)
tree_under trees leaf = if is_tree_value leaf.mode.value then trees leaf.id else None

-- an entry that leads to no tree is a file
abbrev pub unless_tree : {A B : Type 0} → Option A → B → Option B
unless_tree None leaf = Some leaf
unless_tree (Some tree) leaf = None

-- a tree's entry that names one
abbrev pub leads_on : Leaf → Bool
leads_on leaf = is_tree_value leaf.mode.value && not (is_null leaf.id)

-- the entry to which names lead from an entry, over a table of trees. One on the way that names no
-- tree is blocked: what `blocked` says of it is the result
abbrev pub entry_into : (Leaf → Option Leaf) → Trees → Path → Leaf → Option Leaf
entry_into blocked trees [] leaf = Some leaf
entry_into blocked trees (name ∷ rest) leaf =
    if leads_on leaf then through (trees leaf.id) (λ items. through (named name items)
    (λ item. entry_into blocked trees rest (leaf_of item))) else blocked leaf

-- the files of an entry, below it or itself; an entry with the null id has none
abbrev pub files_of_entry : Trees → Path → Leaf → Option Leaf
files_of_entry trees [] leaf = if is_null leaf.id then None else unless_tree
    (tree_under trees leaf) leaf
files_of_entry trees (name ∷ rest) leaf =
    if is_null leaf.id then None
    else through (tree_under trees leaf)
    (λ items. through (named name items) (λ item. files_of_entry trees rest (leaf_of item)))

-- the files of a tree
abbrev pub files_of_tree : Trees → List Item → FileMap
files_of_tree trees items [] = None
files_of_tree trees items (name ∷ rest) = through (named name items)
    (λ item. files_of_entry trees rest (leaf_of item))

-- the entry to which names lead in a tree
abbrev pub entry_of_tree : Trees → List Item → FileMap
entry_of_tree trees items [] = None
entry_of_tree trees items (name ∷ rest) = through (named name items)
    (λ item. entry_into (λ leaf. None) trees rest (leaf_of item))

-- the entry has a file: itself, or one below it
abbrev pub HasFile : Trees → Leaf → Type 0
HasFile trees leaf = (rest : Path) × (file : Leaf) × (files_of_entry trees rest leaf ≡ Some file)

-- ---- edits

-- what follows the first path in the second, if it begins it
abbrev pub behind : Path → Path → Option Path
behind [] q = Some q
behind (name ∷ p) [] = None
behind (name ∷ p) (other ∷ q) = if bytes_eq name other then behind p q else None

-- all at or below the path is taken out
abbrev pub removed : Path → FileMap → FileMap
removed p files q = if is_some (behind p q) then None else files q

abbrev pub put_at : Trees → Leaf → Option Path → Option Leaf → Option Leaf
put_at trees leaf (Some rest) old = files_of_entry trees rest leaf
put_at trees leaf None old = old

-- all at or below the path, and each file above it, is taken out, and what the entry has comes
-- there: itself, or the files of the tree that it leads to
abbrev pub put : Trees → Path → Leaf → FileMap → FileMap
put trees p leaf files q = put_at trees leaf (behind p q)
    (if is_some (behind q p) then None else files q)

-- each file at a beginning of the path, or at its end, is taken out
abbrev pub cleared : Path → FileMap → FileMap
cleared p files q = if is_some (behind q p) then None else files q

-- the first path begins the second
abbrev pub Begins : Path → Path → Type 0
Begins front path = (rest : Path) × (front ++ rest ≡ path)

abbrev pub SameFiles : FileMap → FileMap → Type 0
SameFiles a b = (q : Path) → a q ≡ b q

-- no file is below the path
abbrev pub HasNoneBelow : Path → FileMap → Type 0
HasNoneBelow p files = (name : Bytes) (rest : Path) → files (p ++ name ∷ rest) ≡ None

-- a file is below the path
abbrev pub HasSomeBelow : Path → FileMap → Type 0
HasSomeBelow p files = (name : Bytes) × (rest : Path) × (file : Leaf)
    × (files (p ++ name ∷ rest) ≡ Some file)

-- a path has a name, and none of its names is empty
abbrev pub NamesAreFull : Path → Type 0
NamesAreFull path = (path ≢ []) × All (λ name. name ≢ []) path
