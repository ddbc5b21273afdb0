-- Trees that Git writes, and entries by their names (git-fsck reports emptyName, fullPathname,
-- treeNotSorted and duplicateEntries for others).
use Rattle.std.specs.Prelude.{ℕ, ◌≡◌, ◌≢◌, Bool, List, []}
use Rattle.std.specs.List.{All, AllPairs}
use Rattle.std.specs.declared.cmp.Ordering.TheVariants.{Less}
use Rattle.gix_hash.specs.Order.{digits_cmp}
use Rattle.gix_object_lines.specs.Bytes.{Lacks}
use Rattle.gix_object_tree.specs.Entry.{Item}
use Rattle.gix_object_tree.specs.Order.{is_tree, item_key}

-- a name of one folder: not empty, without `/` and without a zero byte
pub record IsFilename (name : List ℕ) : Type 0 where
  pub some : name ≢ []
  pub within_folder : Lacks 47 name
  pub endless : Lacks 0 name

-- the entry is sorted before the other
abbrev pub ComesBefore : Item → Item → Type 0
ComesBefore item other = digits_cmp (item_key item) (item_key other) ≡ Less

-- each entry comes before all that follow it
abbrev pub IsInOrder : List Item → Type 0
IsInOrder items = AllPairs ComesBefore items

-- no two entries have one name, also not a file and a tree
abbrev pub HasNamesOnce : List Item → Type 0
HasNamesOnce items = AllPairs (λ item other. item.name ≢ other.name) items

pub record IsWellFormed (items : List Item) : Type 0 where
  pub names : All (λ item. IsFilename item.name) items
  pub ordered : IsInOrder items
  pub once : HasNamesOnce items

-- the entry has the name, and names a tree or not, as wanted
abbrev pub IsNamed : List ℕ → Bool → Item → Type 0
IsNamed name of_tree item = (item.name ≡ name) × (is_tree item ≡ of_tree)
