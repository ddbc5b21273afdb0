-- What is handed out when opened trees are written.
use Rattle.std.specs.Prelude.{ℕ, ◌≡◌, ◌≢◌, ◌⊎◌, false, List, [], ◌∷◌, ◌++◌, map, Result, Ok, Err, Some, None, ⊤}
use Rattle.std.specs.Borrow.{Bor}
use Rattle.std.specs.Fn.{Mut, CalledAt}
use Rattle.std.specs.List.{All, Contains, FoldsTo}
use Rattle.gix_hash.specs.Id.{Id, id_of}
use Rattle.gix_hash.specs.declared.object_id.ObjectId.{ObjectId}
use Rattle.gix_object_tree.specs.Entry.{Item, own_item}
use Rattle.gix_object_tree.specs.WellFormed.{IsFilename, IsWellFormed}
use Rattle.gix_object_tree.specs.declared.tree.owned.Tree.{Tree}
use Rattle.gix_object_nodes.specs.declared.node.Slot.{Slot}
use Rattle.gix_object_nodes.specs.declared.write.error.Error.{Error}
use Rattle.gix_object_nodes.specs.declared.write.error.Error.TheVariants.{Out, Memory}
use Rattle.gix_object_nodes.specs.declared.node.Node.{Node}
use Rattle.gix_object_nodes.specs.Files.{Bytes, Path, FileMap, Trees, Begins, is_null, leaf_of, named, through, behind, files_of_tree}
use Rattle.gix_object_nodes.specs.Nodes.{Slots, leaf_in, files_of_node, LeadsTo}
use Rattle.gix_object_nodes.specs.Marks.{due_in, IsChangedIn}
use Rattle.gix_object_nodes.specs.Writing.{folder_mode}

-- a tree that was handed out: the folder that it is, its entries, and the id that was returned
pub record HandedOut : Type 0 where
  pub path : Path
  pub items : List Item
  pub id : Id

-- the table has each of these trees under its id, and none of the ids is null
abbrev pub HasHandedOut : List HandedOut → Trees → Type 0
HasHandedOut handed trees = All (λ tree. (trees tree.id ≡ Some tree.items)
    × (is_null tree.id ≡ false)) handed

-- the files of the tree under an id
abbrev pub files_under : Trees → Id → FileMap
files_under trees id path = through (trees id) (λ items. files_of_tree trees items path)

-- ---- the order

-- each has this with those before it
abbrev pub EachBehind : {X : Type 0} → (List X → X → Type 0) → List X → List X → Type 0
EachBehind R before [] = ⊤
EachBehind R before (x ∷ xs) = R before x × EachBehind R (before ++ x ∷ []) xs

-- the opened tree at the path has this entry, for which no tree was opened
abbrev pub StandsUnopened : Slots → Path → Item → Type 0
StandsUnopened slots path item = (j : ℕ) × (s : Slot) × LeadsTo slots path j []
    × (slots j item.name ≡ Some s) × (s.child ≡ None) × (leaf_in s ≡ leaf_of item)

-- the entry names a folder's tree that was handed out before
abbrev pub NamesFolder : List HandedOut → Path → Item → Type 0
NamesFolder before path item = (child : HandedOut) × Contains before child
    × (child.path ≡ path ++ item.name ∷ []) × (child.id ≡ item.id) × (item.mode ≡ folder_mode)

-- it does, or an opened tree had it so
abbrev pub IsKnown : Slots → List HandedOut → Path → Item → Type 0
IsKnown slots before path item = NamesFolder before path item ⊎ StandsUnopened slots path item

-- a tree that is handed out after these
pub record IsHandedOut (slots : Slots) (before : List HandedOut) (tree : HandedOut) : Type 0 where
  -- it was opened
  pub opened : (j : ℕ) × LeadsTo slots tree.path j []
  -- neither it nor a tree that it lies in was handed out before
  pub once : All (λ earlier. behind earlier.path tree.path ≡ None) before
  pub known : All (IsKnown slots before tree.path) tree.items
  -- each entry's name is that of one in the opened tree
  pub stand : All (λ item. (j : ℕ) × (s : Slot) × LeadsTo slots tree.path j []
      × (slots j item.name ≡ Some s)) tree.items
  pub no_null : All (λ item. is_null item.id ≡ false) tree.items
  -- an entry that names the empty tree was in the opened tree
  pub no_empty : (trees : Trees) → HasHandedOut before trees
      → All (λ item. trees item.id ≡ Some [] → StandsUnopened slots tree.path item) tree.items
  pub well_formed : All (λ item. IsFilename item.name) tree.items → IsWellFormed tree.items
  -- no file is at or below a name that has no entry, unless the null id was returned for a tree
  pub complete : All (λ earlier. is_null earlier.id ≡ false) before → (name : Bytes) (rest : Path)
      → named name tree.items ≡ None
      → (trees : Trees) → files_of_node trees slots 0 (tree.path ++ name ∷ rest) ≡ None
  -- it has the files below its path
  pub files : (trees : Trees) → HasHandedOut before trees → (q : Path)
      → files_of_tree trees tree.items q ≡ files_of_node trees slots 0 (tree.path ++ q)

-- the tree is the one at this path, or lies in it: then an edit changed it, and it has entries
pub record IsDueAt (nodes : List Node) (path : Path) (tree : HandedOut) : Type 0 where
  pub below : Begins path tree.path
  pub changed : (tree.path ≡ path) ⊎ ((tree.items ≢ []) × IsChangedIn nodes tree.path)

-- ---- calls

module _ {F E : Type 0} (calls : Mut F (Bor Tree × Unit {0}) (Result ObjectId E)) where
  -- a call hands out this tree, and returns its id
  abbrev pub HandsOut : F → HandedOut → F → Type 0
  HandsOut before tree after = (shown : Tree) × (oid : ObjectId)
      × CalledAt calls before shown (Ok oid) after
      × (map own_item shown.entries.items ≡ tree.items) × (id_of oid ≡ tree.id)

  -- trees at the path or below it, which are due from this number down, are handed out one after
  -- another
  pub record HandsOutSome (nodes : List Node) (from : ℕ) (path : Path) (out : F)
      (handed : List HandedOut) (after : F) : Type 0 where
    pub calls_made : FoldsTo HandsOut out handed after
    pub in_order : EachBehind (IsHandedOut (due_in nodes from)) [] handed
    pub due : All (IsDueAt nodes path) handed

  -- one more is handed out after them, and the call returns this error
  pub record FailsBehind (nodes : List Node) (from : ℕ) (path : Path) (handed : List HandedOut)
      (before : F) (error : E) (after : F) : Type 0 where
    pub shown : Tree
    pub called : CalledAt calls before shown (Err error) after
    pub at : Path
    pub next : (id : Id) → IsHandedOut (due_in nodes from) handed
        (record { path = at; items = map own_item shown.entries.items; id = id })
    pub due : (id : Id) → IsDueAt nodes path
        (record { path = at; items = map own_item shown.entries.items; id = id })

  -- why no id is returned, and what was handed out by then
  abbrev pub StopsWriting : List Node → ℕ → Path → F → Error E → F → Type 0
  StopsWriting nodes from path out (Out error) after =
      (handed : List HandedOut) × (before : F) × HandsOutSome nodes from path out handed before
      × FailsBehind nodes from path handed before error after
  StopsWriting nodes from path out Memory after = (handed : List HandedOut)
      × HandsOutSome nodes from path out handed after
