-- The statements of the laws on file maps and what their trees unfold to.
use Rattle.std.specs.Prelude.{◌≡◌, false, List, Option, Some, option_map, IsFalse, ◌↔◌}
use Rattle.std.specs.FinMap.{get}
use Rattle.gix_hash.specs.Id.{Id}
use Rattle.gix_hash.specs.declared.kind.Kind.{Kind}
use Rattle.gix_object_tree.specs.Entry.{Item, SpellsTree}
use Rattle.gix_object_tree.specs.WellFormed.{IsWellFormed}
use Rattle.gix_object_lookup.specs.Table.{Table}
use Rattle.gix_object_nodes.specs.Files as unfolded
use Rattle.gix_object_nodes.specs.Files.{Trees, SameFiles, HasNoneBelow, is_null}
use Rattle.gix_object_editor.specs.Stored.{HasStored}
use Rattle.gix_object_nodes.specs.Written.{files_under}
use Rattle.history_model.specs.Bytes.{Bytes}
use Rattle.history_model.specs.FileMap.{FileMap, Content, IsFileMap, Graft, components, edited, has_below, removed, put_at}
use Rattle.history_model.specs.Objects.{StoredFolder, object_kind, content_of, root, folder_id, blob_id}
use Rattle.history_model.specs.Repository.{Repository, IsWholeStore}
use Rattle.history_files.specs.Edits.{IsSource}
use Rattle.history_files.specs.Entries.{found_leaf}
use Rattle.history_files.specs.Unfolding.{file_leaf, IsUnfolded, HasTrees}
use Rattle.history_files.specs.declared.found.Found.{Found}

-- Over each table of trees that has the stored ones, the tree of a file map unfolds to its files.
abbrev pub TreesUnfold : Type 0
TreesUnfold =
    (table : Table) (trees : Trees) (kind : Kind) (files : FileMap) → HasStored table trees
    → IsFileMap files → HasTrees table kind files
    → IsUnfolded kind files (files_under trees (folder_id kind files))

-- the objects of a repository under their ids
abbrev pub table_of : Repository → Table
table_of r id =
    option_map (λ value. record { kind = object_kind value; content = content_of r.kind value })
    (get r.objects id)

-- A whole store has the trees of each folder that is stored in it.
abbrev pub WholeStoresHaveTrees : Type 0
WholeStoresHaveTrees =
    (r : Repository) (id : Id) (files : FileMap) → IsWholeStore r
    → get r.objects id ≡ Some (StoredFolder files)
    → HasTrees (table_of r) r.kind files

-- A put in a file map is a put at the path's components, unless the bytes have the null id.
abbrev pub PutsAgree : Type 0
PutsAgree =
    (kind : Kind) (files : FileMap) (there : unfolded.FileMap) (path : Bytes) (content : Content)
    (trees : Trees)
    → IsUnfolded kind files there → is_null (blob_id kind content.bytes) ≡ false
    → IsUnfolded kind (put_at path content files)
    (unfolded.put trees (components path) (file_leaf kind content) there)

-- A graft in a file map puts what is at its source at the path's components, over trees that have
-- the other files and their folders.
abbrev pub GraftsAgree : Type 0
GraftsAgree =
    (table : Table) (trees : Trees) (kind : Kind) (files other : FileMap)
    (there : unfolded.FileMap) (path source : Bytes) (found : Option Found)
    → HasStored table trees → IsUnfolded kind files there
    → IsSource table kind source other found
    → IsUnfolded kind (edited files (Graft path source other))
    (unfolded.put trees (components path) (found_leaf found) there)

-- A removal in a file map is a removal at the path's components.
abbrev pub RemovalsAgree : Type 0
RemovalsAgree =
    (kind : Kind) (files : FileMap) (there : unfolded.FileMap) (path : Bytes)
    → IsUnfolded kind files there
    → IsUnfolded kind (removed path files) (unfolded.removed (components path) there)

-- There is nothing below a path exactly if there is nothing below its components.
abbrev pub FoldersAgree : Type 0
FoldersAgree =
    (kind : Kind) (files : FileMap) (there : unfolded.FileMap) (path : Bytes)
    → IsUnfolded kind files there
    → IsFalse (has_below files path) ↔ HasNoneBelow (components path) there

-- File maps that unfold to the same files have the same root.
abbrev pub UnfoldingsTellRoots : Type 0
UnfoldingsTellRoots =
    (kind : Kind) (a b : FileMap) (there other : unfolded.FileMap) → IsUnfolded kind a there
    → IsUnfolded kind b other
    → SameFiles there other → root kind a ≡ root kind b

-- The entries that the root of a file map spells are a well-formed tree: in Git's order, each name
-- once.
abbrev pub RootsAreWellFormed : Type 0
RootsAreWellFormed =
    (kind : Kind) (files : FileMap) (items : List Item) → IsFileMap files
    → SpellsTree kind (root kind files) items → IsWellFormed items
