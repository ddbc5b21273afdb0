-- The files of a file map as Git's trees name them: a mode and an id at the components of each
-- path, one below the other.
use Rattle.std.specs.Prelude.{◌≡◌, false, Some, option_map}
use Rattle.std.specs.List.{AllByRecursion}
use Rattle.std.specs.FinMap.{get}
use Rattle.gix_hash.specs.declared.kind.Kind.{Kind}
use Rattle.gix_object_lines.specs.declared.kind.Kind.TheVariants as objects
use Rattle.gix_object_tree.specs.Mode.{kind_value}
use Rattle.gix_object_tree.specs.declared.tree.mode.EntryKind.{EntryKind}
use Rattle.gix_object_tree.specs.declared.tree.mode.EntryKind.TheVariants as entries
use Rattle.gix_object_lookup.specs.Table.{Table}
use Rattle.gix_object_lookup.specs.Existing.{Stands}
use Rattle.gix_object_nodes.specs.Files as unfolded
use Rattle.gix_object_nodes.specs.Files.{Path, Leaf, is_null}
use Rattle.history_model.specs.Bytes.{Bytes}
use Rattle.history_model.specs.FileMap.{FileMap, Content, components}
use Rattle.history_model.specs.Objects.{Value, StoredCommit, StoredTag, StoredBytes, StoredFolder, root, folder_id, blob_id, id_of}
use Rattle.history_model.specs.Repository.{file_values}
use Rattle.history_model.specs.declared.FileKind.{FileKind}
use Rattle.history_model.specs.declared.FileKind.TheVariants.{File, Exec, Link}

-- the kind of a tree's entry for a file of this kind
abbrev pub entry_kind : FileKind → EntryKind
entry_kind File = entries.Blob
entry_kind Exec = entries.BlobExecutable
entry_kind Link = entries.Link

-- what an entry names of a file: the mode of its kind and the id of its bytes
abbrev pub file_leaf : Kind → Content → Leaf
file_leaf kind content =
    record {
      mode =
          record { value = kind_value (entry_kind content.kind); padded = false };
      id = blob_id kind content.bytes;
    }

-- At the components of each path is what names the file there, and there is nothing elsewhere.
pub record IsUnfolded (kind : Kind) (files : FileMap) (there : unfolded.FileMap) : Type 0 where
  pub at : (path : Bytes) → there (components path) ≡ option_map (file_leaf kind) (get files path)
  pub only : (names : Path) (leaf : Leaf) → there names ≡ Some leaf
      → (path : Bytes) × (components path ≡ names)

-- a folder is in the table under its id, as a tree of its text
abbrev pub FolderStands : Table → Kind → Value → Type 0
FolderStands table kind (StoredFolder files) =
    Stands table (folder_id kind files) objects.Tree (root kind files)
FolderStands table kind (StoredBytes bytes) = Unit {0}
FolderStands table kind (StoredCommit commit) = Unit {0}
FolderStands table kind (StoredTag tag) = Unit {0}

-- the same, and no id is the null id, by which a tree names nothing
pub record IsInTable (table : Table) (kind : Kind) (value : Value) : Type 0 where
  pub stands : FolderStands table kind value
  pub isnt_null : is_null (id_of kind value) ≡ false

-- the file map and each of its folders are in the table as trees
abbrev pub HasTrees : Table → Kind → FileMap → Type 0
HasTrees table kind files = AllByRecursion (IsInTable table kind) (file_values files)
