-- Entries of trees while files are edited: each names a file or a folder.
use Rattle.std.specs.Prelude.{◌==◌, ◌&&◌, ◌||◌, ⊤, Bool, not, false, List, [], ◌∷◌, map, Option, Some, None, Contains, if◌then◌else◌}
use Rattle.std.specs.List.{AllByRecursion, flat_map, list_any}
use Rattle.std.specs.FinMap.{keys}
use Rattle.gix_hash.specs.Id.{null_id}
use Rattle.gix_hash.specs.Order.{id_eq}
use Rattle.gix_hash.specs.declared.kind.Kind.{Kind}
use Rattle.gix_hash.specs.declared.kind.Kind.TheVariants.{Sha1}
use Rattle.gix_object_tree.specs.Mode.{kind_value}
use Rattle.gix_object_tree.specs.ModeText.{Mode}
use Rattle.gix_object_tree.specs.declared.tree.mode.EntryKind.TheVariants as entries
use Rattle.gix_object_editor.specs.Editor.{leaf_of_kind}
use Rattle.gix_object_editor.specs.Entries.{Property, MayStand}
use Rattle.gix_object_nodes.specs.Files.{Leaf, is_null}
use Rattle.history_model.specs.Bytes.{Bytes, has_byte, is_empty}
use Rattle.history_model.specs.FileMap as model
use Rattle.history_model.specs.FileMap.{FileMap, beginnings, components, folders_of, inside}
use Rattle.history_model.specs.Objects.{folder_id}
use Rattle.history_files.specs.Unfolding.{entry_kind}
use Rattle.history_files.specs.declared.edits.Change.{Change}
use Rattle.history_files.specs.declared.edits.Change.TheVariants.{Put, Remove, RemoveFile, Graft}
use Rattle.history_files.specs.declared.edits.Edit.{Edit}
use Rattle.history_files.specs.declared.found.Found.{Found}
use Rattle.history_files.specs.declared.found.Found.TheVariants.{File, Folder}

-- the folders of a file map, without itself
abbrev pub own_folders : FileMap → List FileMap
own_folders files = map (λ folder. inside folder files) (flat_map beginnings (keys files))

-- the folders of files that are grafted, if there are any files
abbrev pub other_folders : model.Edit → List FileMap
other_folders (model.Graft path source other) =
    if is_empty (keys other) then [] else folders_of other
other_folders _ = []

abbrev pub GraftsStand : List FileMap → model.Edit → Type 0
GraftsStand stands made = AllByRecursion (Contains stands) (other_folders made)

-- a name of one folder: not empty, without `/` and without a zero byte
abbrev pub is_filename : Bytes → Bool
is_filename name = not (is_empty name) && not (has_byte 47 name) && not (has_byte 0 name)

abbrev pub is_file_mode : Mode → Bool
is_file_mode mode = not mode.padded
    &&
    (mode.value == kind_value entries.Blob || mode.value == kind_value entries.BlobExecutable
    || mode.value == kind_value entries.Link)

abbrev pub is_folder_mode : Mode → Bool
is_folder_mode mode = not mode.padded && mode.value == kind_value entries.Tree

-- the entry names a file, or one of these folders, or one that an edit makes
abbrev pub names_only : Kind → List FileMap → Property
names_only kind folders name leaf = is_filename name
    &&
    (is_file_mode leaf.mode
    ||
    (is_folder_mode leaf.mode
    && (is_null leaf.id || list_any (λ folder. id_eq leaf.id (folder_id kind folder)) folders)))

-- the entry of what was found; that of nothing has the null id
abbrev pub found_leaf : Option Found → Leaf
found_leaf (Some (File kind id)) = leaf_of_kind (entry_kind kind) id
found_leaf (Some (Folder id)) = leaf_of_kind entries.Tree id
found_leaf None =
    record {
      mode =
          record { value = kind_value entries.Tree; padded = false };
      id = null_id Sha1;
    }

-- what the edits put may be at the names of their paths
abbrev pub MayPut : Property → Bytes → Change → Type 0
MayPut has path (Put file id) = MayStand has (components path) (leaf_of_kind (entry_kind file) id)
MayPut has path Remove = ⊤
MayPut has path RemoveFile = ⊤
MayPut has path (Graft found) = MayStand has (components path) (found_leaf found)

abbrev pub MayBeMade : Property → List Edit → Type 0
MayBeMade has [] = ⊤
MayBeMade has (edit ∷ edits) = MayPut has edit.path.now edit.change × MayBeMade has edits
