-- Edits as the code has them, and those of file maps that they are.
use Rattle.std.specs.Prelude.{ℕ, ◌≡◌, ◌+◌, ⊤, false, length, IsFalse, List, [], ◌∷◌, Option, Some, None, option_map, IfSome, codes, if◌then◌else◌}
use Rattle.std.specs.FinMap.{keys}
use Rattle.gix_hash.specs.Id.{Id, id_of}
use Rattle.gix_hash.specs.declared.kind.Kind.{Kind}
use Rattle.gix_object_lines.specs.declared.decode.Error as decode
use Rattle.gix_object_lines.specs.declared.decode.Error.TheVariants as unread
use Rattle.gix_object_lookup.specs.declared.find.Error.TheVariants as looked_up
use Rattle.gix_object_lookup.specs.declared.find.existing_object.Error as existing
use Rattle.gix_object_lookup.specs.declared.find.existing_object.Error.TheVariants as not_given
use Rattle.gix_object_lookup.specs.Table.{Table}
use Rattle.gix_object_nodes.specs.Files as unfolded
use Rattle.gix_object_nodes.specs.Files.{Trees, IsEmptyTree, is_null}
use Rattle.gix_object_editor.specs.Stored.{HasStored}
use Rattle.gix_object_editor.specs.declared.tree.editor.error.Error as editor
use Rattle.gix_object_editor.specs.declared.tree.editor.error.Error.TheVariants as refused
use Rattle.history_model.specs.Bytes.{Bytes, is_empty}
use Rattle.history_model.specs.FileMap as model
use Rattle.history_model.specs.FileMap.{FileMap, IsFileMap, components, edited_by, some_refused}
use Rattle.history_model.specs.Objects.{blob_id, entry_at, folder_id}
use Rattle.history_files.specs.Reading.{entry_of}
use Rattle.history_files.specs.Unfolding.{IsUnfolded, HasTrees}
use Rattle.history_files.specs.declared.edits.Change.{Change}
use Rattle.history_files.specs.declared.edits.Change.TheVariants.{Put, Remove, RemoveFile, Graft}
use Rattle.history_files.specs.declared.edits.Edit.{Edit}
use Rattle.history_files.specs.declared.edits.EditError.{EditError}
use Rattle.history_files.specs.declared.edits.EditError.TheVariants.{BadPath, IsFolder, NullId, EmptyTree, Failed, Broken, Memory}
use Rattle.history_files.specs.declared.found.Found.{Found}
use Rattle.history_files.specs.declared.error.ReadError as reading
use Rattle.history_files.specs.declared.error.ReadError.TheVariants as unopened

-- what is at a source, as a tree's entry names it; at an empty source all the files, if there are
-- any
abbrev pub source_entry : Kind → FileMap → Bytes → Option (Bytes × Id)
source_entry kind files source =
    if is_empty source
    then if is_empty (keys files) then None else Some (codes "40000", folder_id kind files)
    else entry_at kind files source

-- This is what is at the source of files whose trees are in the table. Its id isn't that of the
-- tree without entries.
pub record IsSource (table : Table) (kind : Kind) (source : Bytes) (files : FileMap)
    (found : Option Found) : Type 0 where
  pub map : IsFileMap files
  pub trees : HasTrees table kind files
  pub is : option_map entry_of found ≡ source_entry kind files source
  pub isnt_empty : IfSome found (λ it. IsEmptyTree (entry_of it).1 → ⊥)

-- what was found is what this edit grafts
abbrev pub IsGraft : Table → Kind → Bytes → Option Found → model.Edit → Type 0
IsGraft table kind path found made = (source : Bytes) × (files : FileMap)
    × (made ≡ model.Graft path source files) × IsSource table kind source files found

-- the change at this path is this edit of a file map; the bytes that are put have the id, which
-- isn't null
abbrev pub IsChange : Table → Kind → Bytes → Change → model.Edit → Type 0
IsChange table kind path (Put file id) made = (bytes : Bytes) × (made ≡ model.Put file path bytes)
    × (id_of id ≡ blob_id kind bytes) × (is_null (id_of id) ≡ false)
IsChange table kind path Remove made = made ≡ model.Remove path
IsChange table kind path RemoveFile made = made ≡ model.RemoveFile path
IsChange table kind path (Graft found) made = IsGraft table kind path found made

abbrev pub IsEdit : Table → Kind → Edit → model.Edit → Type 0
IsEdit table kind edit made = IsChange table kind edit.path.now edit.change made

abbrev pub AreEdits : Table → Kind → List Edit → List model.Edit → Type 0
AreEdits table kind [] [] = ⊤
AreEdits table kind [] (made ∷ more) = ⊥
AreEdits table kind (edit ∷ edits) [] = ⊥
AreEdits table kind (edit ∷ edits) (made ∷ more) =
    IsEdit table kind edit made × AreEdits table kind edits more

-- An editor that has the files of a file map then has those that the edits make of it, over each
-- table of trees that has the stored ones.
abbrev pub EditsMake : Table → List Edit → (Trees → unfolded.FileMap) → (Trees → unfolded.FileMap)
    → Type 0
EditsMake table edits old new =
    (trees : Trees) (kind : Kind) (files : FileMap) (made : List model.Edit)
    → HasStored table trees → AreEdits table kind edits made → IsUnfolded kind files (old trees)
    → IsUnfolded kind (edited_by files made) (new trees)

-- None of them is refused when its turn comes, if there is such a table at all.
abbrev pub EditsPass : Table → List Edit → (Trees → unfolded.FileMap) → Type 0
EditsPass table edits old = (trees : Trees) (kind : Kind) (files : FileMap) (made : List model.Edit)
    → HasStored table trees → AreEdits table kind edits made → IsUnfolded kind files (old trees)
    → IsFalse (some_refused files made)

-- how many names the paths of edits have
abbrev pub name_count : List Edit → ℕ
name_count [] = 0
name_count (edit ∷ edits) = length (components edit.path.now) + name_count edits

-- ---- errors

abbrev pub unless_memory : decode.Error → EditError → EditError
unless_memory unread.FieldName error = error
unless_memory unread.HexDigits error = error
unless_memory unread.LineEnd error = error
unless_memory unread.InvalidActor error = error
unless_memory unread.InvalidTime error = error
unless_memory unread.Memory error = Memory

abbrev pub as_unread : existing.Error → EditError
as_unread (not_given.Find looked_up.Failed) = Failed
as_unread (not_given.Find looked_up.Memory) = Memory
as_unread (not_given.Decode oid source) = unless_memory source (Broken oid)
as_unread (not_given.NotFound oid) = Broken oid
as_unread (not_given.ObjectKind oid actual expected) = Broken oid

abbrev pub as_edited : editor.Error → EditError
as_edited refused.EmptyPathComponent = BadPath
as_edited (refused.FindExistingObject error) = as_unread error
as_edited (refused.CannotRemoveNonLeaf filename) = IsFolder
as_edited (refused.MalformedTree oid) = Broken oid
as_edited refused.EmptyTree = EmptyTree
as_edited refused.Memory = Memory

abbrev pub as_opened : reading.ReadError → EditError
as_opened unopened.Failed = Failed
as_opened (unopened.Broken oid) = Broken oid
as_opened unopened.Memory = Memory
