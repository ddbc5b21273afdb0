-- What edits of a root's files make: the trees that are to be stored for them, or why there are
-- none.
use Rattle.std.specs.Prelude.{◌≡◌, ◌⊎◌, ⊤, true, false, List, [], ◌∷◌, ◌++◌, map, Option, Some, None, option_map, Contains, IsTrue, IsFalse}
use Rattle.std.specs.Borrow.{Bor}
use Rattle.std.specs.List.{AllByRecursion, flat_map, list_all}
use Rattle.std.specs.FinMap.{empty}
use Rattle.gix_hash.specs.Id.{Id, id_of}
use Rattle.gix_hash.specs.declared.kind.Kind.{Kind}
use Rattle.gix_hash.specs.declared.object_id.ObjectId.{ObjectId}
use Rattle.gix_object_lookup.specs.Table.{Table}
use Rattle.gix_object_nodes.specs.Files.{is_null}
use Rattle.history_model.specs.Bytes.{Bytes}
use Rattle.history_model.specs.FileMap as model
use Rattle.history_model.specs.FileMap.{FileMap, edited_by, folders_of, is_path, some_refused}
use Rattle.history_model.specs.laws.Trees.{edit_path}
use Rattle.history_model.specs.Meaning.{put_bytes}
use Rattle.history_model.specs.Objects as objects
use Rattle.history_model.specs.Objects.{Value, StoredFolder, blob_id, folder_id, root}
use Rattle.history_files.specs.Edits.{IsGraft}
use Rattle.history_files.specs.Entries.{other_folders, own_folders}
use Rattle.history_files.specs.Reading.{IsRootOf}
use Rattle.history_files.specs.declared.trees.EditedFiles.{EditedFiles}
use Rattle.history_files.specs.declared.trees.EditedTree.{EditedTree}
use Rattle.history_files.specs.declared.edits.Change.{Change}
use Rattle.history_files.specs.declared.edits.Change.TheVariants.{Put, Remove, RemoveFile, Graft}
use Rattle.history_files.specs.declared.edits.Edit.{Edit}
use Rattle.history_files.specs.declared.edits.EditError.{EditError}
use Rattle.history_files.specs.declared.edits.EditError.TheVariants.{BadPath, IsFolder, NullId, EmptyTree, Failed, Broken, Memory}

-- ---- what is edited

abbrev pub root_id : Option (Bor ObjectId) → Option Id
root_id root = option_map (λ root. id_of root.now) root

-- the files of the root, whose trees are in the table; none without a root
abbrev pub IsBase : Table → Kind → Option Id → FileMap → Type 0
IsBase table kind None files = files ≡ empty
IsBase table kind (Some root) files = IsRootOf table kind files root

-- The change at this path is this edit of a file map: the id is that of the bytes that are put, and
-- the trees of what is grafted are in the table.
abbrev pub Names : Table → Kind → Bytes → Change → model.Edit → Type 0
Names table kind path (Put file id) made =
    (bytes : Bytes) × (made ≡ model.Put file path bytes) × (id_of id ≡ blob_id kind bytes)
Names table kind path Remove made = made ≡ model.Remove path
Names table kind path RemoveFile made = made ≡ model.RemoveFile path
Names table kind path (Graft found) made = IsGraft table kind path found made

abbrev pub NameEdits : Table → Kind → List Edit → List model.Edit → Type 0
NameEdits table kind [] [] = ⊤
NameEdits table kind [] (made ∷ more) = ⊥
NameEdits table kind (edit ∷ edits) [] = ⊥
NameEdits table kind (edit ∷ edits) (made ∷ more) =
    Names table kind edit.path.now edit.change made × NameEdits table kind edits more

-- It holds of the files that are edited, and of the edits that these are, if the store is honest.
abbrev pub OfEdits : Type 0 → Table → Kind → Option Id → List Edit
    → (FileMap → List model.Edit → Type 0) → Type 0
OfEdits honest table kind root edits P =
    honest → (files : FileMap) (made : List model.Edit) → IsBase table kind root files
    → NameEdits table kind edits made → P files made

-- each path is well-formed
abbrev pub HavePaths : List model.Edit → Type 0
HavePaths made = IsTrue (list_all (λ edit. is_path (edit_path edit)) made)

-- ---- the trees

-- the tree of the files, under its id
pub record IsTreeOf (kind : Kind) (files : FileMap) (tree : EditedTree) : Type 0 where
  pub id : id_of tree.id ≡ folder_id kind files
  pub content : tree.content.items ≡ root kind files
  pub isnt_null : is_null (id_of tree.id) ≡ false

abbrev pub AreTreesOf : Kind → List FileMap → List EditedTree → Type 0
AreTreesOf kind [] [] = ⊤
AreTreesOf kind [] (tree ∷ trees) = ⊥
AreTreesOf kind (files ∷ folders) [] = ⊥
AreTreesOf kind (files ∷ folders) (tree ∷ trees) =
    IsTreeOf kind files tree × AreTreesOf kind folders trees

-- the folders that exist before: those of the files, and those of what is grafted
abbrev pub standing : FileMap → List model.Edit → List FileMap
standing files made = own_folders files ++ flat_map other_folders made

-- one of these folders has the same tree
abbrev pub HasTreeOf : Kind → List FileMap → FileMap → Type 0
HasTreeOf kind folders files =
    (folder : FileMap) × Contains folders folder × (root kind folder ≡ root kind files)

-- each folder of the files is given, or its tree is that of a folder that exists before
abbrev pub IsClosed : Kind → List FileMap → List FileMap → FileMap → Type 0
IsClosed kind stands given files =
    AllByRecursion (λ folder. Contains given folder ⊎ HasTreeOf kind stands folder)
    (folders_of files)

-- Trees of folders of these files, the files' own last. Each comes after those of its own folders,
-- except those whose tree exists before.
pub record AreGiven (kind : Kind) (stands : List FileMap) (files : FileMap)
    (trees : List EditedTree) : Type 0 where
  pub below : List FileMap
  pub own : AllByRecursion (Contains (folders_of files)) below
  pub trees_are : AreTreesOf kind (below ++ files ∷ []) trees
  pub in_order : (first rest : List FileMap) (folder : FileMap)
      → below ++ files ∷ [] ≡ first ++ folder ∷ rest
      → IsClosed kind stands (first ++ folder ∷ []) folder

-- no `put` has the null id
abbrev pub HaveIds : Kind → List model.Edit → Type 0
HaveIds kind made =
    AllByRecursion (λ value. is_null (objects.id_of kind value) ≡ false) (flat_map put_bytes made)

-- The edits are accepted, and these are the trees of the resulting files.
pub record AreEdited (kind : Kind) (files : FileMap) (made : List model.Edit)
    (edited : EditedFiles) : Type 0 where
  pub paths : HavePaths made
  pub accepted : IsFalse (some_refused files made)
  pub ids : HaveIds kind made
  pub root : id_of edited.root ≡ folder_id kind (edited_by files made)
  pub trees : AreGiven kind (standing files made) (edited_by files made) edited.trees.items

-- ---- why there are none

-- the bytes of each `put`, and the folders of the resulting files
abbrev pub values_of : FileMap → List model.Edit → List Value
values_of files made =
    flat_map put_bytes made ++ map StoredFolder (folders_of (edited_by files made))

-- the edits are accepted, and one of the values would have the null id
pub record HaveNull (kind : Kind) (files : FileMap) (made : List model.Edit) : Type 0 where
  pub paths : HavePaths made
  pub accepted : IsFalse (some_refused files made)
  pub value : Value
  pub among : Contains (values_of files made) value
  pub null : is_null (objects.id_of kind value) ≡ true

-- Why edits aren't made: a path isn't well-formed; or else an edit is refused, or a value has the
-- null id. A store that has the trees fails only if a lookup fails or memory runs out.
abbrev pub EditsFault : Type 0 → Kind → FileMap → List model.Edit → EditError → Type 0
EditsFault may_fail kind files made BadPath =
    IsFalse (list_all (λ edit. is_path (edit_path edit)) made)
EditsFault may_fail kind files made IsFolder = HavePaths made × IsTrue (some_refused files made)
EditsFault may_fail kind files made NullId = HaveNull kind files made
EditsFault may_fail kind files made EmptyTree = ⊥
EditsFault may_fail kind files made Failed = may_fail
EditsFault may_fail kind files made (Broken oid) = ⊥
EditsFault may_fail kind files made Memory = ⊤
