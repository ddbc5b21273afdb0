-- A store of objects as a map: the objects that are stored under the ids that it knows.
use Rattle.std.specs.Prelude.{◌≡◌, Bool, true, false, Option, Some, None, IsTrue, IsSome, option_and_then, option_map, if◌then◌else◌}
use Rattle.std.specs.FinMap.{contains_key}
use Rattle.gix_hash.specs.Id.{Id}
use Rattle.gix_object_lines.specs.declared.kind.Kind.{Kind as ObjectKind}
use Rattle.gix_object_lines.specs.declared.kind.Kind.TheVariants as kinds
use Rattle.gix_ref_file.specs.History.{History}
use Rattle.gix_ref_file.specs.Tree.{Tree}
use Rattle.gix_object_lookup.specs.Table.{Object, Table}
use Rattle.history_model.specs.Places.{file_at, object_place}
use Rattle.history_check_objects.specs.Folders.{HasFolders}
use Rattle.history_store.specs.ObjectsFace.{commits_of_objects, files_of_objects, folders_of_objects, ids_of_objects, kind_of_objects}
use Rattle.history_store.specs.Ids.{AreOfKind}
use Rattle.history_texts.specs.ObjectTexts.{object_in}
use Rattle.history_store.specs.declared.objects.Objects.{Objects}

-- the object whose text is stored at the id's place
abbrev pub object_at : Tree → Id → Option Object
object_at tree id = option_and_then object_in (file_at tree (object_place id))

-- the object under each id that is known, in this tree and in that of the files
abbrev pub table_at : {F : Type 0} → Tree → Objects F → Table
table_at tree objects id =
    if contains_key (ids_of_objects objects) id then object_at tree id else None

abbrev pub table_of : {F : Type 0} → (F → History) → Objects F → Table
table_of history objects id = table_at (history (files_of_objects objects)).tree objects id

-- whether it is a commit's kind
abbrev pub is_commit : Option ObjectKind → Bool
is_commit None = false
is_commit (Some kinds.Commit) = true
is_commit (Some kinds.Tree) = false
is_commit (Some kinds.Blob) = false
is_commit (Some kinds.Tag) = false

-- each folder that is known to exist is one in the tree
abbrev pub HasKnownFolders : {F : Type 0} → Tree → Objects F → Type 0
HasKnownFolders tree objects = HasFolders tree (folders_of_objects objects)

-- the files are honest, and each known folder is one in their tree
abbrev pub KnownFoldersExist : {F : Type 0} → (F → Type 0) → (F → History) → Objects F → Type 0
KnownFoldersExist IsHonest history objects =
    IsHonest (files_of_objects objects)
    × HasKnownFolders (history (files_of_objects objects)).tree objects

-- What is known is so in the tree: each folder that is known is one, an object is stored under each
-- known id, and the ids of commits are those of the known objects that are.
pub record HasKnown {F : Type 0} (tree : Tree) (objects : Objects F) : Type 0 where
  pub folders : HasKnownFolders tree objects
  pub stored : (id : Id) → IsTrue (contains_key (ids_of_objects objects) id)
      → IsSome (object_at tree id)
  pub commits : (id : Id) → contains_key (commits_of_objects objects) id
      ≡ is_commit (option_map (λ object. object.kind) (table_at tree objects id))

-- the files are honest, and so it is in their tree
abbrev pub KnownExist : {F : Type 0} → (F → Type 0) → (F → History) → Objects F → Type 0
KnownExist IsHonest history objects =
    IsHonest (files_of_objects objects)
    × HasKnown (history (files_of_objects objects)).tree objects

-- The files are honest, and an object is stored under each known id, which is of the store's kind.
pub record HoldsKnown {F : Type 0} (IsHonest : F → Type 0) (history : F → History)
    (objects : Objects F) : Type 0 where
  pub honest : IsHonest (files_of_objects objects)
  pub known : (id : Id) → IsTrue (contains_key (ids_of_objects objects) id)
      → IsSome (object_at (history (files_of_objects objects)).tree id)
  pub kinds : AreOfKind (kind_of_objects objects) (ids_of_objects objects)
