-- What the store of objects does to the files of its part.
use Rattle.std.specs.Prelude.{◌≡◌, ◌≢◌, ◌⊎◌, true, List, Some, None, IsTrue}
use Rattle.std.specs.List.{AllZip}
use Rattle.std.specs.FinMap.{get}
use Rattle.gix_ref_file.specs.Tree.{Tree, folder, bytes_at}
use Rattle.history_model.specs.Bytes.{Bytes}
use Rattle.gix_ref_file.specs.declared.files.FileError.{FileError}
use Rattle.gix_ref_file.specs.declared.files.FileError.TheVariants as files
use Rattle.history_model.specs.Objects.{Value, object_text, object_kind, content_of}
use Rattle.history_model.specs.Objects.{id_of as value_id}
use Rattle.gix_hash.specs.Id.{Id, id_of}
use Rattle.gix_hash.specs.declared.kind.Kind.{Kind}
use Rattle.gix_object_lines.specs.declared.kind.Kind.{Kind as ObjectKind}
use Rattle.history_texts.specs.declared.object.NewObject.{NewObject}
use Rattle.history_store.specs.declared.objects.PutMadeError.{PutMadeError}
use Rattle.history_store.specs.declared.objects.PutMadeError.TheVariants as errors
use Rattle.history_texts.specs.ObjectTexts.{IsNoObject, is_reserved}
use Rattle.history_model.specs.Forms.{is_id}
use Rattle.history_model.specs.Places.{file_at, object_place, unfinished_place, is_object_folder}
use Rattle.gix_ref_way.specs.Ways.{KeepsFolders, FoldersAbove}

-- each file is as before, but for `objects/unfinished`
abbrev pub KeepsFiles : Tree → Tree → Type 0
KeepsFiles old new = (path : Bytes) → path ≢ unfinished_place → file_at new path ≡ file_at old path

-- The text is at the place, and each other file is as before, but for `objects/unfinished`.
pub record HoldsFile (place text : Bytes) (old new : Tree) : Type 0 where
  pub here : file_at new place ≡ Some text
  pub others : (path : Bytes) → path ≢ unfinished_place → path ≢ place
      → file_at new path ≡ file_at old path

-- the files while a text is put in its place: all as before, or the text whole
abbrev pub MayStand : Bytes → Bytes → Tree → Tree → Type 0
MayStand place text old tree = KeepsFiles old tree ⊎ HoldsFile place text old tree

-- The tree while the text is put in its place: all files as before or the text whole, each folder
-- of before, and no other folder but those that the text's file is in.
pub record MayHold (place text : Bytes) (old tree : Tree) : Type 0 where
  pub files : MayStand place text old tree
  pub above : FoldersAbove place old tree
  pub stay : KeepsFolders old tree

-- ---- objects

-- the place of an object's file
abbrev pub IsObjectPlace : Bytes → Type 0
IsObjectPlace path = (kind : Kind) × (id : Id) × IsTrue (is_id kind id) × (path ≡ object_place id)

-- Each file is at an object's place or is the unfinished one, and each folder is one of objects.
pub record IsObjectPart (tree : Tree) : Type 0 where
  pub files : (path text : Bytes) → file_at tree path ≡ Some text
      → IsObjectPlace path ⊎ (path ≡ unfinished_place)
  pub folders : (path : Bytes) → get tree path ≡ Some folder → IsTrue (is_object_folder path)

-- no text of an object is at the place
abbrev pub HoldsNone : Bytes → Tree → Type 0
HoldsNone place tree = (file_at tree place ≡ None) ⊎ IsNoObject (bytes_at tree place)

-- no unfinished object is left
abbrev pub IsFinished : Tree → Type 0
IsFinished tree = file_at tree unfinished_place ≡ None

-- ---- what is to be stored

-- the object's text
abbrev pub text_of : NewObject → Bytes
text_of object = object_text object.kind object.content.items

-- the place of its file
abbrev pub place_of : NewObject → Bytes
place_of object = object_place (id_of object.id)

-- the tree while the object is put
abbrev pub MayPut : NewObject → Tree → Tree → Type 0
MayPut object old tree = MayHold (place_of object) (text_of object) old tree

-- the object is this value's
pub record IsObjectOf (digests : Kind) (value : Value) (object : NewObject) : Type 0 where
  pub id : id_of object.id ≡ value_id digests value
  pub kind : object.kind ≡ object_kind value
  pub content : object.content.items ≡ content_of digests value

-- the objects are these values', one for each, in their order
abbrev pub AreObjectsOf : Kind → List Value → List NewObject → Type 0
AreObjectsOf digests values objects = AllZip (IsObjectOf digests) values objects

-- why an object of this content can't have the id: it is reserved, or a file of other bytes is at
-- its place
abbrev pub IsIdTaken : Id → ObjectKind → Bytes → Tree → Type 0
IsIdTaken id kind content tree =
    (is_reserved id kind content ≡ true)
    ⊎ ((other : Bytes) × (file_at tree (object_place id) ≡ Some other)
    × (other ≢ object_text kind content))

abbrev pub IsTaken : NewObject → Tree → Type 0
IsTaken object tree = IsIdTaken (id_of object.id) object.kind object.content.items tree

abbrev pub put_fault : FileError → PutMadeError
put_fault files.Failed = errors.File
put_fault files.Memory = errors.Memory
