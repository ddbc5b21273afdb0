-- Why an objects part isn't opened: each cause says what holds of the tree of its files.
use Rattle.std.specs.Prelude.{◌≡◌, ◌≢◌, ⊤, ◌<◌, ◌≤◌, List, ◌∷◌, ◌++◌, length, Some, None, Contains, IsTrue, IsFalse}
use Rattle.std.specs.FinMap.{get}
use Rattle.gix_hash.specs.Id.{Id, id_of}
use Rattle.gix_hash.specs.declared.kind.Kind.{Kind}
use Rattle.gix_object_tree.specs.Entry.{Item, SpellsTree}
use Rattle.gix_object_lines.specs.declared.kind.Kind.{Kind as ObjectKind}
use Rattle.gix_object_lines.specs.declared.kind.Kind.TheVariants as kinds
use Rattle.gix_ref_file.specs.Tree.{Tree, folder}
use Rattle.history_model.specs.Bytes.{Bytes}
use Rattle.history_model.specs.Forms.{is_id, max_content, max_path}
use Rattle.history_model.specs.Objects.{object_text}
use Rattle.history_model.specs.Places.{file_at, is_object_folder, object_place, unfinished_place}
use Rattle.history_layout.specs.TreeReads.{HasObject}
use Rattle.history_texts.specs.Malformed.{IsBefore1970, IsTagOfOther}
use Rattle.history_texts.specs.ObjectTexts.{IsNoObject, is_reserved, object_id}
use Rattle.history_texts.specs.Written.{IsMalformed, NamesObjects, Naming}
use Rattle.history_texts.specs.declared.open_error.OpenError.{OpenError}
use Rattle.history_texts.specs.declared.open_error.NamedBy.TheVariants.{Object}
use Rattle.history_texts.specs.declared.open_error.OpenError.TheVariants.{Stray, Unfinished, BadObject, WrongId, TooLarge, BadTree, BadTime, BadTag, Missing, WrongKind, Cycle, IdReserved, File, Memory}

-- ---- what is stored at a place

-- a file of this text is at the path, which is the place of this id
pub record HasFile (kind : Kind) (tree : Tree) (path : Bytes) (id : Id) (text : Bytes) : Type 0 where
  pub formed : IsTrue (is_id kind id)
  pub place : path ≡ object_place id
  pub stands : file_at tree path ≡ Some text

-- the text is that of no object within the limit, and longer than one
abbrev pub IsTooLong : Bytes → Type 0
IsTooLong text = (max_content < length text)
    × ((object : ObjectKind) (content : Bytes) → length content ≤ max_content
    → text ≢ object_text object content)

-- The content isn't in the written form of its kind, and neither says a time before 1970 nor is a
-- tag of something other than a commit: these have causes of their own.
pub record IsElseMalformed (kind : Kind) (object : ObjectKind) (content : Bytes) : Type 0 where
  pub malformed : IsMalformed kind object content
  pub since : ¬ IsBefore1970 kind object content
  pub of_commit : object ≡ kinds.Tag → ¬ IsTagOfOther content

-- the text is no object's, or that of a commit or a tag that isn't in written form, without another
-- cause
pub data IsBadText (kind : Kind) (text : Bytes) : Type 0 where
  no_object : IsNoObject text → IsBadText kind text
  no_commit : (content : Bytes) → text ≡ object_text kinds.Commit content
      → IsElseMalformed kind kinds.Commit content → IsBadText kind text
  no_tag : (content : Bytes) → text ≡ object_text kinds.Tag content
      → IsElseMalformed kind kinds.Tag content → IsBadText kind text

-- the text is an object's of another id
pub record IsOther (kind : Kind) (id : Id) (text : Bytes) : Type 0 where
  pub object : ObjectKind
  pub content : Bytes
  pub text_is : text ≡ object_text object content
  pub other : id ≢ object_id kind object content

-- the path is the place of no object and not the unfinished file's; or it is a folder that isn't
-- one of objects
pub data IsStray (kind : Kind) (tree : Tree) (path : Bytes) : Type 0 where
  stray_file : (text : Bytes) → file_at tree path ≡ Some text → path ≢ unfinished_place
      → ((id : Id) → IsTrue (is_id kind id) → path ≢ object_place id) → IsStray kind tree path
  stray_folder : get tree path ≡ Some folder → IsFalse (is_object_folder path) → IsStray kind tree path

-- ---- what objects name

-- the object at this id's place names the other, of this kind
pub record Names (kind : Kind) (tree : Tree) (by id : Id) (as_kind : ObjectKind) : Type 0 where
  pub object : ObjectKind
  pub content : Bytes
  pub stands : HasObject kind tree by object content
  pub named : List Naming
  pub names : NamesObjects kind object content named
  pub among : Contains named (id, as_kind)

-- one object reaches another by what they name
pub data Leads (kind : Kind) (tree : Tree) : Id → Id → Type 0 where
  names : {from to : Id} (as_kind : ObjectKind) → Names kind tree from to as_kind
      → Leads kind tree from to
  by_way_of : {from to : Id} (mid : Id) → Leads kind tree from mid → Leads kind tree mid to
      → Leads kind tree from to

-- the entry is in the tree of this id
pub record HasEntry (kind : Kind) (tree : Tree) (id : Id) (item : Item) : Type 0 where
  pub content : Bytes
  pub stands : HasObject kind tree id kinds.Tree content
  pub items : List Item
  pub spelled : SpellsTree kind content items
  pub among : Contains items item

-- the path leads from the tree of this id to an entry of it, or of a tree below it
pub data HasPath (kind : Kind) (tree : Tree) : Id → Bytes → Type 0 where
  entry : {id : Id} (item : Item) → HasEntry kind tree id item → HasPath kind tree id item.name
  deeper : {id : Id} (item : Item) (rest : Bytes) → HasEntry kind tree id item
      → HasPath kind tree item.id rest → HasPath kind tree id (item.name ++ 47 ∷ rest)

-- the tree isn't in written form, or a path below it is too long
pub data IsBadTree (kind : Kind) (tree : Tree) (id : Id) : Type 0 where
  malformed : (content : Bytes) → HasObject kind tree id kinds.Tree content
      → IsMalformed kind kinds.Tree content → IsBadTree kind tree id
  deep : (path : Bytes) → HasPath kind tree id path → max_path < length path
      → IsBadTree kind tree id

-- ---- the causes

-- a file is at the path, an id's place, and this holds of its text
abbrev pub HasText : Kind → Tree → Bytes → (Id → Bytes → Type 0) → Type 0
HasText kind tree path What =
    (id : Id) × (text : Bytes) × HasFile kind tree path id text × What id text

-- the commit or the tag of this id says a time before 1970
abbrev pub HasBadTime : Kind → Tree → Id → Type 0
HasBadTime kind tree id = (object : ObjectKind) × (content : Bytes)
    × HasObject kind tree id object content × IsBefore1970 kind object content

-- the object of this id is a tag of something other than a commit
abbrev pub HasBadTag : Kind → Tree → Id → Type 0
HasBadTag kind tree id =
    (content : Bytes) × HasObject kind tree id kinds.Tag content × IsTagOfOther content

-- an object is stored under the null id, or another than the empty tree under the empty tree's id
abbrev pub HasReserved : Kind → Tree → Type 0
HasReserved kind tree = (id : Id) × (object : ObjectKind) × (content : Bytes)
    × HasObject kind tree id object content × IsTrue (is_reserved id object content)

-- the object is named, and is stored in another kind
abbrev pub HasWrongKind : Kind → Tree → Id → Id → Type 0
HasWrongKind kind tree id by =
    (as_kind other : ObjectKind) × (content : Bytes) × Names kind tree by id as_kind
    × HasObject kind tree id other content × (other ≢ as_kind)

abbrev pub HasMissing : Kind → Tree → Id → Id → Type 0
HasMissing kind tree id by =
    (as_kind : ObjectKind) × Names kind tree by id as_kind × (file_at tree (object_place id) ≡ None)

abbrev pub IsObjectsFlaw : Type 0 → Kind → Tree → OpenError → Type 0
IsObjectsFlaw MayFail kind tree (Stray path) = IsStray kind tree path.items
IsObjectsFlaw MayFail kind tree (Unfinished path) =
    (path.items ≡ unfinished_place)
    × ((text : Bytes) × (file_at tree unfinished_place ≡ Some text))
IsObjectsFlaw MayFail kind tree (BadObject path) =
    HasText kind tree path.items (λ id text. IsBadText kind text)
IsObjectsFlaw MayFail kind tree (WrongId path) = HasText kind tree path.items (IsOther kind)
IsObjectsFlaw MayFail kind tree (TooLarge path) =
    HasText kind tree path.items (λ id text. IsTooLong text)
IsObjectsFlaw MayFail kind tree (BadTree id) = IsBadTree kind tree (id_of id)
IsObjectsFlaw MayFail kind tree (BadTime id) = HasBadTime kind tree (id_of id)
IsObjectsFlaw MayFail kind tree (BadTag id) = HasBadTag kind tree (id_of id)
IsObjectsFlaw MayFail kind tree (Missing id (Object by)) =
    HasMissing kind tree (id_of id) (id_of by)
IsObjectsFlaw MayFail kind tree (WrongKind id (Object by)) =
    HasWrongKind kind tree (id_of id) (id_of by)
IsObjectsFlaw MayFail kind tree (Cycle id) = Leads kind tree (id_of id) (id_of id)
IsObjectsFlaw MayFail kind tree IdReserved = HasReserved kind tree
IsObjectsFlaw MayFail kind tree File = MayFail
IsObjectsFlaw MayFail kind tree Memory = ⊤
IsObjectsFlaw MayFail kind tree _ = ⊥
