-- The texts of objects, and the ids that they have (gitformat-loose(5), "Loose objects").
use Rattle.std.specs.Prelude.{◌≡◌, ◌≢◌, Bool, true, false, ◌&&◌, ◌||◌, ◌==◌, not, [], ◌∷◌, bytes_eq, Option, Some, None, if◌then◌else◌}
use Rattle.std.specs.Option.{option_or}
use Rattle.history_model.specs.Bytes.{Bytes}
use Rattle.history_model.specs.Objects.{digest, object_text, empty_tree_id}
use Rattle.gix_hash.specs.Id.{Id, id_of, null_id}
use Rattle.gix_hash.specs.Order.{id_eq}
use Rattle.gix_hash.specs.declared.kind.Kind.{Kind}
use Rattle.gix_hash.specs.declared.object_id.ObjectId.{ObjectId}
use Rattle.gix_object_lines.specs.declared.kind.Kind.{Kind as ObjectKind}
use Rattle.gix_object_lines.specs.declared.kind.Kind.TheVariants as kinds
use Rattle.gix_object_lookup.specs.Table.{Object}

-- a text that is no object's
abbrev pub IsNoObject : Bytes → Type 0
IsNoObject text = (object : ObjectKind) (content : Bytes) → text ≢ object_text object content

-- the id of an object of this content
abbrev pub object_id : Kind → ObjectKind → Bytes → Id
object_id digests kind content = digest digests (object_text kind content)

-- the id is that of the object of this content, with its own kind of digest
abbrev pub IsIdOf : ObjectId → ObjectKind → Bytes → Type 0
IsIdOf id kind content = id_of id ≡ object_id (id_of id).kind kind content

abbrev pub is_empty_tree : ObjectKind → Bytes → Bool
is_empty_tree kinds.Tree [] = true
is_empty_tree kinds.Tree (b ∷ content) = false
is_empty_tree kinds.Blob content = false
is_empty_tree kinds.Commit content = false
is_empty_tree kinds.Tag content = false

-- No object has the null id, and only the empty tree has the empty tree's.
abbrev pub is_reserved : Id → ObjectKind → Bytes → Bool
is_reserved id kind content =
    id_eq id (null_id id.kind)
    || (id_eq id (empty_tree_id id.kind) && not (is_empty_tree kind content))

-- ---- the object that a text is

-- what follows the first zero byte
abbrev pub behind_zero : Bytes → Bytes
behind_zero [] = []
behind_zero (b ∷ text) = if b == 0 then text else behind_zero text

-- the object of this kind that the text is, if it is one
abbrev pub as_object : ObjectKind → Bytes → Option Object
as_object kind text =
    if bytes_eq text (object_text kind (behind_zero text))
    then Some (record { kind = kind; content = behind_zero text }) else None

-- the object that the text is, of whichever kind
abbrev pub object_in : Bytes → Option Object
object_in text =
    option_or (as_object kinds.Blob text)
    (option_or (as_object kinds.Tree text)
    (option_or (as_object kinds.Commit text) (as_object kinds.Tag text)))
