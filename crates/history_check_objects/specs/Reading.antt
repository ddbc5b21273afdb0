-- What is read of an object.
use Rattle.std.specs.Prelude.{◌≡◌, Bool, ◌&&◌, ◌||◌, not, Some, IsTrue}
use Rattle.gix_hash.specs.Id.{Id, null_id}
use Rattle.gix_hash.specs.Order.{id_eq}
use Rattle.gix_hash.specs.declared.kind.Kind.{Kind}
use Rattle.gix_object_lines.specs.declared.kind.Kind.{Kind as ObjectKind}
use Rattle.gix_ref_file.specs.Tree.{Tree}
use Rattle.history_model.specs.Bytes.{Bytes}
use Rattle.history_model.specs.Forms.{is_id}
use Rattle.history_model.specs.Objects.{empty_tree_id}
use Rattle.history_model.specs.Places.{file_at, object_place}
use Rattle.history_texts.specs.ObjectTexts.{is_empty_tree}
use Rattle.history_check_objects.specs.Nexts.{IsObject}
use Rattle.history_check_objects.specs.Surveying.{links_of}
use Rattle.history_check_objects.specs.declared.reading.Found.{Found}

-- a file is at the place of the id
abbrev pub IsFileFor : Kind → Tree → Id → Type 0
IsFileFor kind tree id = IsTrue (is_id kind id)
    × ((text : Bytes) × (file_at tree (object_place id) ≡ Some text))

-- the object that is stored at the id's place is of this kind, and has these links
pub record IsRead (kind : Kind) (tree : Tree) (id : Id) (found : Found) : Type 0 where
  pub content : Bytes
  pub object : IsObject kind tree id found.kind content (links_of found.links.items)

-- whether no object, or none but the empty tree, has an id of the kind
abbrev pub is_reserved_in : Kind → Id → ObjectKind → Bytes → Bool
is_reserved_in kind id object content =
    id_eq id (null_id kind)
    || (id_eq id (empty_tree_id kind) && not (is_empty_tree object content))
