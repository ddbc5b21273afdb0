-- The values of a tree, object after object: one is stored if all that it names is.
use Rattle.std.specs.Prelude.{◌≡◌, ◌≤◌, ℕ, List, [], ◌∷◌, length, Option, Some, None, IsFalse}
use Rattle.std.specs.FinMap.{get, insert}
use Rattle.gix_hash.specs.Id.{Id}
use Rattle.gix_hash.specs.declared.kind.Kind.{Kind}
use Rattle.gix_object_lines.specs.declared.kind.Kind.{Kind as ObjectKind}
use Rattle.gix_object_lines.specs.declared.kind.Kind.TheVariants as kinds
use Rattle.gix_ref_file.specs.Tree.{Tree}
use Rattle.history_model.specs.Bytes.{Bytes}
use Rattle.history_model.specs.Forms.{max_content, max_path}
use Rattle.history_model.specs.Objects.{Value, object_kind, object_text}
use Rattle.history_model.specs.Places.{file_at, object_place}
use Rattle.history_model.specs.Repository.{Values}
use Rattle.history_texts.specs.ObjectTexts.{is_reserved, object_id}
use Rattle.history_check_objects.specs.Links.{AreReady, Link, LinksObjects, PathsWithin}
use Rattle.history_check_objects.specs.Opened.{AreInTree}
use Rattle.history_check_objects.specs.Stored.{target_of}

-- The object's text is at its own place, within the limit; the id isn't reserved, and the content
-- is in written form with these links.
pub record IsObject (kind : Kind) (tree : Tree) (id : Id) (object : ObjectKind) (content : Bytes)
    (links : List Link) : Type 0 where
  pub own : id ≡ object_id kind object content
  pub stands : file_at tree (object_place id) ≡ Some (object_text object content)
  pub free : IsFalse (is_reserved id object content)
  pub within : length content ≤ max_content
  pub linked : LinksObjects kind object content links

-- what a tag with these links is of
abbrev pub target_linked : ObjectKind → List Link → Option Id
target_linked kinds.Tag (link ∷ links) = Some link.id
target_linked kinds.Tag [] = None
target_linked kinds.Commit links = None
target_linked kinds.Tree links = None
target_linked kinds.Blob links = None

-- a value of this kind, with these links and without a path longer than this, is stored under the
-- id with the others
pub record IsStoredNext (kind : Kind) (tree : Tree) (values : Values) (id : Id) (object : ObjectKind)
    (links : List Link) (most : ℕ) : Type 0 where
  pub value : Value
  pub of_kind : object_kind value ≡ object
  pub target : target_of value ≡ target_linked object links
  pub within : PathsWithin most value
  pub in_tree : AreInTree kind tree (insert values id value)

abbrev pub NextsAreStored : Type 0
NextsAreStored =
    (kind : Kind) (tree : Tree) (values : Values) (id : Id) (object : ObjectKind) (content : Bytes)
    (links : List Link) (most : ℕ) → AreInTree kind tree values
    → IsObject kind tree id object content links
    → get values id ≡ None → AreReady values object most links → most ≤ max_path
    → IsStoredNext kind tree values id object links most
