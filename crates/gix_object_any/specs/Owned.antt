-- Objects that own their parts.
use Rattle.std.specs.Prelude.{◌≡◌, Option, None, map}
use Rattle.gix_object_lines.specs.Writes.{Refusal}
use Rattle.gix_object_lines.specs.declared.decode.Error.{Error}
use Rattle.gix_object_lines.specs.declared.decode.Error.TheVariants.{Memory}
use Rattle.gix_object_commit.specs.Owned.{IsCommitOf}
use Rattle.gix_object_commit.specs.Owned as commit_owned
use Rattle.gix_object_commit.specs.OwnedText.{own_parts, own_refusal}
use Rattle.gix_object_tag.specs.Owned.{IsTagOf}
use Rattle.gix_object_tag.specs.Owned as tag_owned
use Rattle.gix_object_tag.specs.OwnedText.{own_parts as own_tag_parts, is_bad_actor}
use Rattle.gix_object_tag.specs.TagText.{tag_refusal}
use Rattle.gix_object_tree.specs.Entry.{own_item}
use Rattle.gix_object_tree.specs.Writing.{tree_refusal}
use Rattle.gix_object_any.specs.Object.{Value, Blob, Tree, Commit, Tag}
use Rattle.gix_object_any.specs.declared.owned.Object.{Object}
use Rattle.gix_object_any.specs.declared.owned.Object.TheVariants as object

-- the value as it is written: ids in lower case, times without leading zeros, header values folded
abbrev pub own_value : Object → Value
own_value (object.Blob blob) = Blob blob.content
own_value (object.Tree tree) = Tree (map own_item tree.entries.items)
own_value (object.Commit commit) = Commit (own_parts commit)
own_value (object.Tag tag) = Tag (own_tag_parts tag)

-- what of it is refused: an actor also if its offset has no text
abbrev pub own_value_refusal : Object → Option Refusal
own_value_refusal (object.Blob blob) = None
own_value_refusal (object.Tree tree) = tree_refusal (map own_item tree.entries.items)
own_value_refusal (object.Commit commit) = own_refusal commit
own_value_refusal (object.Tag tag) = tag_refusal (own_tag_parts tag) (is_bad_actor tag.tagger)

-- ---- owned from borrowed parts

-- of the same kind, and each part is owned
abbrev pub IsOwned : Value → Object → Type 0
IsOwned (Blob bytes) (object.Blob blob) = blob.content ≡ bytes
IsOwned (Blob bytes) (object.Tree tree) = ⊥
IsOwned (Blob bytes) (object.Commit commit) = ⊥
IsOwned (Blob bytes) (object.Tag tag) = ⊥
IsOwned (Tree items) (object.Blob blob) = ⊥
IsOwned (Tree items) (object.Tree tree) = map own_item tree.entries.items ≡ items
IsOwned (Tree items) (object.Commit commit) = ⊥
IsOwned (Tree items) (object.Tag tag) = ⊥
IsOwned (Commit parts) (object.Blob blob) = ⊥
IsOwned (Commit parts) (object.Tree tree) = ⊥
IsOwned (Commit parts) (object.Commit commit) = IsCommitOf parts commit
IsOwned (Commit parts) (object.Tag tag) = ⊥
IsOwned (Tag parts) (object.Blob blob) = ⊥
IsOwned (Tag parts) (object.Tree tree) = ⊥
IsOwned (Tag parts) (object.Commit commit) = ⊥
IsOwned (Tag parts) (object.Tag tag) = IsTagOf parts tag

abbrev pub OwningFault : Value → Error → Type 0
OwningFault (Blob bytes) error = error ≡ Memory
OwningFault (Tree items) error = error ≡ Memory
OwningFault (Commit parts) error = commit_owned.OwningFault parts error
OwningFault (Tag parts) error = tag_owned.OwningFault parts.target parts.tagger error
