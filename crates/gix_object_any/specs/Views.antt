-- The values that objects show.
use Rattle.gix_object_commit.specs.Views.{parts_of}
use Rattle.gix_object_tag.specs.Views.{parts_of as tag_parts_of}
use Rattle.std.specs.Prelude.{map}
use Rattle.gix_object_tree.specs.Entry.{item_of}
use Rattle.gix_object_any.specs.Object.{Value, Blob, Tree, Commit, Tag}
use Rattle.gix_object_any.specs.declared.object.ObjectRef.{ObjectRef}
use Rattle.gix_object_any.specs.declared.object.ObjectRef.TheVariants as object

abbrev pub value_of : ObjectRef → Value
value_of (object.Blob blob) = Blob blob.content.now
value_of (object.Tree tree) = Tree (map item_of tree.entries.items)
value_of (object.Commit commit) = Commit (parts_of commit)
value_of (object.Tag tag) = Tag (tag_parts_of tag)
