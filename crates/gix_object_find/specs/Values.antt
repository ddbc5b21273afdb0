-- Objects of a kind that must exist, as the values that their contents spell, and why they aren't
-- given.
use Rattle.std.specs.Prelude.{ℕ, ◌≡◌, List, map}
use Rattle.gix_hash.specs.Id.{Id, id_of}
use Rattle.gix_hash.specs.declared.kind.Kind as hash
use Rattle.gix_object_lines.specs.declared.kind.Kind.{Kind}
use Rattle.gix_object_lines.specs.declared.decode.Error as decode
use Rattle.gix_object_commit.specs.Views.{parts_of}
use Rattle.gix_object_commit.specs.declared.commit.CommitRef.{CommitRef}
use Rattle.gix_object_tree.specs.Entry.{item_of}
use Rattle.gix_object_tree.specs.declared.tree.whole.TreeRef.{TreeRef}
use Rattle.gix_object_tag.specs.Views.{parts_of as tag_parts_of}
use Rattle.gix_object_tag.specs.declared.tag.TagRef.{TagRef}
use Rattle.gix_object_any.specs.Object.{Value, Commit, Tag, Tree, Tells, ContentFault}
use Rattle.gix_object_any.specs.declared.data.Data.{Data}
use Rattle.gix_object_lookup.specs.Existing.{Stands, LookupFault, IsAbsent, HasOtherKind}
use Rattle.gix_object_lookup.specs.Table.{Object, Table}
use Rattle.gix_object_lookup.specs.declared.find.existing_object.Error as existing_object
use Rattle.gix_object_lookup.specs.declared.find.existing_object.Error.TheVariants as object_case

-- the object that some data are
abbrev pub object_of : Data → Object
object_of data_ = record { kind = data_.kind; content = data_.content.now }

-- the object of the id has this kind and value
abbrev pub StandsAs : Table → Id → Kind → Value → Type 0
StandsAs table id kind value =
    (content : List ℕ) × Stands table id kind content × Tells id.kind kind content value

-- the values of a tree, a commit and a tag that were read
abbrev pub tree_value : TreeRef → Value
tree_value tree = Tree (map item_of tree.entries.items)

abbrev pub commit_value : CommitRef → Value
commit_value commit = Commit (parts_of commit)

abbrev pub tag_value : TagRef → Value
tag_value tag = Tag (tag_parts_of tag)

-- an object of the kind exists, its content isn't read for this cause, and the error has the id
abbrev pub IsUnread : Type 0 → Table → Id → Kind → Id → decode.Error → Type 0
IsUnread honest table id kind told cause =
    (told ≡ id)
    × ((content : List ℕ) × (honest → Stands table id kind content)
    × ContentFault id.kind kind content cause)

abbrev pub ObjectFault : Type 0 → Type 0 → Table → Id → Kind → existing_object.Error → Type 0
ObjectFault honest may_fail table id kind (object_case.Find error) = LookupFault may_fail error
ObjectFault honest may_fail table id kind (object_case.Decode oid source) =
    IsUnread honest table id kind (id_of oid) source
ObjectFault honest may_fail table id kind (object_case.NotFound oid) =
    IsAbsent honest table id (id_of oid)
ObjectFault honest may_fail table id kind (object_case.ObjectKind oid actual expected) =
    HasOtherKind honest table id kind (id_of oid) actual expected

-- the reader begins the content of the object of the id
abbrev pub ReadsStanding : {R : Type 0} → (hash.Kind → List ℕ → R → Type 0) → Table → Id → Kind
    → R → Type 0
ReadsStanding reads table id kind reader =
    (content : List ℕ) × Stands table id kind content × reads id.kind content reader
