-- What an object's content says of others: their ids, their kinds, and how long their names in it
-- are.
use Rattle.std.specs.Prelude.{◌≡◌, ◌+◌, ◌≤◌, ℕ, zero, suc, List, length, map, Some, IsTrue}
use Rattle.std.specs.List.{AllByRecursion}
use Rattle.std.specs.FinMap.{get, contains_key}
use Rattle.gix_hash.specs.Id.{Id}
use Rattle.gix_hash.specs.declared.kind.Kind.{Kind}
use Rattle.gix_object_tree.specs.Entry.{Item}
use Rattle.gix_object_lines.specs.declared.kind.Kind.{Kind as ObjectKind}
use Rattle.gix_object_lines.specs.declared.kind.Kind.TheVariants as kinds
use Rattle.history_model.specs.Bytes.{Bytes}
use Rattle.history_model.specs.Objects.{Value, StoredCommit, StoredTag, StoredBytes, StoredFolder, object_kind}
use Rattle.history_model.specs.Repository.{Values}
use Rattle.history_texts.specs.Written.{IsWrittenTree, NamesObjects, Naming, entry_kind}

-- an object that is named, the kind that it must be of, and the length of the name that a tree
-- gives it
pub record Link : Type 0 where
  pub id : Id
  pub kind : ObjectKind
  pub name : ℕ

abbrev pub link_by_item : Item → Link
link_by_item item = record { id = item.id; kind = entry_kind item; name = length item.name }

-- no tree names it
abbrev pub plain_link : Naming → Link
plain_link naming = record { id = naming.0; kind = naming.1; name = 0 }

abbrev pub LinksPlainly : Kind → ObjectKind → Bytes → List Link → Type 0
LinksPlainly digests kind content links = (named : List Naming) × NamesObjects digests kind content named
    × (links ≡ map plain_link named)

abbrev pub LinksByTree : Kind → Bytes → List Link → Type 0
LinksByTree digests content links =
    (items : List Item) × IsWrittenTree digests content items × (links ≡ map link_by_item items)

-- the content is one of this kind in written form, and names these objects
abbrev pub LinksObjects : Kind → ObjectKind → Bytes → List Link → Type 0
LinksObjects digests kinds.Tree content links = LinksByTree digests content links
LinksObjects digests kinds.Blob content links = LinksPlainly digests kinds.Blob content links
LinksObjects digests kinds.Commit content links = LinksPlainly digests kinds.Commit content links
LinksObjects digests kinds.Tag content links = LinksPlainly digests kinds.Tag content links

-- ---- how long paths are

-- each path of a folder has at most so many bytes
abbrev pub PathsWithin : ℕ → Value → Type 0
PathsWithin most (StoredFolder files) =
    (path : Bytes) → IsTrue (contains_key files path) → length path ≤ most
PathsWithin most (StoredCommit commit) = Unit {0}
PathsWithin most (StoredTag tag) = Unit {0}
PathsWithin most (StoredBytes bytes) = Unit {0}

-- each path that a name of so many bytes, and what it names, make has at most so many
abbrev pub IsWithin : ℕ → ℕ → Value → Type 0
IsWithin most name (StoredFolder files) =
    (path : Bytes) → IsTrue (contains_key files path) → name + 1 + length path ≤ most
IsWithin most name (StoredCommit commit) = name ≤ most
IsWithin most name (StoredTag tag) = name ≤ most
IsWithin most name (StoredBytes bytes) = name ≤ most

-- how long the longest path is that a name makes with what it names: the second number is the
-- length of the longest path in that, zero if there is none
abbrev pub reach_of : ℕ → ℕ → ℕ
reach_of name zero = name
reach_of name (suc longest) = name + 1 + suc longest

-- ---- what is stored already

-- the object is stored in its kind, and in a tree it makes no path longer than this
pub record IsReady (values : Values) (by : ObjectKind) (most : ℕ) (link : Link) : Type 0 where
  pub value : Value
  pub stored : get values link.id ≡ Some value
  pub of_kind : object_kind value ≡ link.kind
  pub within : by ≡ kinds.Tree → IsWithin most link.name value

abbrev pub AreReady : Values → ObjectKind → ℕ → List Link → Type 0
AreReady values by most links = AllByRecursion (IsReady values by most) links
