-- Objects that must exist, and why they aren't returned: `honest` says whether a store answers by
-- its table, `may_fail` whether its lookups may fail.
use Rattle.std.specs.Prelude.{ℕ, ◌≡◌, ◌≢◌, ⊤, List, None, Some}
use Rattle.gix_hash.specs.Id.{Id, id_of}
use Rattle.gix_object_lines.specs.declared.kind.Kind.{Kind}
use Rattle.gix_object_lines.specs.declared.kind.Kind.TheVariants as kinds
use Rattle.gix_object_tree.specs.Reading.{place_of, start}
use Rattle.gix_object_tree.specs.declared.tree.ref_iter.TreeRefIter.{TreeRefIter}
use Rattle.gix_object_lookup.specs.Table.{Table, kind_at}
use Rattle.gix_object_lookup.specs.declared.find.Error as find
use Rattle.gix_object_lookup.specs.declared.find.Error.TheVariants.{Failed, Memory}
use Rattle.gix_object_lookup.specs.declared.find.existing.Error as existing
use Rattle.gix_object_lookup.specs.declared.find.existing.Error.TheVariants as existing_case
use Rattle.gix_object_lookup.specs.declared.find.existing_iter.Error as existing_iter
use Rattle.gix_object_lookup.specs.declared.find.existing_iter.Error.TheVariants as iter_case

-- the object of the id has this kind and content
abbrev pub Stands : Table → Id → Kind → List ℕ → Type 0
Stands table id kind content = table id ≡ Some (record { kind = kind; content = content })

abbrev pub LookupFault : Type 0 → find.Error → Type 0
LookupFault may_fail Failed = may_fail
LookupFault may_fail Memory = ⊤

-- no such object exists, and the error has the id
abbrev pub IsAbsent : Type 0 → Table → Id → Id → Type 0
IsAbsent honest table id told = (told ≡ id) × (honest → table id ≡ None)

-- the object is of another kind, and the error has the id and both kinds
abbrev pub HasOtherKind : Type 0 → Table → Id → Kind → Id → Kind → Kind → Type 0
HasOtherKind honest table id kind told actual expected =
    (told ≡ id) × (expected ≡ kind) × (actual ≢ kind) × (honest → kind_at table id ≡ Some actual)

abbrev pub ExistingFault : Type 0 → Type 0 → Table → Id → existing.Error → Type 0
ExistingFault honest may_fail table id (existing_case.Find error) = LookupFault may_fail error
ExistingFault honest may_fail table id (existing_case.NotFound oid) =
    IsAbsent honest table id (id_of oid)

abbrev pub KindFault : Type 0 → Type 0 → Table → Id → Kind → existing_iter.Error → Type 0
KindFault honest may_fail table id kind (iter_case.Find error) = LookupFault may_fail error
KindFault honest may_fail table id kind (iter_case.NotFound oid) =
    IsAbsent honest table id (id_of oid)
KindFault honest may_fail table id kind (iter_case.ObjectKind oid actual expected) =
    HasOtherKind honest table id kind (id_of oid) actual expected

-- the reader begins the content of the tree of this id
abbrev pub IsReadFrom : Table → Id → TreeRefIter → Type 0
IsReadFrom table id reader =
    (content : List ℕ) × Stands table id kinds.Tree content × (place_of reader ≡ start id.kind content)
