-- What is read of a commit, and why it isn't.
use Rattle.std.specs.Prelude.{ℕ, ℤ, ◌≡◌, ◌⊎◌, ◌+◌, ◌≤◌, List, [], ◌∷◌, Contains, Option, Some, None, Err, ⊤}
use Rattle.gix_hash.specs.Id.{Id, id_of}
use Rattle.gix_hash.specs.declared.object_id.ObjectId.{ObjectId}
use Rattle.gix_object_commit.specs.ReadingOn.{TellsFirst, TellsNone, committer_told, parent_told}
use Rattle.gix_object_commit.specs.Tokens.{Place, GivesToken, start}
use Rattle.gix_object_lookup.specs.Existing.{Stands, KindFault}
use Rattle.gix_object_lookup.specs.Table.{Table}
use Rattle.gix_object_lookup.specs.declared.find.Error.TheVariants as lookup
use Rattle.gix_object_lookup.specs.declared.find.existing_iter.Error as existing_iter
use Rattle.gix_object_lookup.specs.declared.find.existing_iter.Error.TheVariants as iter_case
use Rattle.gix_object_lines.specs.declared.decode.Error as decode
use Rattle.gix_object_lines.specs.declared.kind.Kind.TheVariants as kinds
use Rattle.gix_traverse_graph.specs.Rows.{Holds}
use Rattle.gix_traverse_commit_known.specs.Told.{TellsFront, TellsParents, TellsSeconds, rows_of}
use Rattle.gix_traverse_commit_known.specs.declared.fetch.FetchError.{FetchError}
use Rattle.gix_traverse_commit_known.specs.declared.fetch.Source.{Source}
use Rattle.gix_traverse_commit_known.specs.declared.fetch.FetchError.TheVariants as fault
use Rattle.gix_traverse_graph.specs.declared.parents.Parents.{Parents}
use Rattle.gix_traverse_graph.specs.declared.parents.Parents.TheVariants.{All, First}
use Rattle.gix_traverse_graph.specs.declared.rows.Row.{Row}

-- the same objects and rows are read
pub record ReadsSame {F : Type 0} (before after : Source F) : Type 0 where
  pub objects : after.objects ≡ before.objects
  pub rows : after.rows ≡ before.rows

-- one of its rows is the id's
abbrev pub HasRow : {F : Type 0} → Source F → ObjectId → Type 0
HasRow source id = Holds (rows_of source.rows) id

-- so they are, and of objects so many at most are looked up
pub record LooksUpAtMost {F : Type 0} (many : ℕ) (before after : Source F) : Type 0 where
  pub objects : after.objects ≡ before.objects
  pub rows : after.rows ≡ before.rows
  pub least : before.lookups ≤ after.lookups
  pub most : after.lookups ≤ before.lookups + many

-- all parents, or the first alone
abbrev pub ReadsParents : Parents → Place → List Id → Type 0
ReadsParents All here ids = TellsParents here ids
ReadsParents First here ids =
    (TellsParents here ids × (ids ≡ []))
    ⊎ ((id : Id) × (ids ≡ id ∷ []) × TellsFirst parent_told here id)

-- the generation in its row, and none without a row
abbrev pub HasRowsGeneration : List Row → ObjectId → Option ℕ → Type 0
HasRowsGeneration rows id None = ¬ Holds rows id
HasRowsGeneration rows id (Some n) =
    (row : Row) × Contains rows row × (row.id ≡ id) × (row.generation ≡ n)

-- after the tree and some parents, and along first parents after none, comes a line that is no
-- part, for this cause
abbrev pub LacksParents : Parents → Place → decode.Error → Type 0
LacksParents along here error =
    (ids : List Id) × (there : Place) × (after : Place) × TellsFront here ids there
    × GivesToken there (Some (Err error)) after × (along ≡ First → ids ≡ [])

abbrev pub ParentsFault : Parents → Place → FetchError → Type 0
ParentsFault along here (fault.Find error) = ⊥
ParentsFault along here (fault.ObjectDecode error) = LacksParents along here error
ParentsFault along here fault.Memory = ⊤

-- want of memory at a lookup is want of memory
abbrev pub find_error : existing_iter.Error → FetchError
find_error (iter_case.Find lookup.Memory) = fault.Memory
find_error (iter_case.Find lookup.Failed) = fault.Find (iter_case.Find lookup.Failed)
find_error (iter_case.NotFound oid) = fault.Find (iter_case.NotFound oid)
find_error (iter_case.ObjectKind oid actual expected) =
    fault.Find (iter_case.ObjectKind oid actual expected)

-- why a commit's object isn't found; want of memory at its lookup is reported as that
abbrev pub FindFault : Type 0 → Type 0 → Table → ObjectId → existing_iter.Error → Type 0
FindFault honest may_fail table id (iter_case.Find lookup.Memory) = ⊥
FindFault honest may_fail table id (iter_case.Find lookup.Failed) =
    KindFault honest may_fail table (id_of id) kinds.Commit (iter_case.Find lookup.Failed)
FindFault honest may_fail table id (iter_case.NotFound oid) =
    KindFault honest may_fail table (id_of id) kinds.Commit (iter_case.NotFound oid)
FindFault honest may_fail table id (iter_case.ObjectKind oid actual expected) =
    KindFault honest may_fail table (id_of id) kinds.Commit
    (iter_case.ObjectKind oid actual expected)

-- why a commit isn't read along these parents: it has no row, and its object isn't found or is no
-- commit, or its lines aren't a commit's
abbrev pub ReadFault : Parents → Type 0 → Type 0 → List Row → Table → ObjectId → FetchError → Type 0
ReadFault along honest may_fail rows table id (fault.Find error) =
    (¬ Holds rows id) × FindFault honest may_fail table id error
ReadFault along honest may_fail rows table id (fault.ObjectDecode error) =
    (¬ Holds rows id)
    × (honest
    → (content : List ℕ) × Stands table (id_of id) kinds.Commit content
    × LacksParents along (start (id_of id).kind content) error)
ReadFault along honest may_fail rows table id fault.Memory = ⊤

-- the same along all parents
abbrev pub FetchFault : Type 0 → Type 0 → List Row → Table → ObjectId → FetchError → Type 0
FetchFault honest may_fail rows table id error = ReadFault All honest may_fail rows table id error

-- why a commit's time isn't read: it has no row, and its object isn't found or is no commit, or has
-- no committer
abbrev pub TimeFault : Type 0 → Type 0 → List Row → Table → ObjectId → FetchError → Type 0
TimeFault honest may_fail rows table id (fault.Find error) =
    (¬ Holds rows id) × FindFault honest may_fail table id error
TimeFault honest may_fail rows table id (fault.ObjectDecode error) =
    (¬ Holds rows id)
    × (honest
    → (content : List ℕ) × Stands table (id_of id) kinds.Commit content
    × TellsNone committer_told (start (id_of id).kind content) error)
TimeFault honest may_fail rows table id fault.Memory = ⊤

-- a row or an object has the commit's time
abbrev pub TimeIsTold : List Row → Table → ObjectId → Type 0
TimeIsTold rows table id =
    Holds rows id
    ⊎ ((content : List ℕ) × (seconds : ℤ) × Stands table (id_of id) kinds.Commit content
    × TellsSeconds (start (id_of id).kind content) seconds)
