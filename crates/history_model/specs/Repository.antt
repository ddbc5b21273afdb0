-- The plain repository, and when it is whole.
use Rattle.std.specs.Prelude.{◌≡◌, Bool, true, false, List, [], ◌∷◌, ◌++◌, map, drop, Option, Some, None, option_map, option_and_then, unwrap_or, is_some, IsSome, IsTrue, IsFalse, codes}
use Rattle.std.specs.List.{AllByRecursion, list_any}
use Rattle.std.specs.FinMap.{FinMap, get, values, empty}
use Rattle.history_model.specs.Bytes.{Bytes, by_bytes}
use Rattle.history_model.specs.FileMap.{FileMap, folders_of, is_below}
use Rattle.history_model.specs.Objects.{by_id, Actor, CommitValue, Value, StoredCommit, StoredTag, StoredBytes, StoredFolder, id_of, empty_tree_id}
use Rattle.gix_hash.specs.Order.{id_eq}
use Rattle.gix_hash.specs.Id.{Id, null_id}
use Rattle.gix_hash.specs.declared.kind.Kind.{Kind}

-- One move of a name, a line of its log. The old id is null if the move creates the name.
pub record LogEntry : Type 0 where
  pub before : Id
  pub after : Id
  pub actor : Actor
  pub message : Bytes

-- what a name holds: an id, and its moves, newest first
pub record Reference : Type 0 where
  pub id : Id
  pub moves : List LogEntry

-- what is stored under each id
abbrev pub Values : Type 0
Values = FinMap by_id Value

-- A kind of digest, the names that exist, HEAD's branch, which needn't exist, and what is stored
-- under each id.
pub record Repository : Type 0 where
  pub kind : Kind
  pub names : FinMap by_bytes Reference
  pub branch : Bytes
  pub objects : Values

-- ---- lookups

-- the id that a name holds, and its moves; none if it doesn't exist
abbrev pub id_at : Repository → Bytes → Option Id
id_at r name = option_map (λ ref. ref.id) (get r.names name)

abbrev pub moves_at : Repository → Bytes → List LogEntry
moves_at r name = unwrap_or (option_map (λ ref. ref.moves) (get r.names name)) []

abbrev pub stands : Repository → Bytes → Bool
stands r name = is_some (get r.names name)

-- the commit, if the value is one
abbrev pub as_commit : Value → Option CommitValue
as_commit (StoredCommit commit) = Some commit
as_commit (StoredTag tag) = None
as_commit (StoredBytes bytes) = None
as_commit (StoredFolder files) = None

abbrev pub commit_at : Repository → Id → Option CommitValue
commit_at r id = option_and_then as_commit (get r.objects id)

-- the commit that an id peels to: itself, or its tag's target
abbrev pub peeled_value : Id → Value → Option Id
peeled_value id (StoredCommit commit) = Some id
peeled_value id (StoredTag tag) = Some tag.target
peeled_value id (StoredBytes bytes) = None
peeled_value id (StoredFolder files) = None

abbrev pub peeled : Repository → Id → Option Id
peeled r id = option_and_then (peeled_value id) (get r.objects id)

abbrev pub is_tag_value : Value → Bool
is_tag_value (StoredTag tag) = true
is_tag_value (StoredCommit commit) = false
is_tag_value (StoredBytes bytes) = false
is_tag_value (StoredFolder files) = false

abbrev pub is_tag : Repository → Id → Bool
is_tag r id = unwrap_or (option_map is_tag_value (get r.objects id)) false

-- ---- whole

-- the value is stored under its own id
abbrev pub IsStored : Repository → Value → Type 0
IsStored r value = get r.objects (id_of r.kind value) ≡ Some value

abbrev pub HoldsCommit : Repository → Id → Type 0
HoldsCommit r id = IsSome (commit_at r id)

-- the folders of a file map, the map itself too, and the bytes of each file
abbrev pub file_values : FileMap → List Value
file_values files =
    map StoredFolder (folders_of files)
    ++ map (λ content. StoredBytes content.bytes) (values files)

-- everything that the value names is stored
abbrev pub NamesAreStored : Repository → Value → Type 0
NamesAreStored r (StoredCommit commit) =
    AllByRecursion (HoldsCommit r) commit.parents × IsStored r (StoredFolder commit.files)
NamesAreStored r (StoredTag tag) = HoldsCommit r tag.target
NamesAreStored r (StoredBytes bytes) = Unit {0}
NamesAreStored r (StoredFolder files) = AllByRecursion (IsStored r) (file_values files)

-- the ids that a value names; for a folder all ids below it, without its own, the first
abbrev pub named_ids : Kind → Value → List Id
named_ids kind (StoredCommit commit) = id_of kind (StoredFolder commit.files) ∷ commit.parents
named_ids kind (StoredTag tag) = tag.target ∷ []
named_ids kind (StoredBytes bytes) = []
named_ids kind (StoredFolder files) = map (id_of kind) (drop 1 (file_values files))

-- one object reaches another through the ids that values name
pub data Reaches (r : Repository) : Id → Id → Type 0 where
  named : {from to : Id} (value : Value) → get r.objects from ≡ Some value
      → IsTrue (list_any (id_eq to) (named_ids r.kind value)) → Reaches r from to
  by_way_of : {from to : Id} (mid : Id) → Reaches r from mid → Reaches r mid to → Reaches r from to

-- each value is stored under its own id
abbrev pub HaveOwnIds : Kind → Values → Type 0
HaveOwnIds kind values =
    (id : Id) (value : Value) → get values id ≡ Some value → id ≡ id_of kind value

-- Each value is stored under its own id, everything that it names is stored, and no object reaches
-- itself. Nothing is stored under the null id, and only the empty folder under the empty tree's id.
pub record IsWholeStore (r : Repository) : Type 0 where
  pub own_ids : HaveOwnIds r.kind r.objects
  pub closed : (id : Id) (value : Value) → get r.objects id ≡ Some value → NamesAreStored r value
  pub acyclic : (id : Id) → Reaches r id id → ⊥
  pub null : get r.objects (null_id r.kind) ≡ None
  pub empty_tree : (value : Value) → get r.objects (empty_tree_id r.kind) ≡ Some value
      → value ≡ StoredFolder empty

-- Each name holds a stored commit or tag, and no name is a folder of another.
pub record HasWholeNames (r : Repository) : Type 0 where
  pub held : (name : Bytes) (id : Id) → id_at r name ≡ Some id → IsSome (peeled r id)
  pub apart : (a b : Bytes) → IsTrue (stands r a) → IsTrue (stands r b) → IsFalse (is_below a b)

pub record IsWhole (r : Repository) : Type 0 where
  pub store : IsWholeStore r
  pub names : HasWholeNames r

-- HEAD's branch in a new folder
abbrev pub first_branch : Bytes
first_branch = codes "refs/heads/main"

-- the repository that a new folder represents
abbrev pub fresh : Kind → Repository
fresh kind = record { kind = kind; names = empty; branch = first_branch; objects = empty }
