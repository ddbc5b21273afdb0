-- Why commits aren't listed: `may_fail` says that a store's lookups may fail.
use Rattle.std.specs.Prelude.{ℕ, ◌⊎◌, ⊤, List}
use Rattle.gix_hash.specs.Id.{id_of}
use Rattle.gix_hash.specs.declared.object_id.ObjectId.{ObjectId}
use Rattle.gix_object_commit.specs.ReadingOn.{TellsNone, committer_told}
use Rattle.gix_object_commit.specs.Tokens.{start}
use Rattle.gix_object_lookup.specs.Existing.{Stands}
use Rattle.gix_object_lookup.specs.Table.{Table}
use Rattle.gix_object_lookup.specs.declared.find.Error as looking_up
use Rattle.gix_object_lookup.specs.declared.find.Error.TheVariants as looked_up
use Rattle.gix_object_lookup.specs.declared.find.existing_iter.Error as existing
use Rattle.gix_object_lookup.specs.declared.find.existing_iter.Error.TheVariants as found
use Rattle.gix_object_lines.specs.declared.decode.Error as decode
use Rattle.gix_object_lines.specs.declared.kind.Kind.TheVariants as kinds
use Rattle.gix_traverse_graph.specs.Commits.{Commits, Reached, asked_parents}
use Rattle.gix_traverse_commit_known.specs.Fetching.{LacksParents}
use Rattle.gix_traverse_commit_known.specs.Painting.{ReachedFrom}
use Rattle.gix_traverse_graph.specs.Rows.{Holds}
use Rattle.gix_traverse_commit_known.specs.Told.{IsNoCommit}
use Rattle.gix_traverse_graph.specs.declared.parents.Parents.{Parents}
use Rattle.gix_traverse_graph.specs.declared.parents.Parents.TheVariants.{All}
use Rattle.gix_traverse_graph.specs.declared.rows.Row.{Row}
use Rattle.gix_traverse_commit_known.specs.declared.faults.Error as simple
use Rattle.gix_traverse_commit_known.specs.declared.faults.Error.TheVariants as walked
use Rattle.gix_traverse_commit_known.specs.declared.faults.HiddenGraphError.TheVariants as hidden
use Rattle.gix_traverse_topo.specs.declared.error.Error as topo
use Rattle.gix_traverse_topo.specs.declared.error.Error.TheVariants as sorted
use Rattle.history_walks.specs.declared.error.WalkError.{WalkError}
use Rattle.history_walks.specs.declared.error.WalkError.TheVariants.{Failed, Broken, Memory}

-- ---- errors of walks

abbrev pub as_looked_up : looking_up.Error → WalkError
as_looked_up looked_up.Failed = Failed
as_looked_up looked_up.Memory = Memory

abbrev pub as_found : existing.Error → WalkError
as_found (found.Find error) = as_looked_up error
as_found (found.NotFound oid) = Broken
as_found (found.ObjectKind oid actual expected) = Broken

abbrev pub as_walked : simple.Error → WalkError
as_walked (walked.Find error) = as_found error
as_walked (walked.ObjectDecode error) = Broken
as_walked (walked.HiddenGraph (hidden.Find error)) = as_found error
as_walked (walked.HiddenGraph (hidden.ObjectDecode error)) = Broken
as_walked walked.Memory = Memory

abbrev pub as_sorted : topo.Error → WalkError
as_sorted sorted.MissingIndegreeUnexpected = Broken
as_sorted sorted.MissingStateUnexpected = Broken
as_sorted (sorted.ObjectDecode error) = Broken
as_sorted (sorted.Find error) = as_found error
as_sorted sorted.Memory = Memory

-- ---- their causes

-- no commit is stored under the id; or one whose first lines aren't a commit's, or that says no
-- committer's time
pub data IsUnread (table : Table) (id : ObjectId) : Type 0 where
  absent : IsNoCommit table (id_of id) → IsUnread table id
  lines : (content : List ℕ) (error : decode.Error) → Stands table (id_of id) kinds.Commit content
      → LacksParents All (start (id_of id).kind content) error → IsUnread table id
  time : (content : List ℕ) (error : decode.Error) → Stands table (id_of id) kinds.Commit content
      → TellsNone committer_told (start (id_of id).kind content) error → IsUnread table id

-- the tips or the hidden commits reach it
abbrev pub IsMet : Commits ObjectId → List ObjectId → List ObjectId → ObjectId → Type 0
IsMet g tips hidden x = ReachedFrom g tips x ⊎ ReachedFrom g hidden x

-- the same along these parents
abbrev pub IsMetAlong : Parents → Commits ObjectId → List ObjectId → List ObjectId → ObjectId
    → Type 0
IsMetAlong parents g tips hidden x =
    Reached (asked_parents parents g) (λ _. ⊤) tips x
    ⊎ Reached (asked_parents parents g) (λ _. ⊤) hidden x

-- why no list is returned: of a commit that the walk comes to and that has no row, the lookup
-- failed or it can't be read; or no memory is left
abbrev pub WalkFault : Type 0 → List Row → Table → Commits ObjectId → List ObjectId → List ObjectId
    → WalkError → Type 0
WalkFault may_fail rows table g tips hidden Failed =
    may_fail × ((x : ObjectId) × IsMet g tips hidden x × (¬ Holds rows x))
WalkFault may_fail rows table g tips hidden Broken =
    (x : ObjectId) × IsMet g tips hidden x × (¬ Holds rows x) × IsUnread table x
WalkFault may_fail rows table g tips hidden Memory = ⊤
