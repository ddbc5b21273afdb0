-- Why a walk isn't built, or ends early.
use Rattle.std.specs.Prelude.{◌≡◌, ◌⊎◌, List}
use Rattle.gix_hash.specs.declared.object_id.ObjectId.{ObjectId}
use Rattle.gix_object_lookup.specs.Table.{Table}
use Rattle.gix_traverse_graph.specs.Commits.{Commits}
use Rattle.gix_traverse_commit_known.specs.Fetching.{FetchFault}
use Rattle.gix_traverse_commit_known.specs.Painting.{ReachedFrom}
use Rattle.gix_traverse_commit_known.specs.Told.{AreTold}
use Rattle.gix_traverse_commit_known.specs.declared.fetch.FetchError.{FetchError}
use Rattle.gix_traverse_commit_known.specs.declared.fetch.FetchError.TheVariants as fetch
use Rattle.gix_traverse_graph.specs.declared.rows.Row.{Row}
use Rattle.gix_traverse_topo.specs.declared.error.Error.{Error}
use Rattle.gix_traverse_topo.specs.declared.error.Error.TheVariants as fault

abbrev pub error_of : FetchError → Error
error_of (fetch.Find error) = fault.Find error
error_of (fetch.ObjectDecode error) = fault.ObjectDecode error
error_of fetch.Memory = fault.Memory

-- why this commit isn't read
abbrev pub IsFaultOf : Type 0 → Type 0 → List Row → Table → ObjectId → Error → Type 0
IsFaultOf honest may_fail rows table id fault.MissingIndegreeUnexpected = ⊥
IsFaultOf honest may_fail rows table id fault.MissingStateUnexpected = ⊥
IsFaultOf honest may_fail rows table id (fault.ObjectDecode error) =
    FetchFault honest may_fail rows table id (fetch.ObjectDecode error)
IsFaultOf honest may_fail rows table id (fault.Find error) =
    FetchFault honest may_fail rows table id (fetch.Find error)
IsFaultOf honest may_fail rows table id fault.Memory = ⊥

-- a commit that the ends reach isn't read, for this cause
pub record StopsAtEnds (honest may_fail : Type 0) (rows : List Row) (table : Table)
    (ends : List ObjectId) (error : Error) : Type 0 where
  pub id : ObjectId
  pub cause : IsFaultOf honest may_fail rows table id error
  pub reached : honest → (g : Commits ObjectId) → AreTold rows table g → ReachedFrom g ends id

-- why a walk isn't built
abbrev pub IsBuildFault : Type 0 → Type 0 → List Row → Table → List ObjectId → Error → Type 0
IsBuildFault honest may_fail rows table ends error =
    (error ≡ fault.Memory) ⊎ StopsAtEnds honest may_fail rows table ends error
