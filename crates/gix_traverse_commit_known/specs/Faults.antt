-- Why a walk ends early.
use Rattle.std.specs.Prelude.{ℕ, List, Contains, take, ⊤}
use Rattle.gix_hash.specs.declared.object_id.ObjectId.{ObjectId}
use Rattle.gix_object_lookup.specs.Table.{Table}
use Rattle.gix_traverse_commit_known.specs.Fetching.{ReadFault, TimeFault, TimeIsTold}
use Rattle.gix_traverse_commit_known.specs.Painting.{StopsPainting}
use Rattle.gix_traverse_graph.specs.Order.{At}
use Rattle.gix_traverse_commit_known.specs.declared.fetch.FetchError.{FetchError}
use Rattle.gix_traverse_commit_known.specs.declared.fetch.FetchError.TheVariants as fetch
use Rattle.gix_traverse_graph.specs.declared.parents.Parents.{Parents}
use Rattle.gix_traverse_graph.specs.declared.rows.Row.{Row}
use Rattle.gix_traverse_commit_known.specs.declared.faults.Error.{Error}
use Rattle.gix_traverse_commit_known.specs.declared.faults.Error.TheVariants as fault
use Rattle.gix_traverse_commit_known.specs.declared.faults.HiddenGraphError.TheVariants as hidden_fault
use Rattle.gix_traverse_commit_known.specs.declared.waiting.Turn.{Turn}

abbrev pub error_of : FetchError → Error
error_of (fetch.Find error) = fault.Find error
error_of (fetch.ObjectDecode error) = fault.ObjectDecode error
error_of fetch.Memory = fault.Memory

abbrev pub hidden_error : FetchError → Error
hidden_error (fetch.Find error) = fault.HiddenGraph (hidden_fault.Find error)
hidden_error (fetch.ObjectDecode error) = fault.HiddenGraph (hidden_fault.ObjectDecode error)
hidden_error fetch.Memory = fault.Memory

-- a commit whose turn it is isn't read, for this cause
abbrev pub StopsAt : (ObjectId → Type 0) → Parents → Type 0 → Type 0 → List Row → Table → FetchError
    → Type 0
StopsAt Turn along honest may_fail rows table error =
    (id : ObjectId) × Turn id × ReadFault along honest may_fail rows table id error

-- this commit isn't read, for this cause
abbrev pub StopsFetch : Parents → Type 0 → Type 0 → List Row → Table → ObjectId → Error → Type 0
StopsFetch along honest may_fail rows table id (fault.Find error) =
    ReadFault along honest may_fail rows table id (fetch.Find error)
StopsFetch along honest may_fail rows table id (fault.ObjectDecode error) =
    ReadFault along honest may_fail rows table id (fetch.ObjectDecode error)
StopsFetch along honest may_fail rows table id (fault.HiddenGraph error) = ⊥
StopsFetch along honest may_fail rows table id fault.Memory = ⊤

-- why the walk ends: a commit whose turn it is, or one that the hidden commits reach, isn't read
abbrev pub SimpleFault : (ObjectId → Type 0) → Parents → Type 0 → Type 0 → List Row → Table
    → List ObjectId → Error → Type 0
SimpleFault Turn along honest may_fail rows table hidden (fault.Find error) =
    StopsAt Turn along honest may_fail rows table (fetch.Find error)
SimpleFault Turn along honest may_fail rows table hidden (fault.ObjectDecode error) =
    StopsAt Turn along honest may_fail rows table (fetch.ObjectDecode error)
SimpleFault Turn along honest may_fail rows table hidden
    (fault.HiddenGraph (hidden_fault.Find error)) =
    StopsPainting honest may_fail rows table hidden (fetch.Find error)
SimpleFault Turn along honest may_fail rows table hidden
    (fault.HiddenGraph (hidden_fault.ObjectDecode error)) =
    StopsPainting honest may_fail rows table hidden (fetch.ObjectDecode error)
SimpleFault Turn along honest may_fail rows table hidden fault.Memory = ⊤

-- the first of the wanted tips whose time isn't read, for this cause
pub record IsFirstUnread (honest may_fail : Type 0) (rows : List Row) (table : Table)
    (tips : List ObjectId) (wanted : ObjectId → Type 0) (error : FetchError) : Type 0 where
  pub id : ObjectId
  pub place : ℕ
  pub at : At tips place id
  pub is_wanted : wanted id
  pub cause : TimeFault honest may_fail rows table id error
  pub before : honest → (x : ObjectId) → Contains (take place tips) x → wanted x
      → TimeIsTold rows table x

-- why the time of one of these tips isn't read
abbrev pub TipFault : Type 0 → Type 0 → List Row → Table → List ObjectId → (ObjectId → Type 0)
    → Error → Type 0
TipFault honest may_fail rows table tips wanted (fault.Find error) =
    IsFirstUnread honest may_fail rows table tips wanted (fetch.Find error)
TipFault honest may_fail rows table tips wanted (fault.ObjectDecode error) =
    IsFirstUnread honest may_fail rows table tips wanted (fetch.ObjectDecode error)
TipFault honest may_fail rows table tips wanted (fault.HiddenGraph error) = ⊥
TipFault honest may_fail rows table tips wanted fault.Memory = ⊤
