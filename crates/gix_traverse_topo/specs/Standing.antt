-- The state of a walk, and what it gives.
use Rattle.std.specs.Prelude.{◌≡◌, ◌↔◌, ◌⊎◌, ℕ, ◌+◌, ◌<◌, ◌≤◌, Bool, ℤ, pos, List, [], ◌∷◌, ◌++◌, length, drop, map, filter, Contains, Option, None, Some, IfSome, ⊤, true, slice_set, slice_index_or}
use Rattle.std.specs.BinaryHeap.{heap_items, IsHeap}
use Rattle.gix_hash.specs.declared.object_id.ObjectId.{ObjectId}
use Rattle.gix_hash.specs.declared.object_id.ObjectId.TheVariants.{Sha1}
use Rattle.gix_traverse_graph.specs.Commits.{Commit, Commits, WalkRequest, asked, asked_parents, Reached, Hides, Listed}
use Rattle.gix_traverse_commit_known.specs.Fetching.{HasRowsGeneration}
use Rattle.gix_traverse_graph.specs.Numbered.{same_id}
use Rattle.gix_traverse_graph.specs.Order.{At, IsReady, NewestFirst, Outranks}
use Rattle.gix_object_lookup.specs.Table.{Table}
use Rattle.gix_traverse_commit_known.specs.Painting.{ReachedFrom}
use Rattle.gix_traverse_commit_known.specs.Told.{AreTold}
use Rattle.gix_traverse_graph.specs.Walks.{InDate, InTopological, unfiltered}
use Rattle.gix_traverse_graph.specs.declared.info.Info.{Info}
use Rattle.gix_traverse_graph.specs.declared.parents.Parents.{Parents}
use Rattle.gix_traverse_graph.specs.declared.rows.Row.{Row}
use Rattle.gix_traverse_topo.specs.Faults.{IsFaultOf}
use Rattle.gix_traverse_topo.specs.Nodes.{all_facts, counts, hidden_in, Tells, EachCount, IsOnce}
use Rattle.gix_traverse_topo.specs.Turns.{total, names_of, named_so_far, Freed, Waits, Ranked}
use Rattle.gix_traverse_topo.specs.Waiting.{pending_cmp, waiting, Joined}
use Rattle.gix_traverse_topo.specs.declared.error.Error.{Error}
use Rattle.gix_traverse_topo.specs.declared.error.Error.TheVariants.{Memory}
use Rattle.gix_traverse_topo.specs.declared.init.Sorting.{Sorting}
use Rattle.gix_traverse_topo.specs.declared.init.Sorting.TheVariants.{DateOrder, TopoOrder}
use Rattle.gix_traverse_topo.specs.declared.known.Known.{Known}
use Rattle.gix_traverse_topo.specs.declared.known.Facts.{Facts}
use Rattle.gix_traverse_topo.specs.declared.ready.Pending.{Pending}
use Rattle.gix_traverse_topo.specs.declared.ready.Ready.{Ready}
use Rattle.gix_traverse_topo.specs.declared.ready.Ready.TheVariants.{ByDate, Topological}

-- the id of a number
abbrev pub id_at : List ObjectId → ℕ → ObjectId
id_at keys n = slice_index_or keys n (Sha1 [])

abbrev pub ids_of : List ObjectId → List Pending → List ObjectId
ids_of keys pending = map (λ (p : Pending). id_at keys p.number.0) pending

-- which of two that are ready is given first
abbrev pub Comes : Sorting → (ObjectId → List ObjectId) → List ObjectId → (ObjectId → ℤ)
    → List ObjectId → ObjectId → ObjectId → Type 0
Comes DateOrder way tips time = NewestFirst time
Comes TopoOrder way tips time = Outranks way tips time

-- those that wait are in the order that is wanted
abbrev pub Ranks : Sorting → (ObjectId → List ObjectId) → List ObjectId → (ObjectId → ℤ)
    → List ObjectId → List ObjectId → Ready → Type 0
Ranks DateOrder way tips time keys finished (ByDate heap) = IsHeap pending_cmp (heap_items heap)
Ranks TopoOrder way tips time keys finished (Topological stack) =
    Ranked way tips time finished (ids_of keys stack.items)
Ranks DateOrder way tips time keys finished (Topological stack) = ⊥
Ranks TopoOrder way tips time keys finished (ByDate heap) = ⊥

-- what is still to be counted off, and what waits
abbrev pub weight : Known → Ready → ℕ
weight known ready =
    total (λ count. count) (drop (hidden_in known.nodes.items) (counts known.nodes.items))
    + length (waiting ready)

-- a name of this commit is counted off, and it waits if that was the last
pub data CountsOff (low : ℕ) (keys : List ObjectId) (told : List Facts) (cs : List ℕ)
    (ready : Ready) (id : ObjectId) (cs' : List ℕ) (ready' : Ready) : Type 0 where
  passed : (IsOnce keys → (n : ℕ) → At keys n id → n < low) → cs' ≡ cs → ready' ≡ ready
      → CountsOff low keys told cs ready id cs' ready'
  counted : {n count : ℕ} → low ≤ n → At keys n id → At cs n (count + 1) → (count ≡ 0 → ⊥)
      → cs' ≡ slice_set cs n count → ready' ≡ ready → CountsOff low keys told cs ready id cs' ready'
  freed : {n : ℕ} {pending : Pending} {facts : Facts} → low ≤ n → At keys n id → At cs n 1
      → cs' ≡ slice_set cs n 0 → pending.number.0 ≡ n → At told n facts
      → pending.time ≡ facts.time → Joined ready (pending ∷ []) ready'
      → CountsOff low keys told cs ready id cs' ready'

-- no name of this commit is left to be counted off, or it isn't known
abbrev pub NotCounted : ℕ → List ObjectId → List ℕ → ObjectId → Type 0
NotCounted low keys cs id = (n : ℕ) × (low ≤ n) × At keys n id × ((length cs ≤ n) ⊎ At cs n 0)

-- the names of a row, of one that isn't given yet, may be counted off
pub record GoesOff (way : ObjectId → List ObjectId) (h : Commits ObjectId)
    (before row hs xs : List ObjectId) (known : Known) : Type 0 where
  pub keys_are : known.ids.keys ≡ hs ++ xs
  pub hidden_are : hidden_in known.nodes.items ≡ length hs
  pub keys_once : IsOnce known.ids.keys
  pub all_read : length known.nodes.items ≡ length known.ids.keys
  pub room : (m : ℕ) (y : ObjectId) → At row m y → Contains xs y
      → named_so_far same_id way before row m y + 1 ≤ names_of same_id way y xs
  pub timed : (n : ℕ) (y : ObjectId) (facts : Facts) → hidden_in known.nodes.items ≤ n
      → At known.ids.keys n y → Contains row y → At (all_facts known.nodes.items) n facts
      → facts.time ≡ (h y).time
  pub counted : EachCount (hidden_in known.nodes.items) known.ids.keys (counts known.nodes.items)
      (λ y count. count + named_so_far same_id way before row 0 y ≡ names_of same_id way y xs)

-- the first m names of a row are counted off, and those that are free then wait too
pub record RowOff (low : ℕ) (keys : List ObjectId) (way : ObjectId → List ObjectId)
    (h : Commits ObjectId) (before row xs : List ObjectId) (ready : Ready) (m : ℕ) (cs : List ℕ)
    (ready' : Ready) : Type 0 where
  pub more : List Pending
  pub counted : EachCount low keys cs
      (λ y count. count + named_so_far same_id way before row m y ≡ names_of same_id way y xs)
  pub freed : Freed same_id way xs before row m (ids_of keys more)
  pub joined : Joined ready more ready'
  pub numbered : (pending : Pending) → Contains more pending
      → (x : ObjectId) × (low ≤ pending.number.0) × At keys pending.number.0 x
      × (pending.time ≡ (h x).time)

-- the walk has given these, and others wait
pub record Standing (sorting : Sorting) (rows : List Row) (h : Commits ObjectId)
    (tips : List ObjectId) (parents : Parents) (hs xs finished : List ObjectId) (known : Known)
    (ready : Ready) : Type 0 where
  pub keys_are : known.ids.keys ≡ hs ++ xs
  pub hidden_are : hidden_in known.nodes.items ≡ length hs
  pub keys_once : IsOnce known.ids.keys
  pub all_read : length known.nodes.items ≡ length known.ids.keys
  pub tells : (n : ℕ) (x : ObjectId) (facts : Facts) → hidden_in known.nodes.items ≤ n
      → At known.ids.keys n x → At (all_facts known.nodes.items) n facts
      → (Contains finished x → ⊥) → Tells rows h x facts
  pub counted : EachCount (hidden_in known.nodes.items) known.ids.keys (counts known.nodes.items)
      (λ y count. count + names_of same_id (asked_parents parents h) y finished
      ≡ names_of same_id (asked_parents parents h) y xs)
  pub numbered : (pending : Pending) → Contains (waiting ready) pending
      → (x : ObjectId) × (hidden_in known.nodes.items ≤ pending.number.0)
      × At known.ids.keys pending.number.0 x × (pending.time ≡ (h x).time)
  pub waits : Waits same_id (asked_parents parents h) (Contains xs)
      (Comes sorting (asked_parents parents h) tips (λ x. (h x).time)) finished
      (ids_of known.ids.keys (waiting ready))
  pub ranks : Ranks sorting (asked_parents parents h) tips
      (λ x. (h x).time) known.ids.keys finished ready

-- what is given of a commit: all its parents, its time, and its row's generation
pub record IsInfo (rows : List Row) (g : Commits ObjectId) (info : Info) : Type 0 where
  pub parents : info.parent_ids.items ≡ (g info.id).parents
  pub time : info.commit_time ≡ Some (g info.id).time
  pub generation : HasRowsGeneration rows info.id info.generation

-- it is this commit's turn
pub record IsNext (sorting : Sorting) (h : Commits ObjectId) (tips : List ObjectId)
    (parents : Parents) (S : ObjectId → Type 0) (finished : List ObjectId)
    (x : ObjectId) : Type 0 where
  pub listed : S x
  pub new : Contains finished x → ⊥
  pub ready : IsReady (asked_parents parents h) S finished x
  pub first : (y : ObjectId) → S y → (Contains finished y → ⊥)
      → IsReady (asked_parents parents h) S finished y → (y ≡ x → ⊥)
      → Comes sorting (asked_parents parents h) tips (λ z. (h z).time) finished x y

-- one commit is taken out of those that wait, and its names are counted off
pub record Gives (number : ℕ) (along : Parents) (old : Known) (ready : Ready) (new : Known)
    (ready' : Ready) (info : Info) : Type 0 where
  pub facts : Facts
  pub at : At (all_facts old.nodes.items) number facts
  pub read : facts.fault ≡ None
  pub id : At old.ids.keys number info.id
  pub parents : info.parent_ids.items ≡ facts.parents.items
  pub generation : info.generation ≡ facts.generation
  pub time : info.commit_time ≡ Some facts.time
  pub off : (way : ObjectId → List ObjectId) (h : Commits ObjectId) (before hs xs : List ObjectId)
      → GoesOff way h before (asked along facts.parents.items) hs xs old → IsOnce xs
      → (m : ℕ) × (length (asked along facts.parents.items) ≤ m)
      × RowOff (hidden_in old.nodes.items) old.ids.keys way h before
      (asked along facts.parents.items) xs ready m (counts new.nodes.items) ready'
  pub others : (k : ℕ) (other : Facts) → (k ≡ number → ⊥)
      → At (all_facts new.nodes.items) k other → At (all_facts old.nodes.items) k other
  pub as_many : length new.nodes.items ≡ length old.nodes.items

-- it gives the commit whose turn it is, which was read
pub record Steps (sorting : Sorting) (rows : List Row) (h : Commits ObjectId)
    (tips : List ObjectId) (parents : Parents) (hs xs finished : List ObjectId) (old : Known)
    (ready : Ready) (new : Known) (ready' : Ready) (info : Info) : Type 0 where
  pub standing : Standing sorting rows h tips parents hs xs (finished ++ info.id ∷ []) new ready'
  pub is_info : IsInfo rows h info
  pub number : ℕ
  pub facts : Facts
  pub new_one : Contains finished info.id → ⊥
  pub behind : hidden_in old.nodes.items ≤ number
  pub id : At old.ids.keys number info.id
  pub at : At (all_facts old.nodes.items) number facts
  pub read : facts.fault ≡ None
  pub others : (k : ℕ) (other : Facts) → (k ≡ number → ⊥)
      → At (all_facts new.nodes.items) k other → At (all_facts old.nodes.items) k other

-- so it gives, of whichever walk it is
abbrev pub StepsOn : Parents → Known → Ready → Known → Ready → Info → Type 0
StepsOn parents known ready known' ready' info =
    (sorting : Sorting) (rows : List Row) (h : Commits ObjectId)
    (tips hs xs finished : List ObjectId)
    → Standing sorting rows h tips parents hs xs finished known ready
    → Steps sorting rows h tips parents hs xs finished known ready known' ready' info

-- the request that these make
abbrev pub topo_request : {I : Type 0} → List I → List I → Parents → (I → Bool) → WalkRequest I
topo_request tips ends parents accepts =
    record { tips = tips; hidden = ends; parents = parents; since = None; accepts = accepts }

abbrev pub all_accepted : ObjectId → Bool
all_accepted x = true

-- the list is that of the walk in this order
abbrev pub Answers : Sorting → Commits ObjectId → WalkRequest ObjectId → List ObjectId → Type 0
Answers DateOrder g q given = InDate g q given
Answers TopoOrder g q given = InTopological g q given

-- no commit of the walk reaches itself
abbrev pub NoneReachesItself : Commits ObjectId → WalkRequest ObjectId → Type 0
NoneReachesItself g q =
    (x : ObjectId) → Listed g q x → Reached (λ y. (g y).parents) (λ _. ⊤) (g x).parents x → ⊥

-- a commit as far as it was read: one that wasn't, for some fault, counts as one without parents,
-- of time 0
abbrev pub read_so : Option Error → Commit ObjectId → Commit ObjectId
read_so None commit = commit
read_so (Some fault) commit = record { parents = []; time = pos 0 }

-- the commits as far as they were read, if these faults were found
abbrev pub as_read : (ObjectId → Option Error) → Commits ObjectId → Commits ObjectId
as_read faults g x = read_so (faults x) (g x)

-- the walk has given these of the commits that are accepted; `faults` says why a commit isn't read
pub record Stands (sorting : Sorting) (rows : List Row) (faults : ObjectId → Option Error)
    (g : Commits ObjectId) (tips ends : List ObjectId) (parents : Parents)
    (accepts : ObjectId → Bool) (given : List ObjectId) (known : Known)
    (ready : Ready) : Type 0 where
  pub hs : List ObjectId
  pub xs : List ObjectId
  pub finished : List ObjectId
  pub standing : Standing sorting rows (as_read faults g) tips parents hs xs finished known ready
  pub lists : (x : ObjectId)
      → Contains xs x ↔ Listed (as_read faults g) (topo_request tips ends parents all_accepted) x
  pub hides : (x : ObjectId)
      → Hides (as_read faults g) (topo_request tips ends parents all_accepted) x
      ↔ Hides g (topo_request tips ends parents all_accepted) x
  pub faulty : (n : ℕ) (x : ObjectId) (facts : Facts) → hidden_in known.nodes.items ≤ n
      → At known.ids.keys n x → At (all_facts known.nodes.items) n facts
      → (Contains finished x → ⊥) → facts.fault ≡ faults x
  pub finished_read : (x : ObjectId) → Contains finished x → faults x ≡ None
  pub given_are : given ≡ filter accepts finished

-- for each commit it is known why it isn't read; ends or tips reach all that is known; and the walk
-- is before its first commit
pub record Begins (honest may_fail : Type 0) (sorting : Sorting) (rows : List Row) (table : Table)
    (tips ends : List ObjectId) (parents : Parents) (accepts : ObjectId → Bool) (known : Known)
    (ready : Ready) : Type 0 where
  pub faults : ObjectId → Option Error
  pub causes : (x : ObjectId) → IfSome (faults x) (IsFaultOf honest may_fail rows table x)
  pub known_reached : honest → (g : Commits ObjectId) → AreTold rows table g → (x : ObjectId)
      → Contains known.ids.keys x
      → ReachedFrom g ends x ⊎ Listed g (topo_request tips ends parents all_accepted) x
  pub stands : honest → (g : Commits ObjectId) → AreTold rows table g
      → Stands sorting rows faults g tips ends parents accepts [] known ready

-- the walk has given these, and of all its commits, as far as they were read, it is the turn of x
pub record IsTurn (sorting : Sorting) (faults : ObjectId → Option Error) (g : Commits ObjectId)
    (q : WalkRequest ObjectId) (given : List ObjectId) (x : ObjectId) : Type 0 where
  pub finished : List ObjectId
  pub given_are : given ≡ filter q.accepts finished
  pub read : (y : ObjectId) → Contains finished y → faults y ≡ None
  pub next : IsNext sorting (as_read faults g) q.tips q.parents
      (Listed (as_read faults g) (unfiltered q)) finished x
  pub listed : Listed g (unfiltered q) x

-- of the commits that wait, it is the turn of one that isn't read, for this cause
abbrev pub IsTurnOf : Sorting → List Row → List ObjectId → Parents → List ObjectId → Known → Ready
    → Error → Type 0
IsTurnOf sorting rows tips parents finished known ready error =
    (h : Commits ObjectId) (hs xs : List ObjectId)
    → Standing sorting rows h tips parents hs xs finished known ready
    → (error ≡ Memory)
    ⊎ ((x : ObjectId) × (n : ℕ) × (facts : Facts) × At known.ids.keys n x
    × At (all_facts known.nodes.items) n facts × (facts.fault ≡ Some error)
    × IsNext sorting h tips parents (Contains xs) finished x)
