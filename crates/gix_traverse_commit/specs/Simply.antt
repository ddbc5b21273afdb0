-- What a walk is to list, and its state.
use Rattle.std.specs.Prelude.{◌≡◌, ◌⊎◌, ◌↔◌, ◌≤◌, ◌+◌, ℕ, Bool, true, false, ◌&&◌, List, [], ◌∷◌, ◌++◌, length, Option, None, Some, Contains, if◌then◌else◌}
use Rattle.std.specs.List.{sum_by}
use Rattle.gix_hash.specs.Id.{Id, id_of}
use Rattle.gix_hash.specs.declared.kind.Kind as hash
use Rattle.gix_hash.specs.declared.object_id.ObjectId.{ObjectId}
use Rattle.gix_traverse_graph.specs.Commits.{Commits, asked_parents}
use Rattle.gix_traverse_commit_known.specs.Ending.{NoneGains, is_empty, may_come, times_in, times_waiting, known_ids}
use Rattle.gix_traverse_commit_known.specs.Known.{turns_of, waited_of}
use Rattle.gix_traverse_commit_known.specs.Keeping.{Kept, KeptAll}
use Rattle.gix_traverse_commit_known.specs.Nodes.{is_hidden, is_met}
use Rattle.gix_traverse_commit_known.specs.Painting.{ReachedFrom}
use Rattle.gix_traverse_commit_known.specs.Told.{rows_of}
use Rattle.gix_traverse_graph.specs.Standing.{Reads}
use Rattle.gix_traverse_graph.specs.Order.{IsOpen}
use Rattle.gix_traverse_graph.specs.Sorting.{ComesFirst}
use Rattle.gix_traverse_commit_known.specs.Timely.{IsChosenSoFar, IsMetSoFar, keep_since}
use Rattle.gix_traverse_commit_known.specs.declared.fetch.Source.{Source}
use Rattle.gix_traverse_graph.specs.declared.rows.Row.{Row}
use Rattle.gix_traverse_commit.specs.declared.simple.Simple.{Simple}
use Rattle.gix_traverse_graph.specs.declared.sorting.Timing.{Timing}
use Rattle.gix_traverse_commit_known.specs.Asked.{AcceptsAs, AreRefused, Asked, IsKnown, keep_of, timing}

-- ---- what a clause says of a walk

-- where it reads commits from, and how many objects it looked up so far
abbrev pub source_of : {F P : Type 0} → Simple F P → Source F
source_of walk = walk.source

-- the objects
abbrev pub objects_of : {F P : Type 0} → Simple F P → F
objects_of walk = walk.source.objects

-- the rows that are read before them, if there are any
abbrev pub graph_of : {F P : Type 0} → Simple F P → Option (List Row)
graph_of walk = walk.source.rows

-- the predicate
abbrev pub predicate_of : {F P : Type 0} → Simple F P → P
predicate_of walk = walk.predicate

-- how many objects it looked up so far
abbrev pub lookups_of : {F P : Type 0} → Simple F P → ℕ
lookups_of walk = walk.source.lookups

-- the content of the commit that was given last, if it was read from its object
abbrev pub content_of : {F P : Type 0} → Simple F P → List ℕ
content_of walk = walk.source.buffer.items

-- the hash function of that commit's id
abbrev pub kind_of : {F P : Type 0} → Simple F P → hash.Kind
kind_of walk = walk.kind

-- what is queued, in the order in which it was queued
abbrev pub queued_in : {F P : Type 0} → Simple F P → List ObjectId
queued_in walk = walk.known.queue ++ waited_of walk.known

-- it has met the commit: as a tip, or as a parent of a commit that came, which was not hidden then
abbrev pub HasMet : {F P : Type 0} → Simple F P → ObjectId → Type 0
HasMet walk x = is_met walk.known.nodes x ≡ true

-- how often an id is queued, or waits
abbrev pub times_queued : {F P : Type 0} → Simple F P → Id → ℕ
times_queued walk id = times_in walk.known.queue id + times_waiting (turns_of walk.known) id

-- no commit may come more often than before
abbrev pub GainsNone : {F P : Type 0} → Simple F P → Simple F P → Type 0
GainsNone before after =
    NoneGains before.known.nodes (times_queued before) after.known.nodes (times_queued after)

-- the commit may come once less often than before, and no other more often
abbrev pub TakesOne : {F P : Type 0} → Simple F P → ObjectId → Simple F P → Type 0
TakesOne before id after =
    (x : ObjectId)
    → may_come after.known.nodes (times_queued after) (id_of x) + times_in (id ∷ []) (id_of x)
    ≤ may_come before.known.nodes (times_queued before) (id_of x)

-- what is left of a walk, of the ids of its rows and these: each once if it isn't met, and as often
-- as it is queued or waits. An id that is a row's and one of these as well counts twice
abbrev pub left_of : {F P : Type 0} → List Id → Simple F P → ℕ
left_of ids walk =
    sum_by (may_come walk.known.nodes (times_queued walk))
    (known_ids (rows_of walk.source.rows) ids)

-- ---- what it is to list

-- the walk has begun, along the same parents, in the same order and with the same hidden commits
pub record StaysAsked {F P : Type 0} (before after : Simple F P) : Type 0 where
  pub begun : after.begun ≡ true
  pub parents : after.parents ≡ before.parents
  pub sorting : after.sorting ≡ before.sorting
  pub hidden : after.hidden.items ≡ before.hidden.items

-- the same objects and rows are read, and the predicate wasn't called
pub record KeepsStore {F P : Type 0} (before after : Simple F P) : Type 0 where
  pub objects : objects_of after ≡ objects_of before
  pub rows : graph_of after ≡ graph_of before
  pub unasked : predicate_of after ≡ predicate_of before

-- the same objects and rows are read, and the commit that was given last is the same
pub record KeepsReading {F P : Type 0} (before after : Simple F P) : Type 0 where
  pub objects : objects_of after ≡ objects_of before
  pub rows : graph_of after ≡ graph_of before
  pub content : content_of after ≡ content_of before

-- commits are read from these objects alone, and none was looked up
pub record ReadsFrom {F P : Type 0} (find : F) (walk : Simple F P) : Type 0 where
  pub objects : objects_of walk ≡ find
  pub rows : graph_of walk ≡ None
  pub lookups : lookups_of walk ≡ 0
  pub content : content_of walk ≡ []

-- a walk that has not begun, from these tips
pub record IsNew {F P : Type 0} (accepts : P → Id → Bool) (a : Asked)
    (walk : Simple F P) : Type 0 where
  pub begun : walk.begun ≡ false
  pub tips : walk.tips.items ≡ a.tips
  pub hidden : walk.hidden.items ≡ a.hidden
  pub parents : walk.parents ≡ a.parents
  pub sorting : walk.sorting ≡ a.sorting
  pub accepts_as : AcceptsAs (accepts walk.predicate) walk.known.nodes a
  pub asked : AreRefused a.accepts a.tips walk.known.nodes
  pub empty : walk.known.queue ≡ []
  pub none_waits : turns_of walk.known ≡ []

-- a walk that begins anew, from what is queued: it goes to no other commit that was met before
pub record IsTurned {F P : Type 0} (accepts : P → Id → Bool) (a : Asked)
    (walk : Simple F P) : Type 0 where
  pub begun : walk.begun ≡ false
  pub no_tips : walk.tips.items ≡ []
  pub queued : queued_in walk ≡ a.tips
  pub goes_on : (walk.known.queue ≡ []) → (turns_of walk.known ≡ []) → ⊥
  pub hidden : walk.hidden.items ≡ a.hidden
  pub parents : walk.parents ≡ a.parents
  pub sorting : walk.sorting ≡ a.sorting
  pub accepts_as : AcceptsAs (accepts walk.predicate) walk.known.nodes a
  pub accepted : (x : ObjectId) → Contains a.tips x → a.accepts (id_of x) ≡ true
  pub refused : (x : ObjectId) → is_met walk.known.nodes x ≡ true → (¬ Contains a.tips x)
      → a.accepts (id_of x) ≡ false

-- a walk that is to list this, and has not begun, or begins anew
abbrev pub IsMade : {F P : Type 0} → (P → Id → Bool) → Asked → Simple F P → Type 0
IsMade accepts a walk = IsNew accepts a walk ⊎ IsTurned accepts a walk

-- what was queued are its tips now, and met is what was, or is among them
pub record IsGathered {F P : Type 0} (accepts : P → Id → Bool) (a : Asked)
    (before after : Simple F P) : Type 0 where
  pub new : IsNew accepts a after
  pub met : (x : ObjectId) → (HasMet after x ⊎ Contains a.tips x)
      ↔ (HasMet before x ⊎ Contains a.tips x)

-- a walk that is to list this, with its hidden commits painted
pub record IsPaintedFor {F P : Type 0} (accepts : P → Id → Bool) (g : Commits ObjectId)
    (a : Asked) (walk : Simple F P) : Type 0 where
  pub tips : walk.tips.items ≡ a.tips
  pub hidden : walk.hidden.items ≡ a.hidden
  pub parents : walk.parents ≡ a.parents
  pub sorting : walk.sorting ≡ a.sorting
  pub accepts_as : AcceptsAs (accepts walk.predicate) walk.known.nodes a
  pub refused : (x : ObjectId) → is_met walk.known.nodes x ≡ true → a.accepts (id_of x) ≡ false
  pub accepted : (x : ObjectId) → Contains a.tips x → is_met walk.known.nodes x ≡ false
      → a.accepts (id_of x) ≡ true
  pub painted : (x : ObjectId) → (is_hidden walk.known.nodes x ≡ true) ↔ ReachedFrom g a.hidden x
  pub empty : walk.known.queue ≡ []
  pub none_waits : turns_of walk.known ≡ []

-- a walk that has begun and given this list, of commits that have a row or are among these ids: the
-- list with its queue has all that the list's parents name
pub record IsGoing {F P : Type 0} (accepts : P → Id → Bool) (ids : List Id) (g : Commits ObjectId)
    (a : Asked) (listed : List ObjectId) (walk : Simple F P) : Type 0 where
  pub begun : walk.begun ≡ true
  pub hidden_same : walk.hidden.items ≡ a.hidden
  pub parents : walk.parents ≡ a.parents
  pub sorting : walk.sorting ≡ a.sorting
  pub in_breadth : timing a ≡ None
  pub none_waits : turns_of walk.known ≡ []
  pub accepts_as : AcceptsAs (accepts walk.predicate) walk.known.nodes a
  pub hides : ObjectId → Bool
  pub hidden : (x : ObjectId) → is_hidden walk.known.nodes x ≡ hides x
  pub painted : (x : ObjectId) → (hides x ≡ true) ↔ ReachedFrom g a.hidden x
  pub known : (x : ObjectId) → Contains listed x → IsKnown (rows_of walk.source.rows) ids x
  pub walked : KeptAll (asked_parents a.parents g) a.tips (keep_of hides a.accepts)
      (is_met walk.known.nodes) (listed ++ walk.known.queue) (length listed)

-- the same of a walk by time: of what the list names, the commits that are kept are listed or wait
pub record IsGoingByTime {F P : Type 0} (accepts : P → Id → Bool) (ids : List Id)
    (g : Commits ObjectId) (a : Asked) (listed : List ObjectId) (walk : Simple F P) : Type 0 where
  pub begun : walk.begun ≡ true
  pub hidden_same : walk.hidden.items ≡ a.hidden
  pub parents : walk.parents ≡ a.parents
  pub sorting : walk.sorting ≡ a.sorting
  pub by_time : Timing
  pub is_by_time : timing a ≡ Some by_time
  pub empty : walk.known.queue ≡ []
  pub accepts_as : AcceptsAs (accepts walk.predicate) walk.known.nodes a
  pub hides : ObjectId → Bool
  pub hidden : (x : ObjectId) → is_hidden walk.known.nodes x ≡ hides x
  pub painted : (x : ObjectId) → (hides x ≡ true) ↔ ReachedFrom g a.hidden x
  pub known : (x : ObjectId) → Contains listed x → IsKnown (rows_of walk.source.rows) ids x
  pub met : IsMetSoFar g (keep_since by_time.since g hides a.accepts) (is_met walk.known.nodes)
      (IsOpen (asked_parents a.parents g) a.tips listed) listed (turns_of walk.known)
  pub chosen : IsChosenSoFar (asked_parents a.parents g) a.tips
      (keep_since by_time.since g hides a.accepts)
      (ComesFirst by_time.order (λ x. (g x).time)) listed

-- a walk that has begun and given this list
abbrev pub IsUnderWay : {F P : Type 0} → (P → Id → Bool) → List Id → Commits ObjectId → Asked
    → List ObjectId → Simple F P → Type 0
IsUnderWay accepts ids g a listed walk =
    IsGoing accepts ids g a listed walk ⊎ IsGoingByTime accepts ids g a listed walk

-- a walk that is to list this and has given this list
abbrev pub Stands : {F P : Type 0} → (P → Id → Bool) → List Id → Commits ObjectId → Asked
    → List ObjectId → Simple F P → Type 0
Stands accepts ids g a listed walk =
    ((listed ≡ []) × IsMade accepts a walk) ⊎ IsUnderWay accepts ids g a listed walk

-- it gives nothing more
pub record IsOver {F P : Type 0} (walk : Simple F P) : Type 0 where
  pub begun : walk.begun ≡ true
  pub empty : walk.known.queue ≡ []
  pub none_waits : turns_of walk.known ≡ []

-- what is left of the walk is asked for anew: the predicate wasn't called, no commit may come more
-- often, and a walk that is over stays over
pub record IsAskedAnew {F P : Type 0} (before after : Simple F P) : Type 0 where
  pub unasked : predicate_of after ≡ predicate_of before
  pub kind : kind_of after ≡ kind_of before
  pub gains : GainsNone before after
  pub over : IsOver before → IsOver after

-- it gives nothing more, as a test
abbrev pub is_over : {F P : Type 0} → Simple F P → Bool
is_over walk = walk.begun && (is_empty walk.known.queue && is_empty (turns_of walk.known))

-- how many items may still come, of the ids of its rows and these: none if it is over, and
-- otherwise the commits that are left and an error
abbrev pub answers_left : {F P : Type 0} → List Id → Simple F P → ℕ
answers_left ids walk = if is_over walk then 0 else left_of ids walk + 1

-- what is left of a walk that is to list this: from what is queued, in its order, past no other
-- commit that was met
pub record IsRest {F P : Type 0} (a rest : Asked) (walk : Simple F P) : Type 0 where
  pub tips : rest.tips ≡ queued_in walk
  pub hidden : rest.hidden ≡ a.hidden
  pub parents : rest.parents ≡ a.parents
  pub sorting : rest.sorting ≡ a.sorting
  pub accepts : (x : ObjectId)
      → (rest.accepts (id_of x) ≡ true)
      ↔ ((a.accepts (id_of x) ≡ true) × (Contains rest.tips x ⊎ (¬ HasMet walk x)))

-- a walk that has begun and isn't over, of which this is left
pub record IsUnderWayTo {F P : Type 0} (accepts : P → Id → Bool) (rest : Asked)
    (walk : Simple F P) : Type 0 where
  pub ids : List Id
  pub g : Commits ObjectId
  pub a : Asked
  pub listed : List ObjectId
  pub under_way : IsUnderWay accepts ids g a listed walk
  pub goes_on : ¬ IsOver walk
  pub left : IsRest a rest walk

-- this is what a walk has before it: it is to list it, or it is left of one that has begun
abbrev pub HasAhead : {F P : Type 0} → (P → Id → Bool) → Asked → Simple F P → Type 0
HasAhead accepts a walk = IsMade accepts a walk ⊎ IsUnderWayTo accepts a walk

-- it comes to the parents of this commit, which it gives next
pub record Enters {F P : Type 0} (accepts : P → Id → Bool) (ids : List Id) (g : Commits ObjectId)
    (a : Asked) (listed : List ObjectId) (id : ObjectId) (walk : Simple F P) : Type 0 where
  pub begun : walk.begun ≡ true
  pub hidden_same : walk.hidden.items ≡ a.hidden
  pub parents : walk.parents ≡ a.parents
  pub sorting : walk.sorting ≡ a.sorting
  pub in_breadth : timing a ≡ None
  pub none_waits : turns_of walk.known ≡ []
  pub accepts_as : AcceptsAs (accepts walk.predicate) walk.known.nodes a
  pub hides : ObjectId → Bool
  pub hidden : (x : ObjectId) → is_hidden walk.known.nodes x ≡ hides x
  pub painted : (x : ObjectId) → (hides x ≡ true) ↔ ReachedFrom g a.hidden x
  pub known : (x : ObjectId) → Contains listed x → IsKnown (rows_of walk.source.rows) ids x
  pub walked : Kept (asked_parents a.parents g) a.tips (keep_of hides a.accepts)
      (is_met walk.known.nodes) ((listed ++ id ∷ []) ++ walk.known.queue)
      (length (listed ++ id ∷ [])) 0
  pub reads : Reads ((listed ++ id ∷ []) ++ walk.known.queue) (length (listed ++ id ∷ [])) id

-- the same in a walk by time
pub record EntersByTime {F P : Type 0} (accepts : P → Id → Bool) (ids : List Id)
    (g : Commits ObjectId) (a : Asked) (listed : List ObjectId) (id : ObjectId)
    (walk : Simple F P) : Type 0 where
  pub begun : walk.begun ≡ true
  pub hidden_same : walk.hidden.items ≡ a.hidden
  pub parents : walk.parents ≡ a.parents
  pub sorting : walk.sorting ≡ a.sorting
  pub by_time : Timing
  pub is_by_time : timing a ≡ Some by_time
  pub empty : walk.known.queue ≡ []
  pub accepts_as : AcceptsAs (accepts walk.predicate) walk.known.nodes a
  pub hides : ObjectId → Bool
  pub hidden : (x : ObjectId) → is_hidden walk.known.nodes x ≡ hides x
  pub painted : (x : ObjectId) → (hides x ≡ true) ↔ ReachedFrom g a.hidden x
  pub known : (x : ObjectId) → Contains listed x → IsKnown (rows_of walk.source.rows) ids x
  pub met : IsMetSoFar g (keep_since by_time.since g hides a.accepts) (is_met walk.known.nodes)
      (IsOpen (asked_parents a.parents g) a.tips listed) (listed ++ id ∷ []) (turns_of walk.known)
  pub chosen : IsChosenSoFar (asked_parents a.parents g) a.tips
      (keep_since by_time.since g hides a.accepts) (ComesFirst by_time.order (λ x. (g x).time))
      (listed ++ id ∷ [])

-- it gives this commit next
abbrev pub IsAtTurn : {F P : Type 0} → (P → Id → Bool) → List Id → Commits ObjectId → Asked
    → List ObjectId → ObjectId → Simple F P → Type 0
IsAtTurn accepts ids g a listed id walk =
    Enters accepts ids g a listed id walk ⊎ EntersByTime accepts ids g a listed id walk
