-- What a walk gives next, and why it ends early.
use Rattle.std.specs.Prelude.{◌≡◌, ◌⊎◌, ◌<◌, ◌≤◌, ◌+◌, ℕ, IfOk, IfErr, IfSome, IfNone, IsNone, OnErr, Bool, true, false, List, [], ◌∷◌, ◌++◌, length, Option, None, IsSome, Result, Contains, take, OnOk}
use Rattle.gix_hash.specs.Id.{Id, id_of}
use Rattle.gix_hash.specs.declared.object_id.ObjectId.{ObjectId}
use Rattle.gix_object_lookup.specs.Existing as object
use Rattle.gix_object_lookup.specs.Table.{Table}
use Rattle.gix_object_lines.specs.declared.kind.Kind.TheVariants as kinds
use Rattle.gix_traverse_graph.specs.Commits.{Commits, asked_parents}
use Rattle.gix_object_lines.specs.Counts.{one_more}
use Rattle.gix_traverse_commit_known.specs.Fetching.{TimeIsTold, HasRowsGeneration}
use Rattle.gix_traverse_commit_known.specs.Known.{KnownCommits, turns_of}
use Rattle.gix_traverse_commit_known.specs.Ending.{times_in}
use Rattle.gix_traverse_commit_known.specs.Meeting.{Asks, CountsAll, CountsOne, CountsTimes, CountsTips, IsFresh, MarksAll, MarksMet, accepted, unmet}
use Rattle.gix_traverse_commit_known.specs.Nodes.{is_met, Node}
use Rattle.gix_traverse_commit_known.specs.Painting.{Paints, PaintsSome, ReachedFrom, StaysPainted}
use Rattle.gix_traverse_commit_known.specs.Queueing.{QueuesSome}
use Rattle.gix_traverse_graph.specs.Rows.{AllHeld, Holds}
use Rattle.gix_traverse_commit_known.specs.Told.{AreTold, rows_of}
use Rattle.gix_traverse_graph.specs.Order.{IsListOf}
use Rattle.gix_traverse_graph.specs.Sorting.{timing_of, IsByTime, IsTime}
use Rattle.gix_traverse_commit_known.specs.Timely.{AllRowed, LetsWaitIn, TakesTurn}
use Rattle.gix_traverse_graph.specs.declared.info.Info.{Info}
use Rattle.gix_traverse_graph.specs.declared.parents.Parents.{Parents}
use Rattle.gix_traverse_graph.specs.declared.parents.Parents.TheVariants.{All}
use Rattle.gix_traverse_graph.specs.declared.rows.Row.{Row}
use Rattle.gix_traverse_commit_known.specs.declared.faults.Error.{Error}
use Rattle.gix_traverse_commit_known.specs.declared.faults.Error.TheVariants as fault
use Rattle.gix_traverse_commit.specs.declared.simple.Simple.{Simple}
use Rattle.gix_traverse_graph.specs.declared.sorting.Sorting.{Sorting}
use Rattle.gix_traverse_graph.specs.declared.sorting.Timing.{Timing}
use Rattle.gix_traverse_commit_known.specs.declared.waiting.Turn.{Turn}
use Rattle.gix_traverse_commit.specs.Simply.{GainsNone, StaysAsked, TakesOne, left_of, IsAtTurn, IsMade, IsUnderWay, Stands, IsOver, content_of, graph_of, kind_of, lookups_of, times_queued}
use Rattle.gix_traverse_commit_known.specs.Asked.{Asked, timing, Answers, IsKnown, IsSure, IsTurn}
use Rattle.gix_traverse_commit_known.specs.Faults.{SimpleFault, StopsFetch}

-- what is given of a commit
pub record IsInfo (g : Commits ObjectId) (rows : List Row) (parents : Parents) (sorting : Sorting)
    (info : Info) : Type 0 where
  pub parents_asked : info.parent_ids.items ≡ asked_parents parents g info.id
  pub by_row : HasRowsGeneration rows info.id info.generation
  pub timed : IsTime (timing_of parents sorting) (g info.id) info.commit_time

-- the commit isn't met
abbrev pub IsUnmet : List Node → ObjectId → Type 0
IsUnmet nodes x = is_met nodes x ≡ false

-- the times of the tips before this place are known
abbrev pub IsReadBefore : Type 0 → List Row → Table → List Node → List ObjectId → ℕ → Type 0
IsReadBefore honest rows table nodes tips place =
    honest → (x : ObjectId) → Contains (take place tips) x → IsUnmet nodes x
    → TimeIsTold rows table x

-- the predicate accepts the commit
abbrev pub IsAccepted : Asked → ObjectId → Type 0
IsAccepted a x = a.accepts (id_of x) ≡ true

-- it is to list this in another order; for an order by time the times of the tips that are accepted
-- were read, in their order
pub record IsSorted {F P : Type 0} (accepts : P → Id → Bool) (honest : Type 0) (table : Table)
    (sorting : Sorting) (a : Asked) (before after : Simple F P) : Type 0 where
  pub made : IsMade accepts (record a { sorting = sorting }) after
  pub most : lookups_of after ≤ lookups_of before + length a.tips
  pub each : CountsTimes (timing_of All sorting) (rows_of (graph_of before))
      (accepted a.accepts a.tips) (lookups_of before) (lookups_of after)
  pub rowed : AllHeld (rows_of (graph_of before)) a.tips → lookups_of after ≡ lookups_of before
  pub told : honest → IsByTime sorting → (x : ObjectId) → Contains a.tips x → IsAccepted a x
      → TimeIsTold (rows_of (graph_of before)) table x

-- for an order by time the times of the tips that are not met were read, in their order
pub record ReadsTips {F P : Type 0} (honest : Type 0) (table : Table) (sorting : Sorting)
    (before after : Simple F P) : Type 0 where
  pub content : content_of after ≡ content_of before
  pub each : CountsTimes (timing_of All sorting) (rows_of (graph_of before))
      (unmet before.known.nodes before.tips.items) (lookups_of before) (lookups_of after)
  pub told : honest → IsByTime sorting → (x : ObjectId) → Contains before.tips.items x
      → IsUnmet before.known.nodes x → TimeIsTold (rows_of (graph_of before)) table x

-- a tip that the predicate accepts and no hidden commit reaches
abbrev pub IsWanted : Commits ObjectId → Asked → ObjectId → Type 0
IsWanted g a x = Contains a.tips x × IsAccepted a x × (¬ ReachedFrom g a.hidden x)

-- all that the walk begins from, hides and has queued has rows
pub record InRows {F P : Type 0} (walk : Simple F P) : Type 0 where
  pub tips : AllHeld (rows_of walk.source.rows) walk.tips.items
  pub hidden : AllHeld (rows_of walk.source.rows) walk.hidden.items
  pub queue : AllHeld (rows_of walk.source.rows) walk.known.queue
  pub waiting_rows : AllRowed (rows_of walk.source.rows) (turns_of walk.known)

-- the content is the commit's if it was read from its object, and otherwise empty
pub record IsContentOf (honest : Type 0) (rows : List Row) (table : Table) (id : ObjectId)
    (content : List ℕ) : Type 0 where
  pub rowed : Holds rows id → content ≡ []
  pub stored : honest → ¬ Holds rows id → object.Stands table (id_of id) kinds.Commit content

-- a walk begins: all that is hidden was looked up, each commit once, and by time the tips that are
-- accepted and not hidden, each once, for their times
pub record CountsBeginning (honest : Type 0) (rows : List Row) (table : Table) (a : Asked)
    (before after : ℕ) : Type 0 where
  pub painted : List ObjectId
  pub behind : ℕ
  pub each : CountsAll rows painted before behind
  pub is_list : honest → (g : Commits ObjectId) → AreTold rows table g
      → IsListOf (ReachedFrom g a.hidden) painted
  pub in_breadth : timing a ≡ None → after ≡ behind
  pub least : behind ≤ after
  pub most : after ≤ behind + length a.tips
  pub timed : List ObjectId
  pub times : CountsTimes (timing a) rows timed behind after
  pub are_timed : IsSome (timing a) → honest → (g : Commits ObjectId) → AreTold rows table g
      → IsListOf (λ x. Contains a.tips x × IsAccepted a x × (¬ ReachedFrom g a.hidden x)) timed

-- at least one was looked up if the commit has no row, and up to so many more; none if it has one
pub record CountsUpTo (rows : List Row) (id : ObjectId) (more before after : ℕ) : Type 0 where
  pub stored : (¬ Holds rows id) → one_more before ≤ after
  pub rowed : Holds rows id → after ≡ before
  pub most : after ≤ before + 1 + more

-- a commit comes: it is looked up once, and its parents are met that were not met before and are
-- not hidden; the predicate is called for each of them once, and for no other commit, and by time
-- those that it accepts are looked up, for their times
pub record MeetsParents {P : Type 0} (accepts : P → Id → Bool) (goes : P → Id → P → Type 0)
    (rows : List Row) (nodes : List Node) (t : Option Timing) (info : Info) (before : P)
    (lookups : ℕ) (after : P) (lookups' : ℕ) : Type 0 where
  pub met : List ObjectId
  pub are_met : IsListOf (IsFresh nodes info.parent_ids.items) met
  pub asked : Asks goes met before after
  pub read : ℕ
  pub one : CountsOne rows info.id lookups read
  pub times : CountsTimes t rows (accepted (accepts before) met) read lookups'

-- a walk gives this commit so
abbrev pub Meets : {F P : Type 0} → (P → Id → Bool) → (P → Id → P → Type 0) → List Row
    → Simple F P → Info → Simple F P → Type 0
Meets accepts goes rows before info after =
    MeetsParents accepts goes rows before.known.nodes
    (timing_of before.parents before.sorting) info before.predicate before.source.lookups
    after.predicate after.source.lookups

-- one of these parents that is met with its child, and that the predicate accepts
abbrev pub IsMetWith : {F P : Type 0} → (P → Id → Bool) → Simple F P → List ObjectId → ObjectId
    → Type 0
IsMetWith accepts before parents x =
    IsFresh before.known.nodes parents x × (accepts before.predicate (id_of x) ≡ true)

-- by time those that are met with it wait now, and in breadth order none does
abbrev pub LetsMetWait : {F P : Type 0} → (P → Id → Bool) → Type 0 → Commits ObjectId → Simple F P
    → List ObjectId → Simple F P → Type 0
LetsMetWait accepts may_fail g before parents after =
    LetsWaitIn (timing_of before.parents before.sorting) may_fail g
    (IsMetWith accepts before parents) (turns_of before.known) (turns_of after.known)

-- one object was looked up if a commit isn't read; if memory is wanting, none that was counted is
-- lost
abbrev pub CountsFault : ℕ → ℕ → Error → Type 0
CountsFault before after (fault.Find error) = after ≡ one_more before
CountsFault before after (fault.ObjectDecode error) = after ≡ one_more before
CountsFault before after (fault.HiddenGraph error) = ⊥
CountsFault before after fault.Memory = before ≤ after

-- the walk is over the same objects and goes on as it was asked to: what it gave is as it was, no
-- commit may come more often, and nothing that has rows is looked up
pub record KeepsOn {F P : Type 0} (before after : Simple F P) : Type 0 where
  pub stays : StaysAsked before after
  pub gains : GainsNone before after
  pub content : content_of after ≡ content_of before
  pub kind : kind_of after ≡ kind_of before
  pub rowed : InRows before → InRows after × (lookups_of after ≡ lookups_of before)

-- the tips are met, and those that are fresh are queued, or wait, after a lookup for their times
pub record LinesUp {F P : Type 0} (before after : Simple F P) : Type 0 where
  pub begun : after.begun ≡ true
  pub painted : StaysPainted before.known.nodes after.known.nodes
  pub met : MarksAll before.known.nodes before.tips.items after.known.nodes
  pub timed : CountsTips (timing_of before.parents before.sorting)
      (IsFresh before.known.nodes before.tips.items) (rows_of before.source.rows)
      before.source.lookups after.source.lookups
  pub gains : GainsNone before after
  pub rowed : InRows before → InRows after × (lookups_of after ≡ lookups_of before)

-- this commit is taken, whose turn it is, and no other
pub record Takes {F P : Type 0} (accepts : P → Id → Bool) (before : Simple F P) (id : ObjectId)
    (after : Simple F P) : Type 0 where
  pub nodes : after.known.nodes ≡ before.known.nodes
  pub waiting : TakesTurn (timing_of before.parents before.sorting) (turns_of before.known) id
      (turns_of after.known)
  pub queueing : IsSome (timing_of before.parents before.sorting)
      → after.known.order ≡ before.known.order
  pub less : (x : Id) → times_queued before x ≡ times_in (id ∷ []) x + times_queued after x
  pub rowed : InRows before → InRows after × Holds (rows_of before.source.rows) id
  pub turn : (ids : List Id) (g : Commits ObjectId) (a : Asked) (listed : List ObjectId)
      → IsUnderWay accepts ids g a listed before
      → IsAtTurn accepts ids g a listed id after × IsTurn g a listed id

-- nothing is left to take: all that the walk is to list was given
pub record HasEnded {F P : Type 0} (accepts : P → Id → Bool) (walk : Simple F P) : Type 0 where
  pub none_waits : IsSome (timing_of walk.parents walk.sorting) → turns_of walk.known ≡ []
  pub end : (ids : List Id) (g : Commits ObjectId) (a : Asked) (listed : List ObjectId)
      → IsUnderWay accepts ids g a listed walk → Answers g a listed

-- of these parents those that are fresh are met: the predicate is called for each once, and by time
-- those that it accepts are looked up, for their times
pub record MeetsAll {F P : Type 0} (accepts : P → Id → Bool) (goes : P → Id → P → Type 0)
    (before : Simple F P) (parents : List ObjectId) (after : Simple F P) : Type 0 where
  pub met : List ObjectId
  pub are_met : IsListOf (IsFresh before.known.nodes parents) met
  pub asked : Asks goes met before.predicate after.predicate
  pub times : CountsTimes (timing_of before.parents before.sorting) (rows_of before.source.rows)
      (accepted (accepts before.predicate) met) before.source.lookups after.source.lookups
  pub flags : MarksMet before.known.nodes parents after.known.nodes
  pub painted : StaysPainted before.known.nodes after.known.nodes
  pub behind : IsSome (timing_of before.parents before.sorting)
      → QueuesSome before.known parents after.known
  pub gains : GainsNone before after
  pub rowed : InRows before → AllHeld (rows_of before.source.rows) parents → InRows after
  pub still : AllHeld (rows_of before.source.rows) parents
      → lookups_of after ≡ lookups_of before

-- this commit comes: what was read and looked up for it, and which parents were met
pub record Comes {F P : Type 0} (accepts : P → Id → Bool) (goes : P → Id → P → Type 0)
    (honest : Type 0) (table : Table) (ids : List Id) (before : Simple F P) (id : ObjectId)
    (info : Info) (after : Simple F P) : Type 0 where
  pub same : info.id ≡ id
  pub known : IsKnown (rows_of before.source.rows) ids id
  pub content : IsContentOf honest (rows_of before.source.rows) table id
      after.source.buffer.items
  pub kind : after.kind ≡ (id_of id).kind
  pub in_breadth : timing_of before.parents before.sorting ≡ None
      → lookups_of after ≤ lookups_of before + 1
  pub one : timing_of before.parents before.sorting ≡ None
      → CountsOne (rows_of before.source.rows) id before.source.lookups after.source.lookups
  pub counted : CountsUpTo (rows_of before.source.rows) id (length info.parent_ids.items)
      before.source.lookups after.source.lookups
  pub meets : Meets accepts goes (rows_of before.source.rows) before info after
  pub flags : MarksMet before.known.nodes info.parent_ids.items after.known.nodes
  pub painted : StaysPainted before.known.nodes after.known.nodes
  pub behind : IsSome (timing_of before.parents before.sorting)
      → QueuesSome before.known info.parent_ids.items after.known
  pub gains : GainsNone before after
  pub rowed : InRows before → Holds (rows_of before.source.rows) id
      → InRows after × (lookups_of after ≡ lookups_of before)
  pub stays : before.begun ≡ true → StaysAsked before after

-- this commit isn't given, for this cause
pub record FailsToCome {F P : Type 0} (honest may_fail : Type 0) (table : Table)
    (before : Simple F P) (id : ObjectId) (error : Error) (after : Simple F P) : Type 0 where
  pub cause : StopsFetch before.parents honest may_fail (rows_of before.source.rows) table id error
  pub counts : CountsFault before.source.lookups after.source.lookups error
  pub in_breadth : timing_of before.parents before.sorting ≡ None
      → lookups_of after ≤ lookups_of before + 1
  pub unasked : (error ≡ fault.Memory) ⊎ (after.predicate ≡ before.predicate)

-- by time a commit comes whose turn it is, and its parents that are met with it and accepted wait
-- then, also those whose lookups fail; no other that waits is lost
pub record ComesInTurn {F P : Type 0} (accepts : P → Id → Bool) (may_fail : Type 0)
    (g : Commits ObjectId) (before : Simple F P) (info : Info) (after : Simple F P) : Type 0 where
  pub others : List Turn
  pub taken : TakesTurn (timing_of before.parents before.sorting)
      (turns_of before.known) info.id others
  pub parents : LetsWaitIn (timing_of before.parents before.sorting) may_fail g
      (IsMetWith accepts before info.parent_ids.items) others (turns_of after.known)

-- by time what waits stays queued in its order, and parents that begin to wait are queued after it,
-- in their order
pub record KeepsOrder {F P : Type 0} (before : Simple F P) (info : Info)
    (after : Simple F P) : Type 0 where
  pub between : KnownCommits
  pub nodes : between.nodes ≡ before.known.nodes
  pub order : between.order ≡ before.known.order
  pub taken : TakesTurn (timing_of before.parents before.sorting)
      (turns_of before.known) info.id (turns_of between)
  pub behind : QueuesSome between info.parent_ids.items after.known

-- by time it is the turn of a commit that isn't read, for this cause
pub record FailsInTurn {F P : Type 0} (honest may_fail : Type 0) (rows : List Row) (table : Table)
    (before : Simple F P) (error : Error) : Type 0 where
  pub id : ObjectId
  pub others : List Turn
  pub taken : TakesTurn (timing_of before.parents before.sorting) (turns_of before.known) id others
  pub cause : StopsFetch before.parents honest may_fail rows table id error

-- the walk has begun, and the predicate wasn't called for that
pub record Begins {F P : Type 0} (accepts : P → Id → Bool) (honest may_fail : Type 0)
    (table : Table) (ids : List Id) (a : Asked) (before begun : Simple F P) : Type 0 where
  pub under_way : honest → (g : Commits ObjectId) → AreTold (rows_of before.source.rows) table g
      → IsSure may_fail a → IsUnderWay accepts ids g a [] begun
  pub unasked : begun.predicate ≡ before.predicate
  pub beginning : CountsBeginning honest
      (rows_of before.source.rows) table a before.source.lookups begun.source.lookups
  pub order : timing_of begun.parents begun.sorting ≡ timing a
  pub tips_wait : honest → (g : Commits ObjectId) → AreTold (rows_of before.source.rows) table g
      → LetsWaitIn (timing a) may_fail g (IsWanted g a) [] (turns_of begun.known)
  pub stays : StaysAsked before begun
  pub painted : honest → (g : Commits ObjectId) → AreTold (rows_of before.source.rows) table g
      → Paints g a.hidden begun.known.nodes
  pub met : MarksAll before.known.nodes a.tips begun.known.nodes
  pub gains : GainsNone before begun

-- the walk begins, and the first commit comes
pub record CountsFirst {F P : Type 0} (accepts : P → Id → Bool) (goes : P → Id → P → Type 0)
    (honest may_fail : Type 0) (table : Table) (ids : List Id) (a : Asked) (before : Simple F P)
    (info : Info) (after : Simple F P) : Type 0 where
  pub begun : Simple F P
  pub begins : Begins accepts honest may_fail table ids a before begun
  pub meets : Meets accepts goes (rows_of before.source.rows) begun info after
  pub one : timing a ≡ None
      → CountsOne (rows_of before.source.rows) info.id begun.source.lookups after.source.lookups
  pub more : CountsUpTo (rows_of before.source.rows) info.id
      (length info.parent_ids.items) begun.source.lookups after.source.lookups
  pub in_turn : honest → (g : Commits ObjectId) → AreTold (rows_of before.source.rows) table g
      → ComesInTurn accepts may_fail g begun info after
  pub queues : IsSome (timing a) → KeepsOrder begun info after
  pub flags : MarksMet begun.known.nodes info.parent_ids.items after.known.nodes
  pub paint_stays : StaysPainted begun.known.nodes after.known.nodes

-- the walk begins, and by time it is the turn of a commit that isn't read, for this cause
pub record FailsBegun {F P : Type 0} (accepts : P → Id → Bool) (honest may_fail : Type 0)
    (table : Table) (ids : List Id) (a : Asked) (before : Simple F P) (error : Error)
    (after : Simple F P) : Type 0 where
  pub begun : Simple F P
  pub begins : Begins accepts honest may_fail table ids a before begun
  pub fails : FailsInTurn honest may_fail (rows_of before.source.rows) table begun error
  pub counts : CountsFault begun.source.lookups after.source.lookups error

-- one object was looked up if a commit that the hidden ones reach isn't read; if memory is wanting,
-- none that was counted is lost
abbrev pub CountsHiddenFault : ℕ → ℕ → Error → Type 0
CountsHiddenFault before after (fault.Find error) = ⊥
CountsHiddenFault before after (fault.ObjectDecode error) = ⊥
CountsHiddenFault before after (fault.HiddenGraph error) = after ≡ one_more before
CountsHiddenFault before after fault.Memory = before ≤ after

-- a walk doesn't begin: some of what is hidden was looked up, each commit once, and then the one
-- that isn't read
abbrev pub CountsUnbegun : Type 0 → List Row → Table → List ObjectId → ℕ → ℕ → Error → Type 0
CountsUnbegun honest rows table hidden before after error =
    (behind : ℕ) × PaintsSome honest rows table hidden before behind
    × CountsHiddenFault behind after error

-- the walk doesn't begin, for this cause: a commit that the hidden ones reach isn't read
pub record FailsUnbegun {F P : Type 0} (honest may_fail : Type 0) (table : Table) (a : Asked)
    (before : Simple F P) (error : Error) (after : Simple F P) : Type 0 where
  pub cause : SimpleFault (λ _. ⊥) a.parents honest may_fail (rows_of before.source.rows) table
      a.hidden error
  pub counts : CountsUnbegun honest (rows_of before.source.rows) table a.hidden
      before.source.lookups after.source.lookups error

-- why the first call gives no commit: one that the hidden commits reach isn't read, or the one
-- whose turn it is
abbrev pub FailsFirst : {F P : Type 0} → (P → Id → Bool) → Type 0 → Type 0 → Table → List Id → Asked
    → Simple F P → Error → Simple F P → Type 0
FailsFirst accepts honest may_fail table ids a before error after =
    FailsUnbegun honest may_fail table a before error after
    ⊎ FailsBegun accepts honest may_fail table ids a before error after

-- what the next commit is, after this list
pub record IsNext {F P : Type 0} (accepts : P → Id → Bool) (ids : List Id) (g : Commits ObjectId)
    (a : Asked) (listed : List ObjectId) (rows : List Row) (info : Info)
    (after : Simple F P) : Type 0 where
  pub told : IsInfo g rows a.parents a.sorting info
  pub fewer : length listed < length rows + length ids
  pub stands : IsUnderWay accepts ids g a (listed ++ info.id ∷ []) after

-- what a walk gives as its next commit, over a store that is honest, may fail, has this table and
-- finds none but these ids
pub record GivesNext {F P : Type 0} (accepts : P → Id → Bool) (goes : P → Id → P → Type 0)
    (honest may_fail : Type 0) (table : Table) (ids : List Id) (before : Simple F P)
    (item : Option (Result Info Error)) (after : Simple F P) : Type 0 where
  pub objects : after.source.objects ≡ before.source.objects
  pub rows : after.source.rows ≡ before.source.rows
  pub given : honest → (g : Commits ObjectId) → AreTold (rows_of before.source.rows) table g
      → (a : Asked) (listed : List ObjectId) → IsSure may_fail a
      → Stands accepts ids g a listed before
      → IfSome item
      (λ answer. IfOk answer
      (λ info. IsNext accepts ids g a listed (rows_of before.source.rows) info after))
  pub end : honest → (g : Commits ObjectId) → AreTold (rows_of before.source.rows) table g
      → (a : Asked) (listed : List ObjectId) → IsSure may_fail a
      → Stands accepts ids g a listed before
      → IfNone item (Answers g a listed)
  pub refused : honest → (g : Commits ObjectId) → AreTold (rows_of before.source.rows) table g
      → (a : Asked) (listed : List ObjectId) → IsSure may_fail a
      → Stands accepts ids g a listed before
      → IfSome item
      (λ answer. IfErr answer
      (SimpleFault (IsTurn g a listed) a.parents honest may_fail
      (rows_of before.source.rows) table a.hidden))
  pub failed : IfSome item (λ answer. OnErr answer (IsOver after))
  pub ended : IsOver before → IsNone item
  pub content : IfSome item
      (λ answer. IfOk answer
      (λ info. IsContentOf honest
      (rows_of before.source.rows) table info.id after.source.buffer.items
      × (after.kind ≡ (id_of info.id).kind)))
  pub counted : before.begun ≡ true → timing_of before.parents before.sorting ≡ None
      → after.source.lookups ≤ before.source.lookups + 1
  pub counted_one : before.begun ≡ true → timing_of before.parents before.sorting ≡ None
      → IfSome item
      (λ answer. IfOk answer
      (λ info. CountsOne
      (rows_of before.source.rows) info.id before.source.lookups after.source.lookups))
  pub counted_by_time : before.begun ≡ true
      → IfSome item
      (λ answer. IfOk answer
      (λ info. CountsUpTo (rows_of before.source.rows) info.id
      (length info.parent_ids.items) before.source.lookups after.source.lookups))
  pub rowed : InRows before
      → IfSome item
      (λ answer. IfOk answer (λ _. InRows after × (after.source.lookups ≡ before.source.lookups)))
  pub meets : before.begun ≡ true
      → IfSome item
      (λ answer. IfOk answer
      (λ info. Meets accepts goes (rows_of before.source.rows) before info after))
  pub unasked : IfNone item (after.predicate ≡ before.predicate)
  pub over : IfNone item (IsOver after)
  pub content_end : IfNone item (after.source.buffer.items ≡ before.source.buffer.items)
  pub content_fault : IfSome item (λ answer. OnErr answer (after.source.buffer.items ≡ []))
  pub counted_end : before.begun ≡ true → IfNone item (after.source.lookups ≡ before.source.lookups)
  pub counted_fault : before.begun ≡ true
      → IfSome item
      (λ answer. IfErr answer (CountsFault before.source.lookups after.source.lookups))
  pub rowed_end : InRows before → IfNone item (after.source.lookups ≡ before.source.lookups)
  pub first : (a : Asked) → IsMade accepts a before
      → IfSome item
      (λ answer. IfOk answer
      (λ info. CountsFirst accepts goes honest may_fail table ids a before info after))
  pub first_end : (a : Asked) → IsMade accepts a before
      → IfNone item
      (CountsBeginning honest
      (rows_of before.source.rows) table a before.source.lookups after.source.lookups)
  pub falls : IfSome item (λ answer. OnOk answer (left_of ids after < left_of ids before))
  pub in_turn : before.begun ≡ true → honest → (g : Commits ObjectId)
      → AreTold (rows_of before.source.rows) table g
      → IfSome item
      (λ answer. IfOk answer (λ info. ComesInTurn accepts may_fail g before info after))
  pub in_turn_end : before.begun ≡ true → IsSome (timing_of before.parents before.sorting)
      → IfNone item (turns_of before.known ≡ [])
  pub tips_end : (a : Asked) → IsMade accepts a before → honest → (g : Commits ObjectId)
      → AreTold (rows_of before.source.rows) table g
      → IfNone item (LetsWaitIn (timing a) may_fail g (IsWanted g a) [] [])
  pub in_turn_fault : before.begun ≡ true
      → IfSome item
      (λ answer. IfErr answer
      (FailsInTurn honest may_fail (rows_of before.source.rows) table before))
  pub told : honest → (g : Commits ObjectId) → AreTold (rows_of before.source.rows) table g
      → IfSome item
      (λ answer. IfOk answer
      (IsInfo g (rows_of before.source.rows) before.parents before.sorting))
  pub stays : IfSome item (λ answer. OnOk answer (StaysAsked before after))
  pub paint_stays : before.begun ≡ true
      → IfSome item (λ answer. OnOk answer (StaysPainted before.known.nodes after.known.nodes))
  pub takes_one : IfSome item
      (λ answer. IfOk answer (λ info. TakesOne before info.id after))
  pub flags : before.begun ≡ true
      → IfSome item
      (λ answer. IfOk answer
      (λ info. MarksMet before.known.nodes info.parent_ids.items after.known.nodes))
  pub first_fault : (a : Asked) → IsMade accepts a before
      → IfSome item
      (λ answer. IfErr answer
      (λ error. FailsFirst accepts honest may_fail table ids a before error after))
  pub unasked_fault : IfSome item
      (λ answer. IfErr answer
      (λ error. (error ≡ fault.Memory) ⊎ (after.predicate ≡ before.predicate)))
  pub kind_end : IfNone item (after.kind ≡ before.kind)
  pub queues : before.begun ≡ true → IsSome (timing_of before.parents before.sorting)
      → IfSome item (λ answer. IfOk answer (λ info. KeepsOrder before info after))
