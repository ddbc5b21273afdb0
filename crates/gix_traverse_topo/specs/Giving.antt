-- What one call of a walk gives.
use Rattle.std.specs.Prelude.{◌≡◌, ◌⊎◌, ℕ, ◌<◌, List, [], ◌∷◌, ◌++◌, ◌+◌, Bool, if◌then◌else◌, Option, Some, Result, IfOk, IfErr, OnErr, OnOk, IfSome, IfNone, IsNone}
use Rattle.gix_hash.specs.Id.{Id, id_of}
use Rattle.gix_hash.specs.declared.object_id.ObjectId.{ObjectId}
use Rattle.gix_traverse_graph.specs.Commits.{Commits}
use Rattle.gix_traverse_commit_known.specs.Ending.{is_empty}
use Rattle.gix_traverse_commit_known.specs.Meeting.{Asks}
use Rattle.gix_traverse_graph.specs.declared.info.Info.{Info}
use Rattle.gix_traverse_graph.specs.declared.rows.Row.{Row}
use Rattle.gix_object_lookup.specs.Table.{Table}
use Rattle.gix_traverse_commit_known.specs.Told.{rows_of}
use Rattle.gix_traverse_topo.specs.Asking.{Asked}
use Rattle.gix_traverse_topo.specs.Standing.{Answers, Begins, IsInfo, IsTurn, IsTurnOf, NoneReachesItself, Standing, Stands, all_accepted, topo_request, weight}
use Rattle.gix_traverse_topo.specs.Waiting.{waiting}
use Rattle.gix_traverse_topo.specs.declared.error.Error.{Error}
use Rattle.gix_traverse_topo.specs.declared.error.Error.TheVariants.{Memory}
use Rattle.gix_traverse_topo.specs.declared.init.Sorting.{Sorting}
use Rattle.gix_traverse_topo.specs.declared.iter.Topo.{Topo}

-- the ids that the walk's predicate accepts
abbrev pub accepted_by : {P : Type 0} → (P → Id → Bool) → Topo P → ObjectId → Bool
accepted_by accepts walk = λ x. accepts walk.predicate (id_of x)

-- it is before its first commit, with what the builder holds
abbrev pub BeginsAs : {F P : Type 0} → (P → Id → Bool) → Type 0 → Type 0 → Table → Asked F P
    → Topo P → Type 0
BeginsAs accepts honest may_fail table a walk =
    Begins honest may_fail a.sorting (rows_of a.graph) table a.tips a.ends a.parents
    (λ x. accepts a.predicate (id_of x)) walk.known walk.ready

-- it has given these, of what these tips reach and these ends don't
abbrev pub HasGiven : {P : Type 0} → (P → Id → Bool) → Topo P → Sorting → List Row
    → (ObjectId → Option Error) → Commits ObjectId → List ObjectId → List ObjectId → List ObjectId
    → Type 0
HasGiven accepts walk sorting rows faults g tips ends given =
    Stands sorting rows faults g tips ends walk.parents
    (accepted_by accepts walk) given walk.known walk.ready

-- what is left of a walk: the names that are still to be counted off, and the commits that wait
abbrev pub left_of : {P : Type 0} → Topo P → ℕ
left_of walk = weight walk.known walk.ready

-- how many items may still come: none if no commit waits, and otherwise what is left and an error
abbrev pub answers_left : {P : Type 0} → Topo P → ℕ
answers_left walk = if is_empty (waiting walk.ready) then 0 else left_of walk + 1

-- these commits were finished, in this order, and the predicate was called for each of them once
pub record AsksEach {P : Type 0} (goes : P → Id → P → Type 0) (before after : Topo P)
    (more : List ObjectId) : Type 0 where
  pub asked : Asks goes more before.predicate after.predicate
  pub finishes : (sorting : Sorting) (rows : List Row) (h : Commits ObjectId)
      (tips hs xs finished : List ObjectId)
      → Standing sorting rows h tips before.parents hs xs finished before.known before.ready
      → Standing sorting rows h tips before.parents hs xs (finished ++ more) after.known after.ready

-- the rest was finished, with a call for each, up to a walk in which none waits
pub record AsksRest {P : Type 0} (goes : P → Id → P → Type 0) (before after : Topo P) : Type 0 where
  pub passed : List ObjectId
  pub last : Topo P
  pub each : AsksEach goes before last passed
  pub none_waits : waiting last.ready ≡ []
  pub same : after.predicate ≡ last.predicate

-- those before its turn were finished, with a call for each, up to a walk in which it is the turn
-- of one that isn't read
pub record AsksFault {P : Type 0} (goes : P → Id → P → Type 0) (before after : Topo P)
    (error : Error) : Type 0 where
  pub passed : List ObjectId
  pub last : Topo P
  pub each : AsksEach goes before last passed
  pub turn : (sorting : Sorting) (rows : List Row) (tips finished : List ObjectId)
      → IsTurnOf sorting rows tips before.parents finished last.known last.ready error
  pub same : after.predicate ≡ last.predicate

pub record GivesNext {P : Type 0} (accepts : P → Id → Bool) (goes : P → Id → P → Type 0)
    (before : Topo P) (item : Option (Result Info Error)) (after : Topo P) : Type 0 where
  pub lookups : after.lookups ≡ before.lookups
  pub parents : after.parents ≡ before.parents
  pub more : (sorting : Sorting) (rows : List Row) (faults : ObjectId → Option Error)
      (g : Commits ObjectId) (tips ends given : List ObjectId)
      → HasGiven accepts before sorting rows faults g tips ends given
      → IfSome item
      (λ answer. IfOk answer
      (λ info. HasGiven accepts after sorting rows faults g tips ends (given ++ info.id ∷ [])
      × IsInfo rows g info))
  pub end : (sorting : Sorting) (rows : List Row) (faults : ObjectId → Option Error)
      (g : Commits ObjectId) (tips ends given : List ObjectId)
      → HasGiven accepts before sorting rows faults g tips ends given
      → NoneReachesItself g (topo_request tips ends before.parents all_accepted)
      → IfNone item
      (Answers sorting g
      (topo_request tips ends before.parents (accepted_by accepts before)) given)
  pub refused : (sorting : Sorting) (rows : List Row) (faults : ObjectId → Option Error)
      (g : Commits ObjectId) (tips ends given : List ObjectId)
      → HasGiven accepts before sorting rows faults g tips ends given
      → IfSome item
      (λ answer. IfErr answer
      (λ error. (error ≡ Memory)
      ⊎ ((x : ObjectId) × (faults x ≡ Some error)
      × IsTurn sorting faults g
      (topo_request tips ends before.parents (accepted_by accepts before)) given x)))
  pub asked : IfSome item
      (λ answer. IfOk answer
      (λ info. (passed : List ObjectId) × AsksEach goes before after (passed ++ info.id ∷ [])))
  pub asked_end : IfNone item (AsksRest goes before after)
  pub asked_fault : IfSome item (λ answer. IfErr answer (AsksFault goes before after))
  pub failed : IfSome item (λ answer. OnErr answer (waiting after.ready ≡ []))
  pub over : IfNone item (waiting after.ready ≡ [])
  pub ended : waiting before.ready ≡ [] → IsNone item
  pub fewer : IfSome item (λ answer. OnOk answer (left_of after < left_of before))
