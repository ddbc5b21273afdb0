-- What walks give, one commit after another.
use Rattle.std.proofs.Common.{◌≡◌, ◌∙◌, ap, refl, sym, subst, true, List, [], ◌∷◌, ◌++◌, inl, inr, Option, Some, None, Result, Ok, Err, Vec, Bor}
use Rattle.std.specs.declared.alloc.Global.{Global}
use Rattle.std.specs.Prelude.{◌⊎◌, ℤ, IfOk, IfErr, IfSome, IsErrAnd}
use Rattle.gix_hash.specs.Id.{Id}
use Rattle.gix_hash.specs.declared.object_id.ObjectId.{ObjectId}
use Rattle.gix_object_lookup.specs.Table.{Table}
use Rattle.gix_traverse_graph.specs.Commits.{Commits, Listed}
use Rattle.gix_traverse_commit.specs.Giving.{GivesNext, IsNext}
use Rattle.gix_traverse_commit_known.specs.Asked.{IsTurn, Answers, Asked, IsSure, request_in}
use Rattle.gix_traverse_commit_known.specs.Faults.{SimpleFault}
use Rattle.gix_traverse_commit.specs.Simply.{IsMade, Stands, graph_of, objects_of}
use Rattle.gix_traverse_commit_known.specs.Told.{AreTold, rows_of}
use Rattle.gix_traverse_commit_known.specs.declared.accept.All.{All}
use Rattle.gix_traverse_graph.specs.declared.info.Info.{Info}
use Rattle.gix_traverse_graph.specs.declared.parents.Parents.{Parents}
use Rattle.gix_traverse_graph.specs.declared.rows.Row.{Row}
use Rattle.gix_traverse_commit.specs.declared.simple.Simple.{Simple}
use Rattle.gix_traverse_commit_known.specs.declared.faults.Error as simple
use Rattle.gix_traverse_topo.specs.Giving as sorted
use Rattle.gix_traverse_topo.specs.Giving.{BeginsAs, HasGiven}
use Rattle.gix_traverse_topo.specs.Standing as standing
use Rattle.gix_traverse_topo.specs.Standing.{NoneReachesItself, all_accepted, topo_request}
use Rattle.gix_traverse_topo.specs.declared.error.Error as topo
use Rattle.gix_traverse_topo.specs.declared.error.Error.TheVariants as sorted_fault
use Rattle.gix_traverse_topo.specs.declared.init.Sorting.{Sorting}
use Rattle.gix_traverse_topo.specs.declared.iter.Topo.{Topo}
use Rattle.history_walks.specs.Faults.{WalkFault, as_sorted, as_walked}
use Rattle.history_walks.specs.Sorted.{StopsSorted}
use Rattle.history_walks.specs.declared.error.WalkError.{WalkError}
use Rattle.gix_traverse_graph.specs.Sorting.{InOrder, timing_of}
use Rattle.gix_traverse_graph.specs.declared.parents.Parents.TheVariants.{All as AllParents, First as FirstParent}
use Rattle.gix_traverse_graph.specs.declared.sorting.CommitTimeOrder.TheVariants.{NewestFirst, OldestFirst}
use Rattle.gix_traverse_graph.specs.declared.sorting.Sorting.{Sorting as SimpleSorting}
use Rattle.gix_traverse_graph.specs.declared.sorting.Sorting.TheVariants.{BreadthFirst}
use Rattle.gix_traverse_graph.specs.declared.sorting.Timing.{Timing}
use Rattle.gix_traverse_topo.specs.Asking as asking
use Rattle.gix_traverse_topo.specs.Faults.{IsBuildFault, IsFaultOf}
use Rattle.history_walks.specs.Asking.{IsInOrder, OverTable, walk_from}
use Rattle.history_walks.specs.Simply.{asked}
use Rattle.history_walks.specs.declared.listing.Order.TheVariants.{Breadth, Newest, Oldest}
use Rattle.history_walks.proofs.Faulty.{build_fault, reached_by_all, sorted_fault, walk_fault}

-- an error that is passed on
pub told_error : {T : Type 0} (P : WalkError → Type 0) (result : Result T WalkError) (want : WalkError) → IsErrAnd result (λ error. error ≡ want) → P want → IfErr result P
told_error P (Ok value) want is p = tt
told_error P (Err error) want is p = subst P (sym is) p

-- ---- in breadth order and by time

module _ {F : Type 0} (honest may_fail : F → Type 0) (table : F → Table) (ids : F → List Id) (goes : All → Id → All → Type 0) (walk before after : Simple F All) (listed : List ObjectId)
    (same : objects_of before ≡ objects_of walk) (kept_rows : graph_of before ≡ graph_of walk) where
  -- what the walk gave so far
  abbrev pub Given : List ObjectId → Simple F All → Type 0
  Given xs now = honest (objects_of walk) → (h : Commits ObjectId) → AreTold (rows_of (graph_of walk)) (table (objects_of walk)) h → (a : Asked) → IsSure (may_fail (objects_of walk)) a
      → IsMade (λ _ _. true) a walk → Stands (λ _ _. true) (ids (objects_of walk)) h a xs now

  abbrev NextOf : F → Option (Result Info simple.Error) → Type 0
  NextOf o item = GivesNext (λ _ _. true) goes (honest o) (may_fail o) (table o) (ids o) before item after

  module _ (so_far : Given listed before) where
    module _ (item : Option (Result Info simple.Error)) (next : NextOf (objects_of before) item) where
      over_walk : NextOf (objects_of walk) item
      over_walk = subst (λ o. NextOf o item) same next

    rowed : (h : Commits ObjectId) → AreTold (rows_of (graph_of walk)) (table (objects_of walk)) h → AreTold (rows_of (graph_of before)) (table (objects_of walk)) h
    rowed h told = subst (λ rows. AreTold (rows_of rows) (table (objects_of walk)) h) (sym kept_rows) told

    pub one_more : (answer : Result Info simple.Error) (info : Info) → NextOf (objects_of before) (Some answer) → answer ≡ Ok info → Given (listed ++ info.id ∷ []) after
    one_more answer info next was is h told a sure made =
        let given = (over_walk (Some answer) next).given is h (rowed h told) a listed sure (so_far is h told a sure made) in
        let there : IsNext (λ _ _. true) (ids (objects_of walk)) h a listed (rows_of (graph_of before)) info after =
        subst (λ (r : Result Info simple.Error). IfOk r (λ i. IsNext (λ _ _. true) (ids (objects_of walk)) h a listed (rows_of (graph_of before)) i after)) was given in
        inr there.stands

    pub all_given : NextOf (objects_of before) None → honest (objects_of walk) → (h : Commits ObjectId) → AreTold (rows_of (graph_of walk)) (table (objects_of walk)) h → (a : Asked) → IsSure (may_fail (objects_of walk)) a
        → IsMade (λ _ _. true) a walk → Answers h a listed
    all_given next is h told a sure made = (over_walk None next).end is h (rowed h told) a listed sure (so_far is h told a sure made)

    pub stops_walk : (answer : Result Info simple.Error) (error : simple.Error) → NextOf (objects_of before) (Some answer) → answer ≡ Err error → honest (objects_of walk) → (h : Commits ObjectId)
        → AreTold (rows_of (graph_of walk)) (table (objects_of walk)) h → (a : Asked) → IsSure (may_fail (objects_of walk)) a → IsMade (λ _ _. true) a walk
        → WalkFault (may_fail (objects_of walk)) (rows_of (graph_of walk)) (table (objects_of walk)) h a.tips a.hidden (as_walked error)
    stops_walk answer error next was is h told a sure made =
        let refused = (over_walk (Some answer) next).refused is h (rowed h told) a listed sure (so_far is h told a sure made) in
        let fault : SimpleFault (IsTurn h a listed) a.parents (honest (objects_of walk)) (may_fail (objects_of walk)) (rows_of (graph_of before)) (table (objects_of walk)) a.hidden error =
        subst (λ (r : Result Info simple.Error). IfErr r (SimpleFault (IsTurn h a listed) a.parents (honest (objects_of walk)) (may_fail (objects_of walk)) (rows_of (graph_of before)) (table (objects_of walk)) a.hidden)) was refused in
        walk_fault (honest (objects_of walk)) (may_fail (objects_of walk)) is (rows_of (graph_of walk)) (table (objects_of walk)) h told a listed error
        (subst (λ (rows : Option (List Row)). SimpleFault (IsTurn h a listed) a.parents (honest (objects_of walk)) (may_fail (objects_of walk)) (rows_of rows) (table (objects_of walk)) a.hidden error) kept_rows fault)

-- ---- by date and in topological order

module _ (goes : All → Id → All → Type 0) (walk before after : Topo All) (listed : List ObjectId) (same : before.parents ≡ walk.parents) where
  abbrev pub GivenSorted : List ObjectId → Topo All → Type 0
  GivenSorted xs now = (sorting : Sorting) (rows : List Row) (faults : ObjectId → Option topo.Error) (g : Commits ObjectId) (tips ends : List ObjectId)
      → HasGiven (λ _ _. true) walk sorting rows faults g tips ends [] → HasGiven (λ _ _. true) now sorting rows faults g tips ends xs

  abbrev NextSorted : Option (Result Info topo.Error) → Type 0
  NextSorted item = sorted.GivesNext (λ _ _. true) goes before item after

  module _ (so_far : GivenSorted listed before) where
    pub one_more_sorted : (answer : Result Info topo.Error) (info : Info) → NextSorted (Some answer) → answer ≡ Ok info → GivenSorted (listed ++ info.id ∷ []) after
    one_more_sorted answer info next was sorting rows faults g tips ends begins =
        let more = next.more sorting rows faults g tips ends listed (so_far sorting rows faults g tips ends begins) in
        (subst (λ (r : Result Info topo.Error). IfOk r (λ i. HasGiven (λ _ _. true) after sorting rows faults g tips ends (listed ++ i.id ∷ []) × standing.IsInfo rows g i)) was more).0

    pub all_given_sorted : NextSorted None → (sorting : Sorting) (rows : List Row) (faults : ObjectId → Option topo.Error) (g : Commits ObjectId) (tips ends : List ObjectId)
        → HasGiven (λ _ _. true) walk sorting rows faults g tips ends [] → NoneReachesItself g (topo_request tips ends walk.parents all_accepted)
        → standing.Answers sorting g (topo_request tips ends walk.parents all_accepted) listed
    all_given_sorted next sorting rows faults g tips ends begins none =
        subst (λ (p : Parents). standing.Answers sorting g (topo_request tips ends p all_accepted) listed) same
        (next.end sorting rows faults g tips ends listed (so_far sorting rows faults g tips ends begins)
        (subst (λ (p : Parents). NoneReachesItself g (topo_request tips ends p all_accepted)) (sym same) none))

    pub stops_sorted : (answer : Result Info topo.Error) (error : topo.Error) → NextSorted (Some answer) → answer ≡ Err error → (sorting : Sorting) (rows : List Row) (faults : ObjectId → Option topo.Error) (g : Commits ObjectId) (tips ends : List ObjectId)
        → HasGiven (λ _ _. true) walk sorting rows faults g tips ends [] → StopsSorted faults g tips ends walk.parents (as_sorted error)
    stops_sorted answer error next was sorting rows faults g tips ends begins =
        let refused = next.refused sorting rows faults g tips ends listed (so_far sorting rows faults g tips ends begins) in
        let why : (error ≡ sorted_fault.Memory) ⊎ ((x : ObjectId) × (faults x ≡ Some error) × standing.IsTurn sorting faults g (topo_request tips ends before.parents all_accepted) listed x) =
        subst (λ (r : Result Info topo.Error). IfErr r (λ e. (e ≡ sorted_fault.Memory) ⊎ ((x : ObjectId) × (faults x ≡ Some e)
        × standing.IsTurn sorting faults g (topo_request tips ends before.parents all_accepted) listed x))) was refused in
        elim why [
          | inl memory ↦ inl (ap as_sorted memory)
          | inr stops ↦ inr (stops.0, error, stops.1, refl, subst (λ (p : Parents). Listed g (topo_request tips ends p all_accepted) stops.0) same stops.2.listed)
        ]

-- ---- what is requested

-- the store and the rows are these
pub over_same : {F : Type 0} (honest : F → Type 0) (table : F → Table) (Q : F → Option (List Row) → Commits ObjectId → Type 0) (other store : F) (graph rows : Option (List Row)) → other ≡ store → graph ≡ rows
    → OverTable (honest other) (rows_of graph) (table other) (Q other graph) → OverTable (honest store) (rows_of rows) (table store) (Q store rows)
over_same honest table Q other store graph rows same same_rows over =
    subst (λ r. OverTable (honest store) (rows_of r) (table store) (Q store r)) same_rows
    (subst (λ o. OverTable (honest o) (rows_of graph) (table o) (Q o graph)) same over)

pub ok_then : {T E : Type 0} (result : Result T E) (P Q : T → Type 0) → ((value : T) → P value → Q value) → IfOk result P → IfOk result Q
ok_then (Ok value) P Q f h = f value h
ok_then (Err error) P Q f h = tt

pub err_then : {T E : Type 0} (result : Result T E) (P Q : E → Type 0) → ((error : E) → P error → Q error) → IfErr result P → IfErr result Q
err_then (Ok value) P Q f h = tt
err_then (Err error) P Q f h = f error h

pub breadth_sure : (may_fail : Type 0) (tips hidden : List ObjectId) (parents : Parents) → IsSure may_fail (asked tips hidden parents BreadthFirst)
breadth_sure may_fail tips hidden AllParents = inl refl
breadth_sure may_fail tips hidden FirstParent = inl refl

pub breadth_answers : (g : Commits ObjectId) (tips hidden : List ObjectId) (parents : Parents) (ids : List ObjectId) → Answers g (asked tips hidden parents BreadthFirst) ids → IsInOrder (Breadth parents) g (walk_from (Breadth parents) tips hidden) ids
breadth_answers g tips hidden AllParents ids h = h
breadth_answers g tips hidden FirstParent ids h = h

module _ (g : Commits ObjectId) (tips hidden ids : List ObjectId) (sorting : SimpleSorting) (since : Option ℤ) (h : Answers g (asked tips hidden AllParents sorting) ids) where
  abbrev In : Option Timing → Type 0
  In t = InOrder t g (request_in t (asked tips hidden AllParents sorting)) ids

  pub newest_answers : timing_of AllParents sorting ≡ Some (record { order = NewestFirst; since = since }) → IsInOrder (Newest since) g (walk_from (Newest since) tips hidden) ids
  newest_answers is = subst In is h

  pub oldest_answers : timing_of AllParents sorting ≡ Some (record { order = OldestFirst; since = since }) → IsInOrder (Oldest since) g (walk_from (Oldest since) tips hidden) ids
  oldest_answers is = subst In is h

-- a commit of the walk that has a fault isn't read
pub stopped_fault : (honest may_fail : Type 0) (is : honest) (rows : List Row) (table : Table) (g : Commits ObjectId) (told : AreTold rows table g) (faults : ObjectId → Option topo.Error) (tips ends : List ObjectId) (parents : Parents)
    → ((x : ObjectId) → IfSome (faults x) (IsFaultOf honest may_fail rows table x)) → (error : WalkError) → StopsSorted faults g tips ends parents error → WalkFault may_fail rows table g tips ends error
stopped_fault honest may_fail is rows table g told faults tips ends parents causes error (inl memory) = subst (λ e. WalkFault may_fail rows table g tips ends e) (sym memory) tt
stopped_fault honest may_fail is rows table g told faults tips ends parents causes error (inr (x, cause, at, same, listed)) =
    subst (λ e. WalkFault may_fail rows table g tips ends e) (sym same)
    (sorted_fault honest may_fail is rows table g told tips ends x cause (inl (reached_by_all parents g _ tips listed.0)) (subst (λ (f : Option topo.Error). IfSome f (IsFaultOf honest may_fail rows table x)) at (causes x)))

-- a walk that was built for tips and ends over a store
module _ {S : Type 0} (honest may_fail : S → Type 0) (table : S → Table) (initial first second final : asking.Asked (Bor S) All) (store : Bor S) (graph : Option (List Row)) (tips ends : List ObjectId) (sorting : Sorting) (parents : Parents) (objects_are : initial.objects ≡ store) (tips_are : initial.tips ≡ tips)
    (ends_are : initial.ends ≡ ends) (with_rows : first ≡ record initial { graph = graph }) (along : second ≡ record first { parents = parents }) (ordered : final ≡ record second { sorting = sorting }) where
  abbrev Wanted : asking.Asked (Bor S) All
  Wanted = record {
    objects = store;
    predicate = initial.predicate;
    tips = tips;
    ends = ends;
    sorting = sorting;
    parents = parents;
    graph = graph;
  }

  wanted : final ≡ Wanted
  wanted =
      ordered ∙ ap (λ (x : asking.Asked (Bor S) All). record x { sorting = sorting }) along
      ∙ ap (λ (x : asking.Asked (Bor S) All). record (record x { parents = parents }) { sorting = sorting }) with_rows
      ∙ (λ i. record {
        objects = objects_are i;
        predicate = initial.predicate;
        tips = tips_are i;
        ends = ends_are i;
        sorting = sorting;
        parents = parents;
        graph = graph;
      })

  pub unbuilt : honest store.now → (h : Commits ObjectId) → AreTold (rows_of graph) (table store.now) h → (error : topo.Error)
      → IsBuildFault (honest (final.objects).now) (may_fail (final.objects).now) (rows_of final.graph) (table (final.objects).now) final.ends error → WalkFault (may_fail store.now) (rows_of graph) (table store.now) h tips ends (as_sorted error)
  unbuilt is h told error fault =
      build_fault (honest store.now) (may_fail store.now) is (rows_of graph) (table store.now) h told tips ends error
      (subst (λ (x : asking.Asked (Bor S) All). IsBuildFault (honest (x.objects).now) (may_fail (x.objects).now) (rows_of x.graph) (table (x.objects).now) x.ends error) wanted fault)

  module _ (walk : Topo All) (begins : BeginsAs (λ _ _. true) (honest (final.objects).now) (may_fail (final.objects).now) (table (final.objects).now) final walk) (followed : walk.parents ≡ final.parents)
      (result : Result (Vec ObjectId Global) WalkError) where
    begun : standing.Begins (honest store.now) (may_fail store.now) sorting (rows_of graph) (table store.now) tips ends parents (λ _. true) walk.known walk.ready
    begun = subst (λ (x : asking.Asked (Bor S) All). BeginsAs (λ _ _. true) (honest (x.objects).now) (may_fail (x.objects).now) (table (x.objects).now) x walk) wanted begins

    goes_along : walk.parents ≡ parents
    goes_along = followed ∙ ap (λ (x : asking.Asked (Bor S) All). x.parents) wanted

    stands : honest store.now → (h : Commits ObjectId) → AreTold (rows_of graph) (table store.now) h → HasGiven (λ _ _. true) walk sorting (rows_of graph) begun.faults h tips ends []
    stands is h told =
        subst (λ (p : Parents). standing.Stands sorting (rows_of graph) begun.faults h tips ends p (λ _. true) [] walk.known walk.ready) (sym goes_along) (begun.stands is h told)

    pub sorted_lists : ((sorting : Sorting) (rows : List Row) (faults : ObjectId → Option topo.Error) (g : Commits ObjectId) (tips ends : List ObjectId) → HasGiven (λ _ _. true) walk sorting rows faults g tips ends []
        → NoneReachesItself g (topo_request tips ends walk.parents all_accepted) → IfOk result (λ (ids : Vec ObjectId Global). standing.Answers sorting g (topo_request tips ends walk.parents all_accepted) ids.items))
        → honest store.now → (h : Commits ObjectId) → AreTold (rows_of graph) (table store.now) h → NoneReachesItself h (topo_request tips ends parents all_accepted)
        → IfOk result (λ (ids : Vec ObjectId Global). standing.Answers sorting h (topo_request tips ends parents all_accepted) ids.items)
    sorted_lists lists is h told none =
        subst (λ (p : Parents). IfOk result (λ (ids : Vec ObjectId Global). standing.Answers sorting h (topo_request tips ends p all_accepted) ids.items)) goes_along
        (lists sorting (rows_of graph) begun.faults h tips ends (stands is h told) (subst (λ (p : Parents). NoneReachesItself h (topo_request tips ends p all_accepted)) (sym goes_along) none))

    pub sorted_refused : ((sorting : Sorting) (rows : List Row) (faults : ObjectId → Option topo.Error) (g : Commits ObjectId) (tips ends : List ObjectId) → HasGiven (λ _ _. true) walk sorting rows faults g tips ends []
        → IfErr result (StopsSorted faults g tips ends walk.parents)) → honest store.now → (h : Commits ObjectId) → AreTold (rows_of graph) (table store.now) h → IfErr result (WalkFault (may_fail store.now) (rows_of graph) (table store.now) h tips ends)
    sorted_refused refused is h told =
        err_then result (StopsSorted begun.faults h tips ends walk.parents) (WalkFault (may_fail store.now) (rows_of graph) (table store.now) h tips ends)
        (λ error stops. stopped_fault (honest store.now) (may_fail store.now) is (rows_of graph) (table store.now) h told begun.faults tips ends walk.parents begun.causes error stops)
        (refused sorting (rows_of graph) begun.faults h tips ends (stands is h told))
