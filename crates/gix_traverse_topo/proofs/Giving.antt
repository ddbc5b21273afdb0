-- What one call of a walk gives, from what its clauses say.
use Rattle.std.proofs.Common.{true, false, ◌≡◌, ◌⊎◌, List, [], ◌∷◌, ◌++◌, sym, subst, Some, None, Option, Bool, ◌<◌}
use Rattle.std.specs.Prelude.{Result, Ok, Err, IfOk, IfErr, OnErr, IfSome, IfNone, IsNone, OnOk, ⊤}
use Rattle.std.specs.Iterator.{MakesProgress, at_most}
use Rattle.gix_hash.specs.Id.{Id, id_of}
use Rattle.gix_hash.specs.declared.object_id.ObjectId.{ObjectId}
use Rattle.gix_traverse_graph.specs.Commits.{Commits}
use Rattle.gix_traverse_commit_known.specs.Ending.{is_empty}
use Rattle.gix_traverse_graph.specs.declared.info.Info.{Info}
use Rattle.gix_traverse_graph.specs.declared.parents.Parents.{Parents}
use Rattle.gix_traverse_graph.specs.declared.rows.Row.{Row}
use Rattle.gix_traverse_topo.specs.Giving.{AsksEach, AsksFault, AsksRest, GivesNext, answers_left, left_of}
use Rattle.gix_traverse_topo.specs.Standing.{Answers, IsInfo, IsTurn, NoneReachesItself, Stands, all_accepted, topo_request}
use Rattle.gix_traverse_topo.specs.Waiting.{waiting}
use Rattle.gix_traverse_topo.specs.declared.error.Error.{Error}
use Rattle.gix_traverse_topo.specs.declared.error.Error.TheVariants.{Memory}
use Rattle.gix_traverse_topo.specs.declared.init.Sorting.{Sorting}
use Rattle.gix_traverse_topo.specs.declared.iter.Topo.{Topo}
use Rattle.gix_traverse_commit_known.proofs.Ending.{empty_from, empty_test, fewer_left, none_left}

ok_then : (r : Option (Result Info Error)) (P Q : Info → Type 0) → IfSome r (λ a. IfOk a P) → ((info : Info) → P info → Q info) → IfSome r (λ a. IfOk a Q)
ok_then None P Q h f = tt
ok_then (Some (Ok v)) P Q h f = f v h
ok_then (Some (Err e)) P Q h f = tt

err_then : (r : Option (Result Info Error)) (P Q : Error → Type 0) → IfSome r (λ a. IfErr a P) → ((error : Error) → P error → Q error) → IfSome r (λ a. IfErr a Q)
err_then None P Q h f = tt
err_then (Some (Ok v)) P Q h f = tt
err_then (Some (Err e)) P Q h f = f e h

none_then : (r : Option (Result Info Error)) (P Q : Type 0) → IfNone r P → (P → Q) → IfNone r Q
none_then None P Q h f = f h
none_then (Some v) P Q h f = tt

module _ {P : Type 0} (accepts : P → Id → Bool) (goes : P → Id → P → Type 0) (before after : Topo P) (item : Option (Result Info Error)) where
  pub gives_next : after.parents ≡ before.parents → accepts after.predicate ≡ accepts before.predicate → after.lookups ≡ before.lookups
      → IfSome item (λ a. IfOk a (λ info. (sorting : Sorting) (rows : List Row) (faults : ObjectId → Option Error) (g : Commits ObjectId) (tips ends listed : List ObjectId) → Stands sorting rows faults g tips ends before.parents (λ x. accepts before.predicate (id_of x)) listed before.known before.ready → Stands sorting rows faults g tips ends before.parents (λ x. accepts before.predicate (id_of x)) (listed ++ info.id ∷ []) after.known after.ready × IsInfo rows g info))
      → IfNone item ((sorting : Sorting) (rows : List Row) (faults : ObjectId → Option Error) (g : Commits ObjectId) (tips ends listed : List ObjectId) → Stands sorting rows faults g tips ends before.parents (λ x. accepts before.predicate (id_of x)) listed before.known before.ready → NoneReachesItself g (topo_request tips ends before.parents all_accepted) → Answers sorting g (topo_request tips ends before.parents (λ x. accepts before.predicate (id_of x))) listed)
      → IfSome item (λ a. IfErr a (λ error. (sorting : Sorting) (rows : List Row) (faults : ObjectId → Option Error) (g : Commits ObjectId) (tips ends listed : List ObjectId) → Stands sorting rows faults g tips ends before.parents (λ x. accepts before.predicate (id_of x)) listed before.known before.ready → (error ≡ Memory) ⊎ ((x : ObjectId) × (faults x ≡ Some error) × IsTurn sorting faults g (topo_request tips ends before.parents (λ x. accepts before.predicate (id_of x))) listed x)))
      → IfSome item (λ a. OnErr a (waiting after.ready ≡ [])) → IfNone item (waiting after.ready ≡ []) → (waiting before.ready ≡ [] → IsNone item) → IfSome item (λ a. OnOk a (left_of after < left_of before))
      → IfSome item (λ a. IfOk a (λ info. (passed : List ObjectId) × AsksEach goes before after (passed ++ info.id ∷ []))) → IfNone item (AsksRest goes before after) → IfSome item (λ a. IfErr a (AsksFault goes before after)) → GivesNext accepts goes before item after
  gives_next parents same lookups more end refused failed over ended fewer asked asked_end asked_fault = record {
    lookups = lookups;
    parents = parents;
    more = λ sorting rows faults g tips ends given sd. ok_then item _ _ more (λ info f.
        let (s, i) = f sorting rows faults g tips ends given sd in (
          subst (λ (p : Parents). Stands sorting rows faults g tips ends p (λ x. accepts after.predicate (id_of x)) (given ++ info.id ∷ []) after.known after.ready) (sym parents)
              (subst (λ (h : Id → Bool). Stands sorting rows faults g tips ends before.parents (λ x. h (id_of x)) (given ++ info.id ∷ []) after.known after.ready) (sym same) s),
          i,
        ));
    end = λ sorting rows faults g tips ends given sd none. none_then item _ _ end (λ f. f sorting rows faults g tips ends given sd none);
    refused = λ sorting rows faults g tips ends given sd. err_then item _ _ refused (λ error f. f sorting rows faults g tips ends given sd);
    asked = asked;
    asked_end = asked_end;
    asked_fault = asked_fault;
    failed = failed;
    over = over;
    ended = ended;
    fewer = fewer;
  }

no_item : false ≡ true → ⊥
no_item e = let z : ⊥ = cc in z

-- with each answer fewer may come
pub progress : {P : Type 0} (before after : Topo P) (item : Option (Result Info Error)) → IfSome item (λ a. OnErr a (waiting after.ready ≡ [])) → (waiting before.ready ≡ [] → IsNone item) → IfSome item (λ a. OnOk a (left_of after < left_of before)) → MakesProgress (λ _. ⊤) (λ walk. at_most (answers_left walk)) before item after
progress before after None failed ended fewer = record { on = λ _. tt; keeps = tt; rests = λ _. tt }
progress before after (Some (Ok info)) failed ended fewer = record {
  on = λ _. (tt, tt, fewer_left (is_empty (waiting before.ready)) (is_empty (waiting after.ready)) (left_of before) (left_of after) (λ t. no_item (sym (ended (empty_from (waiting before.ready) t)))) fewer);
  keeps = tt;
  rests = λ _. tt;
}
progress before after (Some (Err e)) failed ended fewer = record {
  on = λ _. (tt, tt, none_left (is_empty (waiting before.ready)) (is_empty (waiting after.ready)) (left_of before) (left_of after) (λ t. no_item (sym (ended (empty_from (waiting before.ready) t)))) (empty_test (waiting after.ready) failed));
  keeps = tt;
  rests = λ _. tt;
}
