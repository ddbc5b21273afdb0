use Rattle.std.proofs.Common.{◌∙◌, sym, subst, List}
use Rattle.gix_hash.specs.declared.object_id.ObjectId.{ObjectId}
use Rattle.history_store.specs.KeptIds.{left}
use Rattle.history_queries.proofs.AllTold.{AreSoFar, all_so_far, none_so_far, one_listed}
use Rattle.history_repository.proofs.Tables.{commit_known}
use Rattle.history_queries.proofs.rows.stored_commits.Goals as goal

pub ids-init : goal.ids-init
ids-init g c = record {
  next = tt;
  finite = tt;
  so_far = λ r stands.
      subst (λ ids. AreSoFar r c.new-commits.result.items (left ids)) (sym c.into_iter-id-iterator.ensures.into_iter_gives)
      (subst (λ (commits : List ObjectId). AreSoFar r commits (left c.commits-id-items.result)) (sym c.new-commits.ensures.items)
      (none_so_far r (left c.commits-id-items.result) (λ id. sym (commit_known _ _ c.args.repository.now r stands id) ∙ c.commits-id-items.ensures.ids id)));
}

pub ids-preserved : goal.ids-preserved
ids-preserved g c = record {
  next = tt;
  finite = tt;
  so_far = λ r stands. one_listed r c.ids.commits.items (left c.ids.id-iterator) (c.ids.invariant.so_far r stands) c.in-Some.id (left c.next.new.self) c.in-Some.ensures.steps c.push.new.self.items c.in_ok-push.ensures.items;
}

pub returns : goal.returns
returns g c = λ r stands. all_so_far r c.ids.commits.items (left c.ids.id-iterator) (c.ids.invariant.so_far r stands) c.in-None.ensures.steps.0
