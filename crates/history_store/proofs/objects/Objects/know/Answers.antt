use Rattle.std.proofs.Common.{◌∙◌, ◌&&◌, ◌||◌, List, ap, refl}
use Rattle.std.specs.FinMap.{contains_key}
use Rattle.gix_hash.specs.declared.object_id.ObjectId.{ObjectId}
use Rattle.history_texts.specs.IdLists.{is_one_of}
use Rattle.history_check_objects.specs.Stored.{facts_in, kind_in}
use Rattle.history_store.specs.KeptIds.{kept}
use Rattle.history_store.specs.KnownObjects.{is_commit}
use Rattle.history_store.proofs.KnownIds.{all_known, all_noted, one_known, one_noted}
use Rattle.history_store.proofs.objects.Objects.know.Goals as goal

pub ids-init : goal.ids-init
ids-init g c = record {
  next = tt;
  finite = tt;
  files = refl;
  kind = refl;
  folders = refl;
  known = λ id. ap (λ (ids : List ObjectId). contains_key (kept c.args.self.now.ids) id || is_one_of ids id) (c.into_iter-id-iterator.ensures.into_iter_gives ∙ c.ids-id-items.ensures);
  commits = λ id.
      ap (λ (ids : List ObjectId). contains_key (kept c.args.self.now.commits) id || (is_one_of ids id && is_commit (kind_in (facts_in c.args.stored.now) id)))
      (c.into_iter-id-iterator.ensures.into_iter_gives ∙ c.ids-id-items.ensures);
}

pub ids-preserved : goal.ids-preserved
ids-preserved g c = record {
  next = tt;
  finite = tt;
  files = c.ids.invariant.files;
  kind = c.ids.invariant.kind;
  folders = c.ids.invariant.folders;
  known = λ id. one_known _ _ _ c.in-Some.id.now c.ids.id-iterator c.next.new.self c.in-Some.ensures.steps c.in_ok-make_room.ensures.ids c.insert.ensures id ∙ c.ids.invariant.known id;
  commits = λ id.
      one_noted _ _ _ _ (λ other. is_commit (kind_in (facts_in c.args.stored.now) other)) c.in-Some.id.now c.ids.id-iterator c.next.new.self c.in-Some.ensures.steps c.in_ok-make_room-2.ensures.ids c.insert_if.ensures (c.is_commit.ensures ∙ ap is_commit c.kind_of.ensures) id
      ∙ c.ids.invariant.commits id;
}

pub returns-clause-known : goal.returns-clause-known
returns-clause-known g c = λ id. all_known (kept c.ids.self.ids) c.ids.id-iterator c.in-None.ensures.steps.0 id ∙ c.ids.invariant.known id

pub returns-clause-commits : goal.returns-clause-commits
returns-clause-commits g c = λ id. all_noted (kept c.ids.self.commits) c.ids.id-iterator (is_commit (kind_in (facts_in c.args.stored.now) id)) c.in-None.ensures.steps.0 id ∙ c.ids.invariant.commits id
