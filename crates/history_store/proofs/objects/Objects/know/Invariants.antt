use Rattle.std.proofs.Common.{◌≡◌, ◌&&◌, ◌||◌}
use Rattle.std.specs.FinMap.{contains_key}
use Rattle.gix_hash.specs.Id.{Id}
use Rattle.history_check_objects.specs.Stored.{facts_in, ids_in, kind_in}
use Rattle.history_texts.specs.IdLists.{is_one_of}
use Rattle.history_store.specs.KeptIds.{kept}
use Rattle.history_store.specs.KnownObjects.{is_commit}
use Rattle.history_store.proofs.objects.Objects.know.Given as goal

-- the ids so far are known, and which are commits'
abbrev pub invariant-ids : goal.invariant-ids
invariant-ids g l = record {
  next : (goal.iterator-ids g).can_next l.id-iterator;
  finite : (goal.iterator-ids g).is_finite l.id-iterator;
  files : l.self.files ≡ l.fn.self.files;
  kind : l.self.kind ≡ l.fn.self.kind;
  folders : l.self.folders ≡ l.fn.self.folders;
  known : (id : Id) → (contains_key (kept l.self.ids) id || is_one_of l.id-iterator id) ≡ (contains_key (kept l.fn.self.ids) id || is_one_of (ids_in l.fn.stored) id);
  commits : (id : Id) → (contains_key (kept l.self.commits) id || (is_one_of l.id-iterator id && is_commit (kind_in (facts_in l.fn.stored) id)))
      ≡ (contains_key (kept l.fn.self.commits) id || (is_one_of (ids_in l.fn.stored) id && is_commit (kind_in (facts_in l.fn.stored) id)));
}
