use Rattle.std.proofs.Common.{◌≡◌, take}
use Rattle.std.specs.BTreeSet as sets
use Rattle.gix_hash.specs.Id.{id_of}
use Rattle.gix_hash.specs.declared.object_id.ObjectId.{ObjectId}
use Rattle.history_texts.specs.IdLists.{is_one_of}
use Rattle.history_check_objects.specs.Surveying.{by_id}
use Rattle.history_check_objects.proofs.order.Survey.new.Given as goal

-- the ids so far are to come
abbrev pub invariant-loop-id : goal.invariant-loop-id
invariant-loop-id l = (id : ObjectId) → sets.contains by_id l.unmet id ≡ is_one_of (take l.id-index l.id-items) (id_of id)
