use Rattle.std.proofs.Common.{◌≡◌, true, take}
use Rattle.std.specs.Prelude.{Contains}
use Rattle.gix_hash.specs.declared.object_id.ObjectId.{ObjectId}
use Rattle.gix_traverse_commit_known.specs.Known.{turns_of}
use Rattle.gix_traverse_commit_known.specs.Nodes.{is_hidden, is_met}
use Rattle.gix_traverse_commit_known.proofs.anew.unpaint.Given as goal

abbrev pub invariant-ids : goal.invariant-ids
invariant-ids l = record {
  queue : l.known.queue ≡ l.fn.known.queue;
  turns : turns_of l.known ≡ turns_of l.fn.known;
  met : (q : ObjectId) → is_met l.known.nodes q ≡ is_met l.fn.known.nodes q;
  left : (q : ObjectId) → is_hidden l.known.nodes q ≡ true → (is_hidden l.fn.known.nodes q ≡ true) × (Contains (take l.id-index l.id-items) q → ⊥);
}
