use Rattle.std.proofs.Common.{◌≡◌, ◌⊎◌, ◌++◌, length, true, false}
use Rattle.std.specs.Prelude.{Contains}
use Rattle.gix_hash.specs.declared.object_id.ObjectId.{ObjectId}
use Rattle.gix_traverse_commit_known.specs.Known.{turns_of}
use Rattle.gix_traverse_commit_known.specs.Nodes.{is_hidden, is_met}
use Rattle.gix_traverse_commit_known.proofs.anew.take_all.Given as goal

abbrev pub invariant-queued : goal.invariant-queued
invariant-queued l = record {
  list : l.tips.items ++ l.known.queue ≡ l.fn.tips.items ++ l.fn.known.queue;
  inside : (q : ObjectId) → Contains l.known.queue q → Contains l.fn.known.queue q;
  turns : turns_of l.known ≡ turns_of l.fn.known;
  hidden : (q : ObjectId) → is_hidden l.known.nodes q ≡ is_hidden l.fn.known.nodes q;
  met : (q : ObjectId) → is_met l.known.nodes q ≡ true → (is_met l.fn.known.nodes q ≡ true) × (Contains l.fn.known.queue q → Contains l.known.queue q);
  unmet : (q : ObjectId) → is_met l.known.nodes q ≡ false → (is_met l.fn.known.nodes q ≡ false) ⊎ Contains l.fn.known.queue q;
}

abbrev pub decreases-queued : goal.decreases-queued
decreases-queued l = length l.known.queue
