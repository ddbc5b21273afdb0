use Rattle.std.proofs.Common.{◌≡◌, List, Bool, true, false, take}
use Rattle.std.specs.Prelude.{Contains, not}
use Rattle.gix_hash.specs.declared.object_id.ObjectId.{ObjectId}
use Rattle.gix_traverse_commit_known.specs.Known.{turns_of}
use Rattle.gix_traverse_commit_known.specs.Ending.{NoneGains, times_in}
use Rattle.gix_traverse_commit_known.specs.Keeping.{Kept}
use Rattle.gix_traverse_commit_known.specs.Meeting.{MarksAll}
use Rattle.gix_traverse_commit_known.specs.Nodes.{is_hidden, is_met}
use Rattle.gix_traverse_graph.specs.Rows.{AllHeld}
use Rattle.gix_traverse_graph.specs.declared.rows.Row.{Row}
use Rattle.gix_traverse_commit_known.proofs.meet.queue_tips.Given as goal

abbrev pub invariant-tips : goal.invariant-tips
invariant-tips l = record {
  turns : turns_of l.known ≡ turns_of l.fn.known;
  hidden : (q : ObjectId) → is_hidden l.known.nodes q ≡ is_hidden l.fn.known.nodes q;
  grown : (q : ObjectId) → is_met l.fn.known.nodes q ≡ true → is_met l.known.nodes q ≡ true;
  left : NoneGains l.fn.known.nodes (times_in l.fn.known.queue) l.known.nodes (times_in l.known.queue);
  met : MarksAll l.fn.known.nodes (take l.tip-index l.tips) l.known.nodes;
  rowed : (rows : List Row) → AllHeld rows l.fn.known.queue → AllHeld rows l.tips → AllHeld rows l.known.queue;
  walked : (along : ObjectId → List ObjectId) (keep : ObjectId → Bool)
      → ((x : ObjectId) → Contains l.tips x → is_met l.fn.known.nodes x ≡ false → keep x ≡ not (is_hidden l.fn.known.nodes x))
      → Kept along l.tips keep (is_met l.fn.known.nodes) l.fn.known.queue 0 0
      → Kept along l.tips keep (is_met l.known.nodes) l.known.queue 0 l.tip-index;
}
