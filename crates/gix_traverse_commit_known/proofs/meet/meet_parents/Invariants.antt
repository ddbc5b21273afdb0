use Rattle.std.proofs.Common.{take, ◌≡◌, List, ◌++◌, length, Bool, true, false}
use Rattle.std.specs.Prelude.{not, ◌&&◌}
use Rattle.gix_hash.specs.Id.{id_of}
use Rattle.gix_hash.specs.declared.object_id.ObjectId.{ObjectId}
use Rattle.gix_traverse_commit_known.specs.Known.{turns_of}
use Rattle.gix_traverse_commit_known.specs.Ending.{NoneGains, times_in}
use Rattle.gix_traverse_commit_known.specs.Keeping.{Kept}
use Rattle.gix_traverse_commit_known.specs.Meeting.{Asks, MarksMet}
use Rattle.gix_traverse_commit_known.specs.Nodes.{is_hidden, is_met}
use Rattle.gix_traverse_graph.specs.Standing.{Reads}
use Rattle.gix_traverse_graph.specs.Rows.{AllHeld}
use Rattle.gix_traverse_graph.specs.declared.rows.Row.{Row}
use Rattle.gix_traverse_commit_known.proofs.Meeting.{MeetsOnce}
use Rattle.gix_traverse_commit_known.proofs.meet.meet_parents.Given as goal

abbrev pub invariant-parents : goal.invariant-parents
invariant-parents g l = record {
  accepts : g.P.Accept.accepts l.predicate ≡ g.P.Accept.accepts l.fn.predicate;
  turns : turns_of l.known ≡ turns_of l.fn.known;
  hidden : (q : ObjectId) → is_hidden l.known.nodes q ≡ is_hidden l.fn.known.nodes q;
  grown : (q : ObjectId) → is_met l.fn.known.nodes q ≡ true → is_met l.known.nodes q ≡ true;
  left : NoneGains l.fn.known.nodes (times_in l.fn.known.queue) l.known.nodes (times_in l.known.queue);
  rowed : (rows : List Row) → AllHeld rows l.fn.known.queue → AllHeld rows l.parents → AllHeld rows l.known.queue;
  walked : (along : ObjectId → List ObjectId) (keep : ObjectId → Bool) (tips listed : List ObjectId) (id : ObjectId)
      → ((x : ObjectId) → is_met l.fn.known.nodes x ≡ false → keep x ≡ (not (is_hidden l.fn.known.nodes x) && g.P.Accept.accepts l.fn.predicate (id_of x)))
      → l.parents ≡ along id
      → Kept along tips keep (is_met l.fn.known.nodes) (listed ++ l.fn.known.queue) (length listed) 0
      → Reads (listed ++ l.fn.known.queue) (length listed) id
      → Kept along tips keep (is_met l.known.nodes) (listed ++ l.known.queue) (length listed) l.parent-index × Reads (listed ++ l.known.queue) (length listed) id;
  flags : MarksMet l.fn.known.nodes (take l.parent-index l.parents) l.known.nodes;
  once : (xs : List ObjectId) × Asks g.P.Accept.goes xs l.fn.predicate l.predicate × MeetsOnce (is_met l.fn.known.nodes) (is_hidden l.fn.known.nodes) (is_met l.known.nodes) (take l.parent-index l.parents) xs;
}
