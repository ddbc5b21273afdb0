use Rattle.std.proofs.Common.{◌≡◌, List, [], take, false}
use Rattle.gix_hash.specs.declared.object_id.ObjectId.{ObjectId}
use Rattle.gix_traverse_commit_known.specs.Known.{turns_of}
use Rattle.gix_traverse_commit_known.specs.Meeting.{Asks}
use Rattle.gix_traverse_commit_known.specs.Nodes.{is_asked}
use Rattle.gix_traverse_commit_known.specs.Asked.{AreAsked}
use Rattle.gix_traverse_commit_known.proofs.Meeting.{MeetsOnce}
use Rattle.gix_traverse_commit_known.proofs.meet.ask_tips.Given as goal

abbrev pub invariant-tips : goal.invariant-tips
invariant-tips g l = record {
  accepts : g.P.Accept.accepts l.predicate ≡ g.P.Accept.accepts l.fn.predicate;
  queue : l.known.queue ≡ l.fn.known.queue;
  turns : turns_of l.known ≡ turns_of l.fn.known;
  asked : AreAsked (g.P.Accept.accepts l.fn.predicate) [] l.fn.known.nodes → AreAsked (g.P.Accept.accepts l.fn.predicate) (take l.tip-index l.tips) l.known.nodes;
  once : (xs : List ObjectId) × Asks g.P.Accept.goes xs l.fn.predicate l.predicate × MeetsOnce (is_asked l.fn.known.nodes) (λ _. false) (is_asked l.known.nodes) (take l.tip-index l.tips) xs;
}
