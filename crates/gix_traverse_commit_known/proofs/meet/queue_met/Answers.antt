use Rattle.std.proofs.Common.{◌∙◌, sym}
use Rattle.gix_traverse_commit_known.proofs.Simply.{hidden_same}
use Rattle.gix_traverse_commit_known.proofs.meet.queue_met.Goals as goal

pub returns-clause-hidden : goal.returns-clause-hidden
returns-clause-hidden c = λ same. hidden_same c.args.known.now.nodes c.enqueue.new.self.nodes c.args.id c.as_met.result c.in_ok-enqueue.ensures.marked (c.as_met.ensures.hidden ∙ sym same)
