use Rattle.std.proofs.Common.{ap, ◌∙◌}
use Rattle.gix_traverse_commit_known.specs.Nodes.{has}
use Rattle.gix_traverse_commit_known.specs.declared.nodes.WalkFlags.{WalkFlags}
use Rattle.gix_traverse_commit_known.proofs.Simply.{asked_now}
use Rattle.gix_traverse_commit_known.specs.declared.nodes.TheConstants.WalkFlags.{UNINTERESTING}
use Rattle.gix_traverse_commit_known.proofs.meet.ask_tip.Goals as goal

pub returns-clause-asked : goal.returns-clause-asked
returns-clause-asked g c = λ tips w.
    asked_now (g.P.Accept.accepts c.args.predicate.now) tips c.args.known.now.nodes c.mark.new.self.nodes c.args.tip c.accept-accepted.result c.after_asking.result w
    (c.accept-accepted.ensures.told ∙ ap (g.P.Accept.accepts c.args.predicate.now) c.as_oid.ensures) c.after_asking.ensures.asked c.after_asking.ensures.met (c.after_asking.ensures.hidden ∙ ap (λ (k : WalkFlags). has k UNINTERESTING) c.flags-flags.ensures) c.in_ok-mark.ensures.marked
