use Rattle.std.proofs.Common.{ℕ, sym, ap, subst, length}
use Rattle.gix_traverse_graph.specs.Order.{At}
use Rattle.gix_traverse_commit_known.proofs.NodeLemmas.{taken_more}
use Rattle.gix_traverse_commit_known.proofs.nodes.all_ids.Goals as goal

pub ids-preserved : goal.ids-preserved
ids-preserved c = taken_more c.args.ids.now.keys c.ids.all.items c.push.new.self.items c.in-Some.id.now c.ids.invariant (subst (λ (n : ℕ). At c.args.ids.now.keys n c.in-Some.id.now) (ap length c.as_slice.ensures.value) (sym c.in-Some.ensures.key)) c.in_ok-push.ensures.items
