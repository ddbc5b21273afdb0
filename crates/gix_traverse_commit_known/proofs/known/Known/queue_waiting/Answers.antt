use Rattle.std.proofs.Common.{◌≡◌, ◌∙◌, List, ◌++◌, sym, ap, subst}
use Rattle.gix_traverse_commit_known.specs.Known.{HaveNodes}
use Rattle.gix_traverse_commit_known.specs.Waiting.{numbers_of, pendings, queued_by}
use Rattle.gix_traverse_commit_known.specs.declared.nodes.Number.{Number}
use Rattle.gix_traverse_commit_known.specs.declared.waiting.Pending.{Pending}
use Rattle.gix_traverse_commit_known.proofs.KnownLemmas.{have_both, have_none, have_queued}
use Rattle.gix_traverse_commit_known.proofs.known.Known.queue_waiting.Goals as goal

pub invariant_of-self-in_default : goal.invariant_of-self-in_default
invariant_of-self-in_default c =
    let nodes = c.self.inside.nodes in
    let queue : List Number = c.self.inside.queue.items in
    let waiting : List Pending = pendings c.self.inside.waiting in
    let numbers : List Number = numbers_of (queued_by c.self.inside.waiting) in
    let all : c.push_all.new.queue.items ≡ queue ++ numbers = c.in_default.ensures ∙ ap (λ (ns : List Number). queue ++ ns) (c.as_slice.ensures.value ∙ c.in_ok-numbers.ensures.queued) in
    record {
      queued = subst (HaveNodes nodes) (sym all) (have_both nodes queue numbers c.self.invariant.queued (have_queued nodes waiting c.self.inside.waiting.order.items c.self.invariant.wait));
      wait = subst (λ (ps : List Pending). HaveNodes nodes (numbers_of ps)) (sym c.in_ok-numbers.ensures.emptied) (have_none nodes);
    }
