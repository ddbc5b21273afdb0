use Rattle.std.proofs.Common.{◌∙◌, ap, refl, subst, []}
use Rattle.gix_traverse_commit_known.specs.Known.{KnownCommits, ids_at, turns_of}
use Rattle.gix_traverse_commit_known.specs.Queueing.{QueuesBehind}
use Rattle.gix_traverse_commit_known.proofs.Queueing.{queues_none}
use Rattle.gix_traverse_commit_known.specs.Waiting.{numbers_of, pendings}
use Rattle.gix_traverse_commit_known.proofs.KnownLemmas.{have_kept, ids_kept, keeps_named, turns_kept}
use Rattle.gix_traverse_commit_known.proofs.known.Known.mark.Goals as goal

pub invariant_of-self-2 : goal.invariant_of-self-2
invariant_of-self-2 c =
    let up = keeps_named c.self.inside.nodes c.mark.new.self c.args.id c.in_ok-mark.ensures.named in
    record {
      queued = have_kept c.self.inside.nodes c.mark.new.self c.self.inside.queue.items c.self.invariant.queued up;
      wait = have_kept c.self.inside.nodes c.mark.new.self (numbers_of (pendings c.self.inside.waiting)) c.self.invariant.wait up;
    }

pub returns-clause-queue : goal.returns-clause-queue
returns-clause-queue c =
    let up = keeps_named c.self.inside.nodes c.mark.new.self c.args.id c.in_ok-mark.ensures.named in
    ids_kept c.self.inside.nodes c.mark.new.self c.self.inside.queue.items c.self.invariant.queued up ∙ ap (λ (k : KnownCommits). k.queue) c.self.view_is

pub returns-clause-turns : goal.returns-clause-turns
returns-clause-turns c =
    let up = keeps_named c.self.inside.nodes c.mark.new.self c.args.id c.in_ok-mark.ensures.named in
    turns_kept c.self.inside.nodes c.mark.new.self (pendings c.self.inside.waiting) c.self.invariant.wait up ∙ ap turns_of c.self.view_is

pub returns-clause-behind : goal.returns-clause-behind
returns-clause-behind c =
    let up = keeps_named c.self.inside.nodes c.mark.new.self c.args.id c.in_ok-mark.ensures.named in
    let old : KnownCommits = record { nodes = c.self.inside.nodes; queue = ids_at c.self.inside.nodes c.self.inside.queue.items; pending = pendings c.self.inside.waiting; order = c.self.inside.waiting.order.items } in
    let new : KnownCommits = record { nodes = c.mark.new.self; queue = ids_at c.mark.new.self c.self.inside.queue.items; pending = pendings c.self.inside.waiting; order = c.self.inside.waiting.order.items } in
    subst (λ (k : KnownCommits). QueuesBehind k [] new) c.self.view_is (queues_none old new refl refl up)
