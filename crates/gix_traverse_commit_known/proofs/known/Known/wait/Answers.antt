use Rattle.std.proofs.Common.{true, ◌≡◌, ◌∙◌, List, [], ◌∷◌, map, sym, ap, subst}
use Rattle.gix_traverse_commit_known.specs.Known.{HaveNodes, KnownCommits, ids_at, turn_at, turns_of}
use Rattle.gix_traverse_commit_known.specs.Queueing.{QueuesBehind}
use Rattle.gix_traverse_commit_known.proofs.Queueing.{queues_one}
use Rattle.gix_traverse_commit_known.specs.Nodes.{ids_of}
use Rattle.gix_traverse_graph.specs.Order.{At}
use Rattle.gix_traverse_commit_known.specs.Timely.{Joins}
use Rattle.gix_traverse_commit_known.specs.Waiting.{numbers_of, pendings}
use Rattle.gix_traverse_commit_known.specs.declared.nodes.Number.{Number}
use Rattle.gix_traverse_commit_known.specs.declared.waiting.Pending.{Pending}
use Rattle.gix_traverse_commit_known.specs.declared.waiting.Turn.{Turn}
use Rattle.gix_traverse_commit_known.proofs.KnownLemmas.{have_joined, have_kept, id_from_at, ids_kept, keeps_named, turns_join, turns_kept, turns_once}
use Rattle.gix_traverse_commit_known.proofs.Timely.{same_turn}
use Rattle.gix_traverse_commit_known.specs.Ending.{times_in, times_waiting}
use Rattle.std.proofs.Common.{◌≤◌, ◌+◌}
use Rattle.gix_traverse_commit_known.proofs.known.Known.wait.Goals as goal

pub invariant_of-self-in_err-put : goal.invariant_of-self-in_err-put
invariant_of-self-in_err-put c =
    let up = keeps_named c.self.inside.nodes c.mark.new.self c.args.turn.id c.in_ok-number.ensures.named in
    record {
      queued = have_kept c.self.inside.nodes c.mark.new.self c.self.inside.queue.items c.self.invariant.queued up;
      wait = subst (λ (ps : List Pending). HaveNodes c.mark.new.self (numbers_of ps)) (sym c.in_err-put.ensures.failed) (have_kept c.self.inside.nodes c.mark.new.self (numbers_of (pendings c.self.inside.waiting)) c.self.invariant.wait up);
    }

pub invariant_of-self-2 : goal.invariant_of-self-2
invariant_of-self-2 c =
    let up = keeps_named c.self.inside.nodes c.mark.new.self c.args.turn.id c.in_ok-number.ensures.named in
    let old : List Pending = pendings c.self.inside.waiting in
    let here = subst (λ (m : Number). At (ids_of c.mark.new.self) m.0 c.args.turn.id) (sym c.numbered.ensures.number) c.in_ok-number.ensures.numbered in
    record {
      queued = have_kept c.self.inside.nodes c.mark.new.self c.self.inside.queue.items c.self.invariant.queued up;
      wait = have_joined c.mark.new.self old (pendings c.put.new.self) c.numbered.result c.args.turn.id c.in_ok-put.ensures.joins (have_kept c.self.inside.nodes c.mark.new.self (numbers_of old) c.self.invariant.wait up) here;
    }

pub returns-clause-queue : goal.returns-clause-queue
returns-clause-queue c =
    let up = keeps_named c.self.inside.nodes c.mark.new.self c.args.turn.id c.in_ok-number.ensures.named in
    ids_kept c.self.inside.nodes c.mark.new.self c.self.inside.queue.items c.self.invariant.queued up ∙ ap (λ (k : KnownCommits). k.queue) c.self.view_is

pub returns-clause-joins : goal.returns-clause-joins
returns-clause-joins c =
    let nodes = c.mark.new.self in
    let up = keeps_named c.self.inside.nodes nodes c.args.turn.id c.in_ok-number.ensures.named in
    let old : List Pending = pendings c.self.inside.waiting in
    let new : List Pending = pendings c.put.new.self in
    let before : map (turn_at nodes) old ≡ turns_of c.args.self.now = turns_kept c.self.inside.nodes nodes old c.self.invariant.wait up ∙ ap turns_of c.self.view_is in
    let same : turn_at nodes c.numbered.result ≡ c.args.turn = same_turn (turn_at nodes c.numbered.result) c.args.turn c.numbered.ensures.time (id_from_at nodes c.numbered.result.number c.args.turn.id (subst (λ (m : Number). At (ids_of nodes) m.0 c.args.turn.id) (sym c.numbered.ensures.number) c.in_ok-number.ensures.numbered)) in
    subst (λ (ts : List Turn). Joins true ts c.args.turn (map (turn_at nodes) new)) before (turns_join (turn_at nodes) old new c.numbered.result c.args.turn c.in_ok-put.ensures.joins same)

pub returns-clause-once : goal.returns-clause-once
returns-clause-once c =
    let nodes = c.mark.new.self in
    let up = keeps_named c.self.inside.nodes nodes c.args.turn.id c.in_ok-number.ensures.named in
    let old : List Pending = pendings c.self.inside.waiting in
    let new : List Pending = pendings c.put.new.self in
    let before : map (turn_at nodes) old ≡ turns_of c.args.self.now = turns_kept c.self.inside.nodes nodes old c.self.invariant.wait up ∙ ap turns_of c.self.view_is in
    let same : turn_at nodes c.numbered.result ≡ c.args.turn = same_turn (turn_at nodes c.numbered.result) c.args.turn c.numbered.ensures.time (id_from_at nodes c.numbered.result.number c.args.turn.id (subst (λ (m : Number). At (ids_of nodes) m.0 c.args.turn.id) (sym c.numbered.ensures.number) c.in_ok-number.ensures.numbered)) in
    λ id. subst (λ (ts : List Turn). times_waiting (map (turn_at nodes) new) id ≤ times_waiting ts id + times_in (c.args.turn.id ∷ []) id) before (turns_once (turn_at nodes) old new c.numbered.result c.args.turn c.in_ok-put.ensures.once same id)

pub returns-clause-behind : goal.returns-clause-behind
returns-clause-behind c =
    let up = keeps_named c.self.inside.nodes c.mark.new.self c.args.turn.id c.in_ok-number.ensures.named in
    let here = subst (λ (m : Number). At (ids_of c.mark.new.self) m.0 c.args.turn.id) (sym c.numbered.ensures.number) c.in_ok-number.ensures.numbered in
    let old : KnownCommits = record { nodes = c.self.inside.nodes; queue = ids_at c.self.inside.nodes c.self.inside.queue.items; pending = pendings c.self.inside.waiting; order = c.self.inside.waiting.order.items } in
    let new : KnownCommits = record { nodes = c.mark.new.self; queue = ids_at c.mark.new.self c.self.inside.queue.items; pending = pendings c.put.new.self; order = c.put.new.self.order.items } in
    subst (λ (k : KnownCommits). QueuesBehind k (c.args.turn.id ∷ []) new) c.self.view_is (queues_one old new c.numbered.result c.args.turn.id c.in_ok-put.ensures.last c.in_ok-put.ensures.joins up here)
