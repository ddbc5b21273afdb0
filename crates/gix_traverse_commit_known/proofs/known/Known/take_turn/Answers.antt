use Rattle.std.proofs.Common.{◌≡◌, ◌∙◌, List, map, sym, subst}
use Rattle.gix_traverse_commit_known.specs.Known.{KnownCommits, turn_at, turns_of}
use Rattle.gix_traverse_commit_known.specs.Timely.{IsTaken}
use Rattle.gix_traverse_commit_known.specs.Waiting.{pendings}
use Rattle.gix_traverse_commit_known.specs.declared.waiting.Pending.{Pending}
use Rattle.gix_traverse_commit_known.proofs.KnownLemmas.{first_among, have_among, id_from_at, none_lacking, turn_taken}
use Rattle.gix_traverse_commit_known.proofs.Timely.{same_turn}
use Rattle.gix_traverse_commit_known.proofs.known.Known.take_turn.Goals as goal

pub invariant_of-self-in_err-id : goal.invariant_of-self-in_err-id
invariant_of-self-in_err-id c = absurd (none_lacking c.self.inside.nodes c.args.order (pendings c.self.inside.waiting) (pendings c.take.new.self) c.in_ok-pending.pending c.self.invariant.wait c.in_ok-pending.ensures.taken c.in_err-id.ensures.id)

pub returns-in_err-id-clause-none : goal.returns-in_err-id-clause-none
returns-in_err-id-clause-none c = absurd (none_lacking c.self.inside.nodes c.args.order (pendings c.self.inside.waiting) (pendings c.take.new.self) c.in_ok-pending.pending c.self.invariant.wait c.in_ok-pending.ensures.taken c.in_err-id.ensures.id)

pub returns-in_err-id-clause-emptied : goal.returns-in_err-id-clause-emptied
returns-in_err-id-clause-emptied c = absurd (none_lacking c.self.inside.nodes c.args.order (pendings c.self.inside.waiting) (pendings c.take.new.self) c.in_ok-pending.pending c.self.invariant.wait c.in_ok-pending.ensures.taken c.in_err-id.ensures.id)

pub invariant_of-self-2 : goal.invariant_of-self-2
invariant_of-self-2 c = record {
  queued = c.self.invariant.queued;
  wait = have_among c.self.inside.nodes (pendings c.self.inside.waiting) (pendings c.take.new.self) (first_among c.args.order (pendings c.self.inside.waiting) (pendings c.take.new.self) c.in_ok-pending.pending c.in_ok-pending.ensures.taken).1 c.self.invariant.wait;
}

pub returns-clause-taken : goal.returns-clause-taken
returns-clause-taken c =
    let nodes = c.self.inside.nodes in
    let pending : Pending = c.in_ok-pending.pending in
    let old : List Pending = pendings c.self.inside.waiting in
    let new : List Pending = pendings c.take.new.self in
    let same : turn_at nodes pending ≡ c.named.result = same_turn (turn_at nodes pending) c.named.result (sym c.named.ensures.time) (id_from_at nodes pending.number c.in_ok-id.id (sym c.in_ok-id.ensures.id) ∙ sym c.named.ensures.id) in
    subst (λ (k : KnownCommits). IsTaken c.args.order (turns_of k) c.named.result (map (turn_at nodes) new)) c.self.view_is
    (turn_taken nodes c.args.order old new pending c.named.result c.self.invariant.wait c.id.ensures.once c.in_ok-pending.ensures.taken same)
