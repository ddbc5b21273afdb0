use Rattle.std.proofs.Common.{◌≡◌, ℕ, ◌+◌, ◌≤◌, length, drop, arith, sym, subst}
use Rattle.gix_traverse_topo.specs.Nodes.{all_facts, counts, hidden_in}
use Rattle.gix_traverse_topo.specs.Turns.{total}
use Rattle.gix_traverse_topo.specs.Waiting.{waiting}
use Rattle.gix_traverse_topo.proofs.Flagged.{first_same, hidden_same}
use Rattle.gix_traverse_topo.proofs.Updates.{off_freed, off_counted, off_falls, joined_length}
use Rattle.gix_traverse_topo.proofs.iter.count_off.Goals as goal

pub returns-in_ok-push-clause-counted : goal.returns-in_ok-push-clause-counted
returns-in_ok-push-clause-counted c =
    let (count, at, set_is, last) = c.in_ok-take_name.ensures.taken in
    off_freed (hidden_in c.args.known.now.nodes.items) c.args.known.now.ids.keys (all_facts c.args.known.now.nodes.items) (all_facts c.take_name.new.nodes.items) (counts c.args.known.now.nodes.items) (counts c.take_name.new.nodes.items) c.args.ready.now c.push.new.self c.args.id.now c.in-Some.number count c.in_ok-take_name.field-0 c.pending.result c.in_ok-pending.pending
    c.if-branch.true c.in-Some.ensures.found.0 c.in-Some.ensures.found.1 at set_is last c.in_ok-take_name.ensures.all_facts c.in_ok-pending.ensures.ok_part c.pending.ensures.pending c.in_ok-push.ensures

pub returns-in_ok-push-clause-falls : goal.returns-in_ok-push-clause-falls
returns-in_ok-push-clause-falls c =
    let (count, at, set_is, last) = c.in_ok-take_name.ensures.taken in
    let less : total (λ k. k) (drop (hidden_in c.args.known.now.nodes.items) (counts c.take_name.new.nodes.items)) + 1 ≡ total (λ k. k) (drop (hidden_in c.args.known.now.nodes.items) (counts c.args.known.now.nodes.items)) = off_falls (hidden_in c.args.known.now.nodes.items) (counts c.args.known.now.nodes.items) (counts c.take_name.new.nodes.items) c.in-Some.number.0 count c.in-Some.ensures.found.0 at set_is in
    let more : length (waiting c.push.new.self) ≡ length (waiting c.args.ready.now) + 1 = joined_length c.args.ready.now c.push.new.self c.in_ok-pending.pending c.in_ok-push.ensures in
    let all : total (λ k. k) (drop (hidden_in c.args.known.now.nodes.items) (counts c.take_name.new.nodes.items)) + length (waiting c.push.new.self) ≤ total (λ k. k) (drop (hidden_in c.args.known.now.nodes.items) (counts c.args.known.now.nodes.items)) + length (waiting c.args.ready.now) = omega (arith, less, more) in
    let same = hidden_same c.args.known.now.nodes.items c.take_name.new.nodes.items c.take_name.ensures.flags in
    subst (λ (low : ℕ). total (λ k. k) (drop low (counts c.take_name.new.nodes.items)) + length (waiting c.push.new.self) ≤ total (λ k. k) (drop (hidden_in c.args.known.now.nodes.items) (counts c.args.known.now.nodes.items)) + length (waiting c.args.ready.now)) (sym same) all

pub returns-else-branch-clause-counted : goal.returns-else-branch-clause-counted
returns-else-branch-clause-counted c =
    let (count, at, set_is, last) = c.in_ok-take_name.ensures.taken in
    off_counted (hidden_in c.args.known.now.nodes.items) c.args.known.now.ids.keys (all_facts c.args.known.now.nodes.items) (counts c.args.known.now.nodes.items) (counts c.take_name.new.nodes.items) c.args.ready.now c.args.id.now c.in-Some.number count c.in_ok-take_name.field-0
    c.if-branch.false c.in-Some.ensures.found.0 c.in-Some.ensures.found.1 at set_is last

pub returns-else-branch-clause-falls : goal.returns-else-branch-clause-falls
returns-else-branch-clause-falls c =
    let (count, at, set_is, last) = c.in_ok-take_name.ensures.taken in
    let less : total (λ k. k) (drop (hidden_in c.args.known.now.nodes.items) (counts c.take_name.new.nodes.items)) + 1 ≡ total (λ k. k) (drop (hidden_in c.args.known.now.nodes.items) (counts c.args.known.now.nodes.items)) = off_falls (hidden_in c.args.known.now.nodes.items) (counts c.args.known.now.nodes.items) (counts c.take_name.new.nodes.items) c.in-Some.number.0 count c.in-Some.ensures.found.0 at set_is in
    let all : total (λ k. k) (drop (hidden_in c.args.known.now.nodes.items) (counts c.take_name.new.nodes.items)) + length (waiting c.args.ready.now) ≤ total (λ k. k) (drop (hidden_in c.args.known.now.nodes.items) (counts c.args.known.now.nodes.items)) + length (waiting c.args.ready.now) = omega (arith, less) in
    let same = hidden_same c.args.known.now.nodes.items c.take_name.new.nodes.items c.take_name.ensures.flags in
    subst (λ (low : ℕ). total (λ k. k) (drop low (counts c.take_name.new.nodes.items)) + length (waiting c.args.ready.now) ≤ total (λ k. k) (drop (hidden_in c.args.known.now.nodes.items) (counts c.args.known.now.nodes.items)) + length (waiting c.args.ready.now)) (sym same) all

pub invariant_of-known : goal.invariant_of-known
invariant_of-known c = record { hidden_first = first_same c.args.known.now.nodes.items c.take_name.new.nodes.items c.take_name.ensures.flags c.args.known.now.hidden_first }
