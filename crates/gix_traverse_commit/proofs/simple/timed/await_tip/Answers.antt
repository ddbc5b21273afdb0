use Rattle.std.proofs.Common.{List, ap, rules, ◌≡◌, ◌∷◌, [], false, true, sym, subst}
use Rattle.std.specs.Prelude.{Contains}
use Rattle.gix_traverse_commit_known.specs.Known.{turns_of}
use Rattle.gix_traverse_commit_known.specs.Nodes.{has, is_hidden, is_met}
use Rattle.gix_traverse_commit_known.specs.Timely.{LetsWait}
use Rattle.gix_traverse_commit_known.specs.declared.nodes.WalkFlags.{WalkFlags}
use Rattle.gix_traverse_commit_known.specs.declared.waiting.Turn.{Turn}
use Rattle.gix_hash.specs.declared.object_id.ObjectId.{ObjectId}
use Rattle.gix_traverse_commit_known.specs.Meeting.{CountsAll, fresh}
use Rattle.gix_traverse_commit_known.proofs.Awaiting.{fresh_alone, hidden_none, met_none}
use Rattle.gix_traverse_commit_known.specs.Told.{rows_of}
use Rattle.gix_traverse_commit_known.proofs.Meeting.{counts_one}
use Rattle.gix_traverse_commit.proofs.Awaited.{awaits_met, awaits_none, waits_out}
use Rattle.gix_traverse_commit_known.specs.declared.nodes.TheConstants.WalkFlags.{UNINTERESTING}
use Rattle.gix_traverse_commit.proofs.simple.timed.await_tip.Goals as goal

pub returns-then-contains-clause-some : goal.returns-then-contains-clause-some
returns-then-contains-clause-some g c = awaits_none c.args.known.now (c.args.id ∷ [])

pub returns-then-not-contains-clause-some : goal.returns-then-not-contains-clause-some
returns-then-not-contains-clause-some g c =
    let m : is_met c.args.known.now.nodes c.args.id ≡ false = search rules in
    let h : is_hidden c.args.known.now.nodes c.args.id ≡ has c.flags-flags.result UNINTERESTING = ap (λ (k : WalkFlags). has k UNINTERESTING) (sym c.flags-flags.ensures) in
    c.in_ok-wait.ensures.some m h

pub returns-clause-some : goal.returns-clause-some
returns-clause-some g c =
    let h : is_hidden c.args.known.now.nodes c.args.id ≡ has c.flags-flags.result UNINTERESTING = ap (λ (k : WalkFlags). has k UNINTERESTING) (sym c.flags-flags.ensures) in
    let met = c.in_ok-mark_met.ensures in
    awaits_met c.args.known.now c.mark_met.new.known c.args.id met.queue met.turns (met.hidden h) met.met met.behind

pub returns-then-contains-clause-awaits : goal.returns-then-contains-clause-awaits
returns-then-contains-clause-awaits g c = λ honest commits told.
    let nodes = c.args.known.now.nodes in
    let m : is_met nodes c.args.id ≡ true = search rules in
    waits_out (g.F.Lookup.may_fail c.args.source.now.objects) c.args.since commits (fresh nodes c.args.id) (turns_of c.args.known.now) (met_none (is_met nodes c.args.id) (is_hidden nodes c.args.id) c.args.id m)

pub returns-then-not-contains-clause-awaits : goal.returns-then-not-contains-clause-awaits
returns-then-not-contains-clause-awaits g c = λ honest commits told.
    let nodes = c.args.known.now.nodes in
    let m : is_met nodes c.args.id ≡ false = search rules in
    let h : is_hidden nodes c.args.id ≡ false = search rules in
    subst (λ (xs : List ObjectId). LetsWait (g.F.Lookup.may_fail c.args.source.now.objects) c.args.since commits (Contains xs) (turns_of c.args.known.now) (turns_of c.wait.new.known)) (sym (fresh_alone (is_met nodes c.args.id) (is_hidden nodes c.args.id) c.args.id m h)) (c.in_ok-wait.ensures.awaits honest commits told)

pub returns-clause-awaits : goal.returns-clause-awaits
returns-clause-awaits g c = λ honest commits told.
    let nodes = c.args.known.now.nodes in
    let may_fail = g.F.Lookup.may_fail c.args.source.now.objects in
    let turns = turns_of c.args.known.now in
    let h : is_hidden nodes c.args.id ≡ true = search rules in
    let still = waits_out may_fail c.args.since commits (fresh nodes c.args.id) turns (hidden_none (is_met nodes c.args.id) (is_hidden nodes c.args.id) c.args.id h) in
    subst (λ (ts : List Turn). LetsWait may_fail c.args.since commits (Contains (fresh nodes c.args.id)) turns ts) (sym c.in_ok-mark_met.ensures.turns) still

pub returns-then-not-contains-clause-timed : goal.returns-then-not-contains-clause-timed
returns-then-not-contains-clause-timed g c =
    let nodes = c.args.known.now.nodes in
    let rows = rows_of c.args.source.now.rows in
    let before = c.args.source.now.lookups in
    let after = c.wait.new.source.lookups in
    let m : is_met nodes c.args.id ≡ false = search rules in
    let h : is_hidden nodes c.args.id ≡ false = search rules in
    subst (λ (xs : List ObjectId). CountsAll rows xs before after) (sym (fresh_alone (is_met nodes c.args.id) (is_hidden nodes c.args.id) c.args.id m h)) (counts_one rows c.args.id before after c.wait.ensures.one)
