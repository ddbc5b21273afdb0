use Rattle.std.proofs.Common.{List, [], ◌∷◌, ap, rules, ◌≡◌, true, false, sym, subst}
use Rattle.std.specs.Prelude.{Contains}
use Rattle.gix_hash.specs.Id.{id_of}
use Rattle.gix_traverse_commit_known.specs.Known.{turns_of}
use Rattle.gix_traverse_commit_known.specs.Nodes.{has, is_hidden, is_met}
use Rattle.gix_traverse_commit_known.specs.Timely.{LetsWait}
use Rattle.gix_traverse_commit_known.specs.declared.nodes.WalkFlags.{WalkFlags}
use Rattle.gix_traverse_commit_known.specs.declared.waiting.Turn.{Turn}
use Rattle.gix_hash.specs.declared.object_id.ObjectId.{ObjectId}
use Rattle.gix_traverse_commit_known.specs.Meeting.{accepted, fresh}
use Rattle.gix_traverse_commit_known.proofs.Awaiting.{fresh_accepted, hidden_out, met_out, refused_out}
use Rattle.gix_traverse_commit.proofs.Awaited.{awaits_met, awaits_none, waits_out}
use Rattle.gix_traverse_commit_known.specs.declared.nodes.TheConstants.WalkFlags.{UNINTERESTING}
use Rattle.gix_traverse_commit.proofs.simple.timed.await_parent.Goals as goal

pub returns-then-contains-clause-some : goal.returns-then-contains-clause-some
returns-then-contains-clause-some g c = awaits_none c.args.known.now (c.args.id ∷ [])

pub returns-then-contains-2-clause-some : goal.returns-then-contains-2-clause-some
returns-then-contains-2-clause-some g c = awaits_none c.args.known.now (c.args.id ∷ [])

pub returns-then-accept-clause-some : goal.returns-then-accept-clause-some
returns-then-accept-clause-some g c =
    let m : is_met c.args.known.now.nodes c.args.id ≡ false = search rules in
    let h : is_hidden c.args.known.now.nodes c.args.id ≡ has c.flags-flags.result UNINTERESTING = ap (λ (k : WalkFlags). has k UNINTERESTING) (sym c.flags-flags.ensures) in
    c.in_ok-wait.ensures.some m h

pub returns-clause-some : goal.returns-clause-some
returns-clause-some g c =
    let h : is_hidden c.args.known.now.nodes c.args.id ≡ has c.flags-flags.result UNINTERESTING = ap (λ (k : WalkFlags). has k UNINTERESTING) (sym c.flags-flags.ensures) in
    let met = c.in_ok-mark_met.ensures in
    awaits_met c.args.known.now c.mark_met.new.known c.args.id met.queue met.turns (met.hidden h) met.met met.behind

pub returns-then-contains-clause-awaits : goal.returns-then-contains-clause-awaits
returns-then-contains-clause-awaits g c = λ honest commits told.
    let nodes = c.args.known.now.nodes in
    let h : is_hidden nodes c.args.id ≡ true = search rules in
    waits_out (g.F.Lookup.may_fail c.args.source.now.objects) c.args.since commits (accepted (g.P.Accept.accepts c.args.predicate.now) (fresh nodes c.args.id)) (turns_of c.args.known.now) (hidden_out (g.P.Accept.accepts c.args.predicate.now) (is_met nodes c.args.id) (is_hidden nodes c.args.id) c.args.id h)

pub returns-then-contains-2-clause-awaits : goal.returns-then-contains-2-clause-awaits
returns-then-contains-2-clause-awaits g c = λ honest commits told.
    let nodes = c.args.known.now.nodes in
    let m : is_met nodes c.args.id ≡ true = search rules in
    waits_out (g.F.Lookup.may_fail c.args.source.now.objects) c.args.since commits (accepted (g.P.Accept.accepts c.args.predicate.now) (fresh nodes c.args.id)) (turns_of c.args.known.now) (met_out (g.P.Accept.accepts c.args.predicate.now) (is_met nodes c.args.id) (is_hidden nodes c.args.id) c.args.id m)

pub returns-then-accept-clause-awaits : goal.returns-then-accept-clause-awaits
returns-then-accept-clause-awaits g c = λ honest commits told.
    let accepts = g.P.Accept.accepts c.args.predicate.now in
    let nodes = c.args.known.now.nodes in
    let m : is_met nodes c.args.id ≡ false = search rules in
    let h : is_hidden nodes c.args.id ≡ false = search rules in
    let a : accepts (id_of c.args.id) ≡ true = search rules in
    subst (λ (xs : List ObjectId). LetsWait (g.F.Lookup.may_fail c.args.source.now.objects) c.args.since commits (Contains xs) (turns_of c.args.known.now) (turns_of c.wait.new.known)) (sym (fresh_accepted accepts (is_met nodes c.args.id) (is_hidden nodes c.args.id) c.args.id m h a)) (c.in_ok-wait.ensures.awaits honest commits told)

pub returns-clause-awaits : goal.returns-clause-awaits
returns-clause-awaits g c = λ honest commits told.
    let accepts = g.P.Accept.accepts c.args.predicate.now in
    let nodes = c.args.known.now.nodes in
    let may_fail = g.F.Lookup.may_fail c.args.source.now.objects in
    let turns = turns_of c.args.known.now in
    let a : accepts (id_of c.args.id) ≡ false = search rules in
    let still = waits_out may_fail c.args.since commits (accepted (g.P.Accept.accepts c.args.predicate.now) (fresh nodes c.args.id)) turns (refused_out accepts (is_met nodes c.args.id) (is_hidden nodes c.args.id) c.args.id a) in
    subst (λ (ts : List Turn). LetsWait may_fail c.args.since commits (Contains (accepted accepts (fresh nodes c.args.id))) turns ts) (sym c.in_ok-mark_met.ensures.turns) still
