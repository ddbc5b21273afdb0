use Rattle.std.proofs.Common.{rules, ◌≡◌, ◌∙◌, ap, sym, subst, List, ℤ, true, false}
use mir.Syntax.{w64}
use mir.Val.{of_z, to_z}
use Rattle.gix_hash.specs.declared.object_id.ObjectId.{ObjectId}
use Rattle.gix_traverse_graph.specs.Sorting.{in_time}
use Rattle.gix_traverse_commit_known.specs.Timely.{Joins}
use Rattle.gix_traverse_commit_known.specs.Known.{turns_of}
use Rattle.gix_traverse_commit_known.specs.declared.waiting.Turn.{Turn}
use Rattle.gix_traverse_commit_known.proofs.Awaiting.{waits_one}
use Rattle.gix_traverse_commit_known.proofs.Timely.{joins_none, joins_same}
use Rattle.gix_traverse_commit.proofs.Awaited.{awaits_met, awaits_one}
use Rattle.gix_traverse_commit.proofs.simple.timed.wait.Goals as goal

abbrev turn : ℤ → ObjectId → Turn
turn time id = record { time = time; id = id }

pub returns-then-not-is_in_time-clause-some : goal.returns-then-not-is_in_time-clause-some
returns-then-not-is_in_time-clause-some g c = λ unmet same.
    let met = c.in_ok-mark_met.ensures in
    awaits_met c.args.known.now c.mark_met.new.known c.args.id met.queue met.turns (met.hidden same) met.met met.behind

pub returns-clause-some : goal.returns-clause-some
returns-clause-some g c = λ unmet same.
    let waits = c.in_ok-wait.ensures in
    awaits_one c.args.known.now c.wait.new.self (to_z w64 (of_z w64 c.in_ok-time.time)) c.args.id c.as_met.result waits.marked c.as_met.ensures.met (same ∙ sym c.as_met.ensures.hidden) unmet waits.queue waits.joins waits.once waits.behind

pub returns-then-not-is_in_time-clause-awaits : goal.returns-then-not-is_in_time-clause-awaits
returns-then-not-is_in_time-clause-awaits g c = λ honest commits told.
    let time : ℤ = c.in_ok-time.time in
    let turns = turns_of c.args.known.now in
    let late : in_time c.args.since time ≡ false = search rules in
    waits_one (g.F.Lookup.may_fail c.args.source.now.objects) c.args.since commits c.args.id time turns (turns_of c.mark_met.new.known) (c.in_ok-time.ensures.counted_as honest commits told)
    (subst (λ (ts : List Turn). Joins (in_time c.args.since time) turns (turn time c.args.id) ts) (sym c.in_ok-mark_met.ensures.turns) (joins_none (in_time c.args.since time) turns (turn time c.args.id) late))

pub returns-clause-awaits : goal.returns-clause-awaits
returns-clause-awaits g c = λ honest commits told.
    let time : ℤ = c.in_ok-time.time in
    let turns = turns_of c.args.known.now in
    let so : in_time c.args.since time ≡ true = search rules in
    let same : to_z w64 (of_z w64 time) ≡ time = search rules in
    waits_one (g.F.Lookup.may_fail c.args.source.now.objects) c.args.since commits c.args.id time turns (turns_of c.wait.new.self) (c.in_ok-time.ensures.counted_as honest commits told)
    (joins_same true (in_time c.args.since time) turns (turn (to_z w64 (of_z w64 time)) c.args.id) (turn time c.args.id) (turns_of c.wait.new.self) (sym so) (ap (λ (n : ℤ). turn n c.args.id) same) c.in_ok-wait.ensures.joins)
