use Rattle.std.proofs.Common.{◌≡◌, List, [], ◌∷◌, ◌++◌, append-nil, append_assoc, refl, sym, ◌∙◌, ap, subst, true, false, arith}
use Rattle.gix_hash.specs.declared.object_id.ObjectId.{ObjectId}
use Rattle.gix_hash.specs.Id.{id_of}
use Rattle.gix_traverse_graph.specs.Commits.{Commits}
use Rattle.gix_traverse_graph.specs.declared.parents.Parents.{Parents}
use Rattle.gix_traverse_graph.specs.declared.rows.Row.{Row}
use Rattle.gix_traverse_commit_known.proofs.Meeting.{asks_more}
use Rattle.gix_traverse_topo.specs.Giving.{AsksEach}
use Rattle.gix_traverse_topo.specs.Standing.{Standing, Stands, Steps, IsInfo, IsTurnOf}
use Rattle.gix_traverse_topo.specs.declared.init.Sorting.{Sorting}
use Rattle.gix_traverse_topo.specs.declared.known.Known.{Known}
use Rattle.gix_traverse_topo.specs.declared.ready.Ready.{Ready}
use Rattle.gix_traverse_topo.proofs.Giving.{gives_next, progress}
use Rattle.gix_traverse_topo.proofs.Turning.{stands_yes, stands_no, answers, turn_fault}
use Rattle.gix_traverse_graph.specs.declared.info.Info.{Info}
use Rattle.gix_traverse_topo.proofs.iter.TopoIterator.next.Goals as goal

-- one more commit is finished
finished_more : (parents parents' : Parents) (known known' known'' : Known) (ready ready' ready'' : Ready) (passed : List ObjectId) (info : Info) → parents' ≡ parents
    → ((sorting : Sorting) (rows : List Row) (h : Commits ObjectId) (tips hs xs finished : List ObjectId) → Standing sorting rows h tips parents hs xs finished known ready → Standing sorting rows h tips parents hs xs (finished ++ passed) known' ready')
    → ((sorting : Sorting) (rows : List Row) (h : Commits ObjectId) (tips hs xs finished : List ObjectId) → Standing sorting rows h tips parents' hs xs finished known' ready' → Steps sorting rows h tips parents' hs xs finished known' ready' known'' ready'' info)
    → (sorting : Sorting) (rows : List Row) (h : Commits ObjectId) (tips hs xs finished : List ObjectId) → Standing sorting rows h tips parents hs xs finished known ready → Standing sorting rows h tips parents hs xs (finished ++ (passed ++ info.id ∷ [])) known'' ready''
finished_more parents parents' known known' known'' ready ready' ready'' passed info e before step sorting rows h tips hs xs finished st =
    let now = subst (λ (p : Parents). Standing sorting rows h tips p hs xs (finished ++ passed) known' ready') (sym e) (before sorting rows h tips hs xs finished st) in
    let next = (step sorting rows h tips hs xs (finished ++ passed) now).standing in
    subst (λ (zs : List ObjectId). Standing sorting rows h tips parents hs xs zs known'' ready'') (append_assoc finished passed (info.id ∷ []))
    (subst (λ (p : Parents). Standing sorting rows h tips p hs xs ((finished ++ passed) ++ info.id ∷ []) known'' ready'') e next)

pub turns-init : goal.turns-init
turns-init g c = record {
  parents = refl;
  predicate = refl;
  lookups = refl;
  stands = λ sorting rows faults h tips ends listed sd. sd;
  weight = omega arith;
  ended = λ e. e;
  asked = ([], refl, λ sorting rows h tips hs xs finished st. subst (λ (zs : List ObjectId). Standing sorting rows h tips c.args.self.now.parents hs xs zs c.args.self.now.known c.args.self.now.ready) (sym (append-nil finished)) st);
}

pub turns-preserved : goal.turns-preserved
turns-preserved g c =
    let inv = c.turns.invariant in
    let same = ap g.P.Accept.accepts c.in-Some.ensures.predicate ∙ inv.predicate in
    let stood = rw c.in-Ok.is at c.in-Some.ensures.stood in
    let none : g.P.Accept.accepts c.args.self.now.predicate (id_of c.in-Ok.info.id) ≡ false = sym (ap (λ f. f (id_of c.in-Ok.info.id)) same) ∙ c.in_default-accepted.ensures.passed in
    record {
      parents = c.in-Some.ensures.parents ∙ inv.parents;
      predicate = c.in_default-accepted.ensures.accepts ∙ same;
      lookups = c.in-Some.ensures.lookups ∙ inv.lookups;
      stands = λ sorting rows faults h tips ends listed sd.
          stands_no sorting rows faults h tips ends c.args.self.now.parents c.turns.self.parents inv.parents (λ x. g.P.Accept.accepts c.args.self.now.predicate (id_of x)) listed c.turns.self.known c.turn.new.self.known c.turns.self.ready c.turn.new.self.ready c.in-Ok.info c.in-Some.ensures.ids (inv.stands sorting rows faults h tips ends listed sd) stood none;
      weight = (let falls = rw c.in-Ok.is at c.in-Some.ensures.falls in omega (arith, falls, inv.weight));
      ended = λ e. let z : true ≡ false = c.in-Some.ensures.ended (inv.ended e) in absurd (let w : ⊥ = cc in w);
      asked = (let (passed, asks, before) = inv.asked in (
        passed ++ c.in-Ok.info.id ∷ [],
        asks_more g.P.Accept.goes passed (c.in-Ok.info.id ∷ []) c.args.self.now.predicate c.turns.self.predicate c.accepted.new.predicate asks
            (c.accepted.new.predicate, subst (λ p. g.P.Accept.goes p (id_of c.in-Ok.info.id) c.accepted.new.predicate) c.in-Some.ensures.predicate c.in_default-accepted.ensures.asked, refl),
        finished_more c.args.self.now.parents c.turns.self.parents c.args.self.now.known c.turns.self.known c.turn.new.self.known c.args.self.now.ready c.turns.self.ready c.turn.new.self.ready passed c.in-Ok.info inv.parents before stood,
      ));
    }

pub turns-smaller : goal.turns-smaller
turns-smaller g c = rw c.in-Ok.is at c.in-Some.ensures.falls

pub returns-in-Some-accepted-clause-steps : goal.returns-in-Some-accepted-clause-steps
returns-in-Some-accepted-clause-steps g c =
    let accepts = g.P.Accept.accepts in
    let old = c.args.self.now in
    let new = record c.turn.new.self { predicate = c.accepted.new.predicate } in
    let inv = c.turns.invariant in
    let same = ap accepts c.in-Some.ensures.predicate ∙ inv.predicate in
    let stood = rw c.in-Ok.is at c.in-Some.ensures.stood in
    let falls = rw c.in-Ok.is at c.in-Some.ensures.falls in
    let id = c.in-Ok.info.id in
    let kept = c.in-Some-accepted.ensures.kept in
    let yes : accepts old.predicate (id_of id) ≡ true = sym (ap (λ f. f (id_of id)) same) ∙ kept.1 in
    let (passed, asks, before) = inv.asked in
    let each : AsksEach g.P.Accept.goes old new (passed ++ id ∷ []) = record {
      asked = asks_more g.P.Accept.goes passed (id ∷ []) old.predicate c.turns.self.predicate c.accepted.new.predicate asks
          (c.accepted.new.predicate, subst (λ p. g.P.Accept.goes p (id_of id) c.accepted.new.predicate) c.in-Some.ensures.predicate c.in-Some-accepted.ensures.asked, refl);
      finishes = finished_more old.parents c.turns.self.parents old.known c.turns.self.known new.known old.ready c.turns.self.ready new.ready passed c.in-Ok.info inv.parents before stood;
    } in
    gives_next accepts g.P.Accept.goes old new _ (c.in-Some.ensures.parents ∙ inv.parents) (c.in-Some-accepted.ensures.accepts ∙ same) (c.in-Some.ensures.lookups ∙ inv.lookups)
    (λ sorting rows faults h tips ends listed sd.
    subst (λ (i : Info). Stands sorting rows faults h tips ends old.parents (λ x. accepts old.predicate (id_of x)) (listed ++ i.id ∷ []) new.known new.ready × IsInfo rows h i) (sym kept.0)
    (stands_yes sorting rows faults h tips ends old.parents c.turns.self.parents inv.parents (λ x. accepts old.predicate (id_of x)) listed c.turns.self.known new.known c.turns.self.ready new.ready c.in-Ok.info c.in-Some.ensures.ids (inv.stands sorting rows faults h tips ends listed sd) stood yes))
    tt tt tt tt (λ e. c.in-Some.ensures.ended (inv.ended e)) (omega (arith, falls, inv.weight))
    (passed, subst (λ (i : Info). AsksEach g.P.Accept.goes old new (passed ++ i.id ∷ [])) (sym kept.0) each) tt tt

pub returns-in-Some-accepted-clause-goes : goal.returns-in-Some-accepted-clause-goes
returns-in-Some-accepted-clause-goes g c = let gives = returns-in-Some-accepted-clause-steps g c in progress c.args.self.now _ _ gives.failed gives.ended gives.fewer

pub returns-clause-steps : goal.returns-clause-steps
returns-clause-steps g c =
    let accepts = g.P.Accept.accepts in
    let old = c.args.self.now in
    let none = c.in_default.ensures in
    let inv = c.turns.invariant in
    let (passed, asks, before) = inv.asked in
    gives_next accepts g.P.Accept.goes old c.turn.new.self _ (none.parents ∙ inv.parents) (ap accepts none.predicate ∙ inv.predicate) (none.lookups ∙ inv.lookups) tt
    (λ sorting rows faults h tips ends listed sd acyclic. answers sorting rows faults h tips ends old.parents (λ x. accepts old.predicate (id_of x)) listed c.turns.self.known c.turns.self.ready (inv.stands sorting rows faults h tips ends listed sd) none.end acyclic)
    tt tt none.over (λ _. refl) tt tt (record { passed = passed; last = c.turns.self; each = record { asked = asks; finishes = before }; none_waits = none.end; same = none.predicate }) tt

pub returns-clause-goes : goal.returns-clause-goes
returns-clause-goes g c = let gives = returns-clause-steps g c in progress c.args.self.now _ _ gives.failed gives.ended gives.fewer

pub returns-in-Err-clause-steps : goal.returns-in-Err-clause-steps
returns-in-Err-clause-steps g c =
    let accepts = g.P.Accept.accepts in
    let old = c.args.self.now in
    let turn = c.in-Some.ensures in
    let inv = c.turns.invariant in
    let refused = rw c.in-Err.is at c.in-Some.ensures.refused in
    let failed = rw c.in-Err.is at c.in-Some.ensures.failed in
    let (passed, asks, before) = inv.asked in
    gives_next accepts g.P.Accept.goes old c.turn.new.self _ (turn.parents ∙ inv.parents) (ap accepts turn.predicate ∙ inv.predicate) (turn.lookups ∙ inv.lookups) tt tt
    (λ sorting rows faults h tips ends listed sd. turn_fault sorting rows faults h tips ends old.parents c.turns.self.parents inv.parents (λ x. accepts old.predicate (id_of x)) listed c.turns.self.known c.turns.self.ready (inv.stands sorting rows faults h tips ends listed sd) c.in-Err.error refused)
    failed tt (λ e. turn.ended (inv.ended e)) tt tt tt (record {
      passed = passed;
      last = c.turns.self;
      each = record { asked = asks; finishes = before };
      turn = λ sorting rows tips finished. subst (λ (p : Parents). IsTurnOf sorting rows tips p finished c.turns.self.known c.turns.self.ready c.in-Err.error) inv.parents (refused sorting rows tips finished);
      same = turn.predicate;
    })

pub returns-in-Err-clause-goes : goal.returns-in-Err-clause-goes
returns-in-Err-clause-goes g c = let gives = returns-in-Err-clause-steps g c in progress c.args.self.now _ _ gives.failed gives.ended gives.fewer
