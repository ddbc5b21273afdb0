use Rattle.std.proofs.Common.{◌≡◌, ◌≤◌, ◌+◌, ◌∙◌, sym, refl, subst, ap, arith, inl, List, [], length, Bool, true, false}
use Rattle.std.proofs.lemmas.Result.{err_from_is_err_and}
use Rattle.std.specs.Prelude.{Contains}
use Rattle.gix_hash.specs.declared.object_id.ObjectId.{ObjectId}
use Rattle.gix_traverse_commit_known.specs.Fetching.{TimeIsTold}
use Rattle.gix_traverse_commit_known.specs.Meeting.{CountsTimes, accepted, unmet}
use Rattle.gix_traverse_graph.specs.Sorting.{timing_of}
use Rattle.gix_traverse_graph.specs.declared.parents.Parents.TheVariants.{All}
use Rattle.gix_traverse_commit_known.specs.Known.{turns_of}
use Rattle.gix_hash.specs.Id.{Id}
use Rattle.gix_traverse_commit_known.specs.Asked.{AcceptsAs, AreRefused, Asked}
use Rattle.gix_traverse_graph.specs.declared.sorting.Sorting.{Sorting}
use Rattle.gix_traverse_commit.specs.declared.simple.Simple.{Simple}
use Rattle.gix_traverse_commit.specs.Simply.{IsNew, IsOver, times_queued}
use Rattle.gix_traverse_commit.specs.Giving.{IsAccepted, IsUnmet}
use Rattle.gix_traverse_commit_known.specs.Faults.{TipFault}
use Rattle.gix_traverse_commit_known.specs.Told.{rows_of}
use Rattle.gix_traverse_commit_known.proofs.Ending.{gains_more}
use Rattle.gix_traverse_commit_known.proofs.Awaiting.{of_accepted}
use Rattle.gix_traverse_commit_known.proofs.Meeting.{unmet_accepted}
use Rattle.gix_traverse_commit_known.proofs.Times.{met_or_accepted, tip_fault_more}
use Rattle.gix_traverse_commit.proofs.Awaited.{times_held, times_most}
use Rattle.gix_traverse_commit.proofs.Rest.{known_gains}
use Rattle.gix_traverse_commit.proofs.simple.Simple.sorting.Goals as goal

-- the same walk in another order
made_sorted : {F P : Type 0} (accepts : P → Id → Bool) (a : Asked) (walk read : Simple F P) (sorting : Sorting) → read ≡ record walk { source = read.source } → IsNew accepts a walk → IsNew accepts (record a { sorting = sorting }) (record read { sorting = sorting })
made_sorted accepts a walk read sorting same v = record {
  begun = ap (λ w. w.begun) same ∙ v.begun;
  tips = ap (λ w. w.tips.items) same ∙ v.tips;
  hidden = ap (λ w. w.hidden.items) same ∙ v.hidden;
  parents = ap (λ w. w.parents) same ∙ v.parents;
  sorting = refl;
  accepts_as = subst (λ w. AcceptsAs (accepts w.predicate) w.known.nodes (record a { sorting = sorting })) (sym same) (record { given = v.accepts_as.given; unmet = v.accepts_as.unmet });
  asked = subst (λ w. AreRefused a.accepts a.tips w.known.nodes) (sym same) v.asked;
  empty = ap (λ w. w.known.queue) same ∙ v.empty;
  none_waits = ap (λ w. turns_of w.known) same ∙ v.none_waits;
}

pub returns-clause-anew : goal.returns-clause-anew
returns-clause-anew g c = record {
  unasked = ap (λ w. w.predicate) c.read_tips.ensures.stays ∙ ap (λ w. w.predicate) c.make_tips.ensures.stays ∙ ap (λ w. w.predicate) c.begin_anew.ensures.stays;
  kind = ap (λ w. w.kind) c.read_tips.ensures.stays ∙ ap (λ w. w.kind) c.make_tips.ensures.stays ∙ ap (λ w. w.kind) c.begin_anew.ensures.stays;
  gains = (let known = ap (λ w. w.known) c.read_tips.ensures.stays in
      gains_more c.args.self.known.nodes c.make_tips.new.self.known.nodes c.read_tips.new.self.known.nodes (times_queued c.args.self) (times_queued c.make_tips.new.self) (times_queued c.read_tips.new.self)
      (gains_more c.args.self.known.nodes c.begin_anew.new.self.known.nodes c.make_tips.new.self.known.nodes (times_queued c.args.self) (times_queued c.begin_anew.new.self) (times_queued c.make_tips.new.self)
      (known_gains c.args.self c.begin_anew.new.self (ap (λ w. w.known) c.begin_anew.ensures.stays)) c.in_ok-make_tips.ensures.left) (known_gains c.make_tips.new.self c.read_tips.new.self known));
  over = (λ o.
      let t = (c.begin_anew.ensures.over o).0 in
      let s : IsOver c.make_tips.new.self = subst IsOver (sym (c.make_tips.ensures.same t.empty t.none_waits).0) t in
      let r : IsOver c.read_tips.new.self = (let known = ap (λ w. w.known) c.read_tips.ensures.stays in record { begun = ap (λ w. w.begun) c.read_tips.ensures.stays ∙ s.begun; empty = ap (λ k. k.queue) known ∙ s.empty; none_waits = ap turns_of known ∙ s.none_waits }) in
      record { begun = r.begun; empty = r.empty; none_waits = r.none_waits });
}

pub returns-clause-reads : goal.returns-clause-reads
returns-clause-reads g c =
    let e = ap (λ w. w.source) c.make_tips.ensures.stays ∙ ap (λ w. w.source) c.begin_anew.ensures.stays in
    record {
      objects = c.read_tips.ensures.reads.objects ∙ ap (λ s. s.objects) e;
      rows = c.read_tips.ensures.reads.rows ∙ ap (λ s. s.rows) e;
      content = c.in_ok-read_tips.ensures.times.content ∙ ap (λ s. s.buffer.items) e;
    }

pub returns-clause-made : goal.returns-clause-made
returns-clause-made g c = λ a m.
    let v : IsNew g.P.Accept.accepts a c.make_tips.new.self = (c.in_ok-make_tips.ensures.made a (c.begin_anew.ensures.ahead a m)).new in
    let e = ap (λ w. w.source) c.make_tips.ensures.stays ∙ ap (λ w. w.source) c.begin_anew.ensures.stays in
    let same = c.read_tips.ensures.stays in
    let rows = rows_of c.args.self.source.rows in
    let before = c.args.self.source.lookups in
    let after = c.read_tips.new.self.source.lookups in
    let nodes = c.make_tips.new.self.known.nodes in
    let times = c.in_ok-read_tips.ensures.times in
    let order = timing_of All c.args.sorting in
    let tips : List ObjectId = c.make_tips.new.self.tips.items in
    let kept = unmet_accepted nodes a.accepts tips v.asked.refused (λ x k. v.asked.accepted x (subst (λ (ts : List ObjectId). Contains ts x) v.tips k)) ∙ ap (accepted a.accepts) v.tips in
    let each = subst (λ (xs : List ObjectId). CountsTimes order rows xs before after) kept (subst (λ s. CountsTimes order (rows_of s.rows) (unmet nodes tips) s.lookups after) e times.each) in
    let few = times_most order tips in
    let most = subst (λ s. after ≤ s.lookups + length tips) e (omega (arith, few, c.read_tips.ensures.reads.most)) in
    record {
      made = inl (made_sorted g.P.Accept.accepts a c.make_tips.new.self c.read_tips.new.self c.args.sorting same v);
      most = subst (λ (ts : List ObjectId). after ≤ before + length ts) v.tips most;
      each = each;
      rowed = λ held. times_held order rows (accepted a.accepts a.tips) before after (λ x k. held x (of_accepted a.accepts a.tips x k).0) each;
      told = λ honest by x k y. subst (λ s. g.F.Lookup.is_honest s.objects → (x : ObjectId) → Contains tips x → IsUnmet nodes x → TimeIsTold (rows_of s.rows) (g.F.Lookup.table s.objects) x) e
          (λ h. times.told h by) honest x (subst (λ (ts : List ObjectId). Contains ts x) (sym v.tips) k) (met_or_accepted a.accepts nodes x (v.asked.refused x) y);
    }

pub returns-in_err-read_tips-clause-refused : goal.returns-in_err-read_tips-clause-refused
returns-in_err-read_tips-clause-refused g c = λ a m.
    let v : IsNew g.P.Accept.accepts a c.make_tips.new.self = (c.in_ok-make_tips.ensures.made a (c.begin_anew.ensures.ahead a m)).new in
    let e = ap (λ w. w.source) c.make_tips.ensures.stays ∙ ap (λ w. w.source) c.begin_anew.ensures.stays in
    let p = err_from_is_err_and c.from_residual-in_err-read_tips.result c.from_residual-in_err-read_tips.ensures.1 in
    let error = c.in_err-read_tips.field-0.0 in
    let honest = g.F.Lookup.is_honest c.args.self.source.objects in
    let may_fail = g.F.Lookup.may_fail c.args.self.source.objects in
    let rows = rows_of c.args.self.source.rows in
    let table = g.F.Lookup.table c.args.self.source.objects in
    let nodes = c.make_tips.new.self.known.nodes in
    let here = subst (λ s. TipFault (g.F.Lookup.is_honest s.objects) (g.F.Lookup.may_fail s.objects) (rows_of s.rows) (g.F.Lookup.table s.objects) c.make_tips.new.self.tips.items (IsUnmet nodes) error) e c.in_err-read_tips.ensures.refused in
    let of_tips = subst (λ (ts : List ObjectId). TipFault honest may_fail rows table ts (IsUnmet nodes) error) v.tips here in
    let fault : TipFault honest may_fail rows table a.tips (IsAccepted a) error = tip_fault_more honest may_fail rows table a.tips (IsUnmet nodes) (IsAccepted a) (λ x k u. v.asked.accepted x k u) (λ x k y. met_or_accepted a.accepts nodes x (v.asked.refused x) y) error of_tips in
    rw (p.1, p.2) fault

pub returns-in_err-make_tips-clause-whole : goal.returns-in_err-make_tips-clause-whole
returns-in_err-make_tips-clause-whole g c = λ o.
    let t = (c.begin_anew.ensures.over o).0 in
    let s : false ≡ true = (c.in_err-make_tips.ensures.same t.empty t.none_waits).1 in
    let z : ⊥ = cc in
    absurd z

pub returns-in_err-read_tips-clause-whole : goal.returns-in_err-read_tips-clause-whole
returns-in_err-read_tips-clause-whole g c = λ o.
    let (t, none) = c.begin_anew.ensures.over o in
    let tips : c.make_tips.new.self.tips.items ≡ [] = ap (λ w. w.tips.items) (c.make_tips.ensures.same t.empty t.none_waits).0 ∙ none in
    let s : false ≡ true = c.in_err-read_tips.ensures.whole tips in
    let z : ⊥ = cc in
    absurd z

pub returns-clause-still : goal.returns-clause-still
returns-clause-still g c = λ o.
    let (t, none) = c.begin_anew.ensures.over o in
    let tips : c.make_tips.new.self.tips.items ≡ [] = ap (λ w. w.tips.items) (c.make_tips.ensures.same t.empty t.none_waits).0 ∙ none in
    let none_left : length c.make_tips.new.self.tips.items ≡ 0 = ap length tips in
    let few = times_most (timing_of All c.args.sorting) c.make_tips.new.self.tips.items in
    let most = c.read_tips.ensures.reads.most in
    let least = c.read_tips.ensures.reads.least in
    let same : c.read_tips.new.self.source.lookups ≡ c.make_tips.new.self.source.lookups = omega (arith, none_left, few, most, least) in
    same ∙ ap (λ w. w.source.lookups) c.make_tips.ensures.stays ∙ ap (λ w. w.source.lookups) c.begin_anew.ensures.stays
