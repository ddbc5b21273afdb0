use Rattle.std.proofs.Common.{length, ◌≡◌, ◌∷◌, ◌+◌, ℕ, cond, false, true, refl, sym, subst, arith, rules, inl, inr, List, [], get_or, take, Option, Bool}
use Rattle.std.specs.Prelude.{Contains, not}
use Rattle.std.proofs.lemmas.Option.{slice_get-get_or}
use Rattle.std.proofs.lemmas.Result.{err_from_is_err_and}
use Rattle.gix_hash.specs.declared.object_id.ObjectId.{ObjectId}
use Rattle.gix_hash.specs.declared.object_id.ObjectId.TheVariants.{Sha1}
use Rattle.gix_object_lookup.specs.Table.{Table}
use Rattle.gix_traverse_commit_known.specs.Meeting.{CountsAll, CountsOne, unmet}
use Rattle.gix_traverse_commit_known.specs.Nodes.{Node, is_met}
use Rattle.gix_traverse_commit.specs.Giving.{IsReadBefore, IsUnmet}
use Rattle.gix_traverse_commit_known.specs.Faults.{TipFault, error_of}
use Rattle.gix_traverse_commit_known.specs.Fetching.{TimeFault, TimeIsTold}
use Rattle.gix_traverse_commit_known.proofs.Chosen.{take_all}
use Rattle.gix_traverse_commit_known.proofs.Simply.{in_push, take_push}
use Rattle.gix_traverse_commit_known.proofs.Timely.{in_nil}
use Rattle.gix_traverse_commit_known.proofs.Times.{tip_fault}
use Rattle.gix_traverse_commit_known.specs.Told.{rows_of}
use Rattle.gix_traverse_graph.specs.Order.{At}
use Rattle.gix_traverse_graph.specs.declared.rows.Row.{Row}
use Rattle.gix_traverse_graph.proofs.Lists.{contains_from_at}
use Rattle.gix_traverse_commit_known.proofs.Meeting.{counts_one, unmet_more}
use Rattle.gix_traverse_commit.proofs.Awaited.{reads_more, reads_none, reads_within}
use Rattle.gix_traverse_commit.proofs.simple.timed.read_times.Goals as goal

-- one more tip was refused, or its time is known
read_next : (honest : Type 0) (rows : List Row) (table : Table) (nodes : List Node) (tips : List ObjectId) (i : ℕ) (id : ObjectId) → At tips i id → IsReadBefore honest rows table nodes tips i → (honest → IsUnmet nodes id → TimeIsTold rows table id) → IsReadBefore honest rows table nodes tips (i + 1)
read_next honest rows table nodes tips i id here before now = λ h x k unmet. elim (in_push (take i tips) id x (subst (λ (zs : List ObjectId). Contains zs x) (take_push tips i id here) k)) [
  | inl b ↦ before h x b unmet
  | inr e ↦ subst (TimeIsTold rows table) (sym e) (now h (subst (IsUnmet nodes) e unmet))
]

pub tips-init : goal.tips-init
tips-init g c = record {
  reads = reads_none c.args.source.now;
  each = refl;
  told = λ honest x k unmet. absurd (in_nil x k);
}

pub tips-preserved-then-contains : goal.tips-preserved-then-contains
tips-preserved-then-contains g c =
    let ids : List ObjectId = c.args.tips.now in
    let id : ObjectId = get_or ids c.tips.tip-index (Sha1 []) in
    let here = slice_get-get_or ids c.tips.tip-index (Sha1 []) c.tips-test.true in
    let nodes = c.args.known.now.nodes in
    let inv = c.tips.invariant in
    let rows = rows_of c.args.source.now.rows in
    let met : is_met nodes id ≡ true = search rules in
    record {
      reads = record { objects = inv.reads.objects; rows = inv.reads.rows; least = inv.reads.least; most = omega (arith, inv.reads.most) };
      each = unmet_more rows nodes ids c.tips.tip-index id c.args.source.now.lookups c.tips.source.lookups c.tips.source.lookups here inv.each
          (subst (λ (b : Bool). CountsAll rows (cond (not b) (id ∷ []) []) c.tips.source.lookups c.tips.source.lookups) (sym met) refl);
      told = read_next (g.F.Lookup.is_honest c.args.source.now.objects) rows (g.F.Lookup.table c.args.source.now.objects) nodes ids c.tips.tip-index id here inv.told (λ h u. let z : ⊥ = cc in absurd z);
    }

pub tips-preserved : goal.tips-preserved
tips-preserved g c =
    let ids : List ObjectId = c.args.tips.now in
    let id : ObjectId = get_or ids c.tips.tip-index (Sha1 []) in
    let here = slice_get-get_or ids c.tips.tip-index (Sha1 []) c.tips-test.true in
    let nodes = c.args.known.now.nodes in
    let inv = c.tips.invariant in
    let rows = rows_of c.args.source.now.rows in
    let before = c.tips.source.lookups in
    let after = c.seconds.new.self.lookups in
    let unmet : is_met nodes id ≡ false = search rules in
    let one = subst (λ (r : Option (List Row)). CountsOne (rows_of r) id before after) inv.reads.rows c.seconds.ensures.one in
    record {
      reads = reads_more c.tips.tip-index 1 c.args.source.now c.tips.source c.seconds.new.self inv.reads c.seconds.ensures.reads;
      each = unmet_more rows nodes ids c.tips.tip-index id c.args.source.now.lookups before after here inv.each
          (subst (λ (b : Bool). CountsAll rows (cond (not b) (id ∷ []) []) before after) (sym unmet) (counts_one rows id before after one));
      told = read_next (g.F.Lookup.is_honest c.args.source.now.objects) rows (g.F.Lookup.table c.args.source.now.objects) nodes ids c.tips.tip-index id here inv.told
          (λ h u. subst (λ (o : g.row.F.Denot). g.F.Lookup.is_honest o → TimeIsTold rows (g.F.Lookup.table o) id) inv.reads.objects
          (subst (λ (r : Option (List Row)). g.F.Lookup.is_honest c.tips.source.objects → TimeIsTold (rows_of r) (g.F.Lookup.table c.tips.source.objects) id) inv.reads.rows c.in_ok-seconds.ensures.told) h);
    }

pub returns-in_err-seconds-clause-refused : goal.returns-in_err-seconds-clause-refused
returns-in_err-seconds-clause-refused g c =
    let ids : List ObjectId = c.args.tips.now in
    let id : ObjectId = get_or ids c.tips.tip-index (Sha1 []) in
    let here = slice_get-get_or ids c.tips.tip-index (Sha1 []) c.tips-test.true in
    let nodes = c.args.known.now.nodes in
    let inv = c.tips.invariant in
    let p = err_from_is_err_and c.from_residual.result c.from_residual.ensures.1 in
    let honest = g.F.Lookup.is_honest c.args.source.now.objects in
    let may_fail = g.F.Lookup.may_fail c.args.source.now.objects in
    let rows = rows_of c.args.source.now.rows in
    let table = g.F.Lookup.table c.args.source.now.objects in
    let error = c.in_err-seconds.field-0.0 in
    let unmet : is_met nodes id ≡ false = search rules in
    let cause = subst (λ (o : g.row.F.Denot). TimeFault (g.F.Lookup.is_honest o) (g.F.Lookup.may_fail o) rows (g.F.Lookup.table o) id error) inv.reads.objects
    (subst (λ (r : Option (List Row)). TimeFault (g.F.Lookup.is_honest c.tips.source.objects) (g.F.Lookup.may_fail c.tips.source.objects) (rows_of r) (g.F.Lookup.table c.tips.source.objects) id error) inv.reads.rows c.in_err-seconds.ensures.refused) in
    let fault : TipFault honest may_fail rows table ids (IsUnmet nodes) (error_of error) = tip_fault honest may_fail rows table ids (IsUnmet nodes) id c.tips.tip-index error here unmet inv.told cause in
    rw (p.1, p.2) fault

pub returns-clause-told : goal.returns-clause-told
returns-clause-told g c = λ honest x k unmet.
    c.tips.invariant.told honest x (subst (λ (zs : List ObjectId). Contains zs x) (sym (take_all c.args.tips.now c.tips.tip-index c.tips-test.false)) k) unmet

pub returns-clause-each : goal.returns-clause-each
returns-clause-each g c =
    subst (λ (ts : List ObjectId). CountsAll (rows_of c.args.source.now.rows) (unmet c.args.known.now.nodes ts) c.args.source.now.lookups c.tips.source.lookups) (take_all c.args.tips.now c.tips.tip-index c.tips-test.false) c.tips.invariant.each

pub returns-in_err-seconds-clause-whole : goal.returns-in_err-seconds-clause-whole
returns-in_err-seconds-clause-whole g c = λ none.
    let ids : List ObjectId = c.args.tips.now in
    let id : ObjectId = get_or ids c.tips.tip-index (Sha1 []) in
    let here = slice_get-get_or ids c.tips.tip-index (Sha1 []) c.tips-test.true in
    absurd (in_nil id (subst (λ (zs : List ObjectId). Contains zs id) none (contains_from_at ids c.tips.tip-index id here)))

pub returns-clause-reads : goal.returns-clause-reads
returns-clause-reads g c = reads_within c.tips.tip-index (length c.args.tips.now) c.args.source.now c.tips.source (omega arith) c.tips.invariant.reads

pub returns-in_err-seconds-clause-reads : goal.returns-in_err-seconds-clause-reads
returns-in_err-seconds-clause-reads g c =
    reads_within (c.tips.tip-index + 1) (length c.args.tips.now) c.args.source.now c.seconds.new.self (omega arith)
    (reads_more c.tips.tip-index 1 c.args.source.now c.tips.source c.seconds.new.self c.tips.invariant.reads c.seconds.ensures.reads)
