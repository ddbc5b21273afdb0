use Rattle.std.proofs.Common.{None, ◌+◌, inl, inr, ◌≡◌, ℕ, ◌≤◌, sym, ◌∙◌, ap, refl, subst, arith, List, [], ◌∷◌, ◌++◌, length, Option}
use Rattle.gix_hash.specs.Id.{id_of}
use Rattle.gix_hash.specs.declared.object_id.ObjectId.{ObjectId}
use Rattle.gix_object_lookup.specs.Existing.{Stands}
use Rattle.gix_object_lines.specs.declared.kind.Kind.TheVariants as kinds
use Rattle.gix_traverse_graph.specs.Commits.{asked_parents}
use Rattle.gix_traverse_commit_known.specs.Meeting.{CountsOne, CountsTimes, IsFresh, MarksMet, accepted}
use Rattle.gix_traverse_graph.specs.Order.{IsListOf}
use Rattle.gix_traverse_commit_known.specs.Queueing.{QueuesSome}
use Rattle.gix_traverse_graph.specs.Rows.{AllHeld, Holds}
use Rattle.gix_traverse_commit_known.specs.Asked.{IsKnown, IsSure}
use Rattle.gix_traverse_graph.specs.Sorting.{IsTime, timing_of}
use Rattle.gix_traverse_commit.specs.Giving.{FailsToCome, IsMetWith}
use Rattle.gix_traverse_commit_known.specs.Faults.{StopsFetch, error_of}
use Rattle.gix_traverse_commit_known.specs.Timely.{LetsWaitIn}
use Rattle.gix_traverse_commit_known.specs.Known.{turns_of}
use Rattle.gix_traverse_commit_known.specs.Told.{AreTold, rows_of}
use Rattle.gix_traverse_graph.specs.declared.parents.Parents.{Parents}
use Rattle.gix_traverse_graph.specs.declared.rows.Row.{Row}
use Rattle.gix_object_lookup.specs.Table.{Table}
use Rattle.gix_traverse_commit_known.specs.Fetching.{ReadFault}
use Rattle.gix_traverse_commit_known.specs.declared.fetch.FetchError.{FetchError}
use Rattle.gix_traverse_commit_known.specs.declared.fetch.FetchError.TheVariants as fault
use Rattle.std.proofs.lemmas.Result.{err_from_is_err_and}
use Rattle.gix_traverse_commit.proofs.ByTime.{at_order, at_source, under_source}
use Rattle.gix_traverse_graph.specs.declared.sorting.Sorting.{Sorting}
use Rattle.gix_traverse_commit.specs.Awaited.{times_of}
use Rattle.gix_traverse_commit.proofs.Awaited.{times_most}
use Rattle.gix_traverse_commit.proofs.Counting.{fault_counts}
use Rattle.gix_traverse_commit.proofs.Rest.{in_rows}
use Rattle.gix_traverse_commit_known.specs.declared.faults.Error.TheVariants as simple
use Rattle.gix_traverse_graph.specs.declared.sorting.Timing.{Timing}
use Rattle.gix_traverse_commit.proofs.simple.Simple.enter.Goals as goal

stops_fetch : (along : Parents) (honest may_fail : Type 0) (rows : List Row) (table : Table) (id : ObjectId) (error : FetchError) → ReadFault along honest may_fail rows table id error → StopsFetch along honest may_fail rows table id (error_of error)
stops_fetch along honest may_fail rows table id (fault.Find error) h = h
stops_fetch along honest may_fail rows table id (fault.ObjectDecode error) h = h
stops_fetch along honest may_fail rows table id fault.Memory h = tt

pub returns-clause-told : goal.returns-clause-told
returns-clause-told g c = λ honest commits told. record {
  parents_asked = c.in_ok-commit.ensures.parents honest commits told;
  by_row = c.in_ok-commit.ensures.generation;
  timed = (let time = c.shown_time.ensures (commits c.args.id) (c.in_ok-commit.ensures.time honest commits told) in
      subst (λ (p : Parents). IsTime (timing_of p c.args.self.now.sorting) (commits c.args.id) c.shown_time.result) (ap (λ w. w.parents) c.meet_all.ensures.stays)
      (subst (λ (s : Sorting). IsTime (timing_of c.meet_all.new.self.parents s) (commits c.args.id) c.shown_time.result) (ap (λ w. w.sorting) c.meet_all.ensures.stays) time));
}

pub returns-clause-going : goal.returns-clause-going
returns-clause-going g c = λ honest commits told a listed sure at.
    let accepts = g.P.Accept.accepts in
    let ids = g.F.Lookup.ids c.args.self.now.source.objects in
    let rows = rows_of c.args.self.now.source.rows in
    let honest' = subst (λ (o : g.row.F.Denot). g.F.Lookup.is_honest o) (sym c.fetch.ensures.reads.objects) honest in
    let sure' = subst (λ (o : g.row.F.Denot). IsSure (g.F.Lookup.may_fail o) a) (sym c.fetch.ensures.reads.objects) sure in
    let told' = subst (λ (o : g.row.F.Denot). AreTold (rows_of c.fetch.new.self.rows) (g.F.Lookup.table o) commits) (sym c.fetch.ensures.reads.objects) (subst (λ (r : Option (List Row)). AreTold (rows_of r) (g.F.Lookup.table c.args.self.now.source.objects) commits) (sym c.fetch.ensures.reads.rows) told) in
    let same = c.as_slice.ensures ∙ c.in_ok-commit.ensures.parents honest commits told in
    let asked = same ∙ ap (λ (p : Parents). asked_parents p commits c.args.id) (at_order accepts ids commits a listed c.args.id c.args.self.now at).0 in
    let known : IsKnown (rows_of c.fetch.new.self.rows) ids c.args.id = subst (λ (r : Option (List Row)). IsKnown (rows_of r) ids c.args.id) (sym c.fetch.ensures.reads.rows) c.in_ok-commit.ensures.listed in
    let begun = at_source accepts ids commits a listed c.args.id c.args.self.now (record c.fetch.new.self { buffer = c.replace-content.new.dest }) c.fetch.ensures.reads.rows at in
    let under = c.in_ok-meet_all.ensures.going honest' commits told' ids a listed c.args.id sure' asked known begun in
    under_source accepts ids commits a (listed ++ c.args.id ∷ []) c.meet_all.new.self (record c.meet_all.new.self.source { buffer = c.replace-content.result }) c.kind-self.result refl under

pub returns-clause-awaits : goal.returns-clause-awaits
returns-clause-awaits g c = λ honest commits told.
    let honest' = subst (λ (o : g.row.F.Denot). g.F.Lookup.is_honest o) (sym c.fetch.ensures.reads.objects) honest in
    let told' = subst (λ (o : g.row.F.Denot). AreTold (rows_of c.fetch.new.self.rows) (g.F.Lookup.table o) commits) (sym c.fetch.ensures.reads.objects) (subst (λ (r : Option (List Row)). AreTold (rows_of r) (g.F.Lookup.table c.args.self.now.source.objects) commits) (sym c.fetch.ensures.reads.rows) told) in
    let order = timing_of c.args.self.now.parents c.args.self.now.sorting in
    let turns = turns_of c.args.self.now.known in
    let turns' = turns_of c.meet_all.new.self.known in
    let step = subst (λ (o : g.row.F.Denot). LetsWaitIn order (g.F.Lookup.may_fail o) commits (IsMetWith g.P.Accept.accepts c.args.self.now c.as_slice.result.now) turns turns') c.fetch.ensures.reads.objects (c.in_ok-meet_all.ensures.awaits honest' commits told') in
    subst (λ (ps : List ObjectId). LetsWaitIn order (g.F.Lookup.may_fail c.args.self.now.source.objects) commits (IsMetWith g.P.Accept.accepts c.args.self.now ps) turns turns') c.as_slice.ensures step

pub returns-clause-comes : goal.returns-clause-comes
returns-clause-comes g c =
    let rows = rows_of c.args.self.now.source.rows in
    let table = g.F.Lookup.table c.args.self.now.source.objects in
    let order = timing_of c.args.self.now.parents c.args.self.now.sorting in
    let before = c.args.self.now.source.lookups in
    let read = c.fetch.new.self.lookups in
    let after = c.meet_all.new.self.source.lookups in
    let ps : List ObjectId = c.as_slice.result.now in
    let least = c.meet_all.ensures.reads.least in
    let most = c.meet_all.ensures.reads.most in
    let still : order ≡ None → after ≡ read = (λ b. let few = subst (λ (t : Option Timing). after ≤ read + times_of t ps) b most in omega (arith, least, few)) in
    let one : CountsOne rows c.args.id before read = c.fetch.ensures.one in
    let meets = c.in_ok-meet_all.ensures.meets in
    let closed : Holds rows c.args.id → AllHeld (rows_of c.fetch.new.self.rows) ps = (λ held. subst (λ (o : Option (List Row)). AllHeld (rows_of o) ps) (sym c.fetch.ensures.reads.rows) (subst (AllHeld rows) (sym c.as_slice.ensures) (c.in_ok-commit.ensures.closed held))) in
    let same : c.replace-content.result.items ≡ c.fetch.new.self.buffer.items = ap (λ v. v.items) c.replace-content.ensures.value in
    record {
      same = refl;
      known = c.in_ok-commit.ensures.listed;
      content = record {
        rowed = λ held. same ∙ c.fetch.ensures.emptied held;
        stored = λ honest n. subst (λ (bytes : List ℕ). Stands table (id_of c.args.id) kinds.Commit bytes) (sym same) (c.in_ok-commit.ensures.content honest n);
      };
      kind = c.kind-self.ensures;
      in_breadth = λ b. let e = still b in omega (arith, e, c.fetch.ensures.reads.most);
      one = λ b. record { stored = λ n. still b ∙ one.stored n; rowed = λ held. still b ∙ one.rowed held };
      counted = record {
        stored = λ n. subst (λ (m : ℕ). m ≤ after) (c.fetch.ensures.one.stored n) least;
        rowed = λ held. meets.still (closed held) ∙ c.fetch.ensures.one.rowed held;
        most = (let long = ap length c.as_slice.ensures in let few = times_most order ps in omega (arith, most, few, c.fetch.ensures.reads.most, long));
      };
      meets = record {
        met = meets.met;
        are_met = subst (λ (qs : List ObjectId). IsListOf (IsFresh c.args.self.now.known.nodes qs) meets.met) c.as_slice.ensures meets.are_met;
        asked = meets.asked;
        read = read;
        one = one;
        times = subst (λ (r : Option (List Row)). CountsTimes order (rows_of r) (accepted (g.P.Accept.accepts c.args.self.now.predicate) meets.met) read after) c.fetch.ensures.reads.rows meets.times;
      };
      flags = subst (λ (qs : List ObjectId). MarksMet c.args.self.now.known.nodes qs c.meet_all.new.self.known.nodes) c.as_slice.ensures meets.flags;
      painted = meets.painted;
      behind = λ some. subst (λ (qs : List ObjectId). QueuesSome c.args.self.now.known qs c.meet_all.new.self.known) c.as_slice.ensures (meets.behind some);
      gains = meets.gains;
      rowed = (λ r held.
          let now = meets.rowed (in_rows c.args.self.now.source.rows (record c.args.self.now { source = record c.fetch.new.self { buffer = c.replace-content.new.dest } }) c.fetch.ensures.reads.rows r.tips r.hidden r.queue r.waiting_rows) (closed held) in
          (record { tips = now.tips; hidden = now.hidden; queue = now.queue; waiting_rows = now.waiting_rows }, meets.still (closed held) ∙ c.fetch.ensures.one.rowed held));
      stays = λ b. record {
        begun = ap (λ w. w.begun) c.meet_all.ensures.stays ∙ b;
        parents = ap (λ w. w.parents) c.meet_all.ensures.stays;
        sorting = ap (λ w. w.sorting) c.meet_all.ensures.stays;
        hidden = ap (λ w. w.hidden.items) c.meet_all.ensures.stays;
      };
    }

pub returns-in_err-commit-clause-fails : goal.returns-in_err-commit-clause-fails
returns-in_err-commit-clause-fails g c =
    let p = err_from_is_err_and c.from_residual.result c.from_residual.ensures.1 in
    let honest = g.F.Lookup.is_honest c.args.self.now.source.objects in
    let may_fail = g.F.Lookup.may_fail c.args.self.now.source.objects in
    let rows = rows_of c.args.self.now.source.rows in
    let table = g.F.Lookup.table c.args.self.now.source.objects in
    let error = c.in_err-commit.field-0.0 in
    let why : FailsToCome honest may_fail table c.args.self.now c.args.id (error_of error) (record c.args.self.now { source = c.fetch.new.self }) = record {
      cause = stops_fetch c.args.self.now.parents honest may_fail rows table c.args.id error c.in_err-commit.ensures.refused;
      counts = fault_counts c.args.self.now.parents honest may_fail rows table c.args.id error c.args.self.now.source.lookups c.fetch.new.self.lookups c.in_err-commit.ensures.refused c.fetch.ensures.one.stored c.fetch.ensures.reads.least;
      in_breadth = λ b. c.fetch.ensures.reads.most;
      unasked = inr refl;
    } in
    rw (p.1, p.2) why

pub returns-in_err-meet_all-clause-fails : goal.returns-in_err-meet_all-clause-fails
returns-in_err-meet_all-clause-fails g c =
    let p = err_from_is_err_and c.from_residual-in_err-meet_all.result c.from_residual-in_err-meet_all.ensures.1 in
    let least = c.meet_all.ensures.reads.least in
    let most = c.meet_all.ensures.reads.most in
    let before = c.args.self.now.source.lookups in
    let after = c.meet_all.new.self.source.lookups in
    let rising : before ≤ after = omega (arith, least, c.fetch.ensures.reads.least) in
    let why : FailsToCome (g.F.Lookup.is_honest c.args.self.now.source.objects) (g.F.Lookup.may_fail c.args.self.now.source.objects) (g.F.Lookup.table c.args.self.now.source.objects) c.args.self.now c.args.id simple.Memory c.meet_all.new.self = record {
      cause = tt;
      counts = rising;
      in_breadth = λ b. let few = subst (λ (t : Option Timing). after ≤ c.fetch.new.self.lookups + times_of t c.as_slice.result.now) b most in omega (arith, few, c.fetch.ensures.reads.most);
      unasked = inl refl;
    } in
    rw (p.1, p.2) why
