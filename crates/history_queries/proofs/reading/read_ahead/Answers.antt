use Rattle.std.proofs.Common.{sym, subst}
use Rattle.gix_object_lookup.specs.Table.{Table}
use Rattle.gix_traverse_commit_known.specs.Told.{rows_of}
use Rattle.gix_traverse_graph.specs.Rows.{AllHeld}
use Rattle.history_walks.specs.ReadCommits.{AreOf, kept_in}
use Rattle.history_queries.specs.Walked.{AllHold, AreRead}
use Rattle.history_queries.proofs.CommitsWalked.{commits_there, fails_so, rowed_there, stopped_there, told_there}
use Rattle.history_repository.proofs.Tables.{holds_known, tables_same}
use Rattle.history_repository.specs.Face.{rows_in}
use Rattle.history_queries.proofs.reading.read_ahead.Goals as goal

pub returns-then-not-keeps-clause-reads : goal.returns-then-not-keeps-clause-reads
returns-then-not-keeps-clause-reads g c = λ r stands known. known

pub returns-clause-reads : goal.returns-clause-reads
returns-clause-reads g c = λ r stands known.
    let own = c.args.repository.now in
    let kept = subst (λ (t : Table). AreOf t (kept_in c.args.known)) (sym (tables_same _ _ own r stands)) known in
    let commits = commits_there _ _ own r stands c.in_ok-rows.rows c.in_ok-rows.ensures in
    subst (λ (t : Table). AreOf t (kept_in c.in_ok-reached.field-0)) (tables_same _ _ own r stands)
    (c.in_ok-reached.ensures.reads (holds_known _ _ own r stands, kept) commits (told_there _ _ own r stands c.in_ok-rows.rows c.in_ok-rows.ensures)).stand

pub returns-in_err-reached-clause-stopped : goal.returns-in_err-reached-clause-stopped
returns-in_err-reached-clause-stopped g c = λ r stands known tips hidden.
    let own = c.args.repository.now in
    let kept = subst (λ (t : Table). AreOf t (kept_in c.args.known)) (sym (tables_same _ _ own r stands)) known in
    fails_so g.F.Files.reading_may_fail (AreRead r) c.from_residual-in_err-reached.result
    (stopped_there _ _ own r stands c.in_ok-rows.rows c.in_ok-rows.ensures c.deref.result.now c.deref-2.result.now (subst (AllHold r) (sym c.deref.ensures.value) tips) (subst (AllHold r) (sym c.deref-2.ensures.value) hidden) g.F.Files.reading_may_fail (AreRead r) c.from_residual-in_err-reached.result
    c.in_err-reached.field-0.0 c.from_residual-in_err-reached.ensures.1 (c.in_err-reached.ensures.refused (holds_known _ _ own r stands, kept) _ (told_there _ _ own r stands c.in_ok-rows.rows c.in_ok-rows.ensures)))

pub returns-in_err-reached-clause-rowed : goal.returns-in_err-reached-clause-rowed
returns-in_err-reached-clause-rowed g c = λ r stands known tips hidden.
    let own = c.args.repository.now in
    let kept = subst (λ (t : Table). AreOf t (kept_in c.args.known)) (sym (tables_same _ _ own r stands)) known in
    let held = AllHeld (rows_of (rows_in own)) in
    rowed_there _ _ own r stands c.in_ok-rows.rows c.in_ok-rows.ensures c.deref.result.now c.deref-2.result.now (subst held (sym c.deref.ensures.value) tips) (subst held (sym c.deref-2.ensures.value) hidden) g.F.Files.reading_may_fail c.from_residual-in_err-reached.result
    c.in_err-reached.field-0.0 c.from_residual-in_err-reached.ensures.1 (c.in_err-reached.ensures.refused (holds_known _ _ own r stands, kept) _ (told_there _ _ own r stands c.in_ok-rows.rows c.in_ok-rows.ensures))
