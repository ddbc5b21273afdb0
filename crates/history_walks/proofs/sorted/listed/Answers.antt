use Rattle.gix_traverse_commit_known.specs.Told.{rows_of}
use Rattle.gix_traverse_topo.specs.Asking.{asked_of}
use Rattle.history_walks.specs.Faults.{WalkFault, as_sorted}
use Rattle.history_walks.proofs.Walking.{sorted_lists, sorted_refused, told_error, unbuilt}
use Rattle.history_walks.proofs.sorted.listed.Goals as goal

pub returns-in_err-build-clause-refused : goal.returns-in_err-build-clause-refused
returns-in_err-build-clause-refused g c =
    let made = c.in_ok-from_iters.ensures in
    λ is h told. told_error (WalkFault (g.S.Lookup.may_fail c.args.store.now) (rows_of c.args.rows) (g.S.Lookup.table c.args.store.now) h c.args.tips.now c.args.hidden.now) c.from_residual-in_err-build.result (as_sorted c.in_err-build.field-0.0) c.from_residual-in_err-build.ensures.1
    (unbuilt g.S.Lookup.is_honest g.S.Lookup.may_fail g.S.Lookup.table (asked_of c.in_ok-from_iters.field-0) (asked_of c.with_commit_graph-builder.result) (asked_of c.parents.result) (asked_of c.sorting.result) c.args.store c.args.rows c.args.tips.now c.args.hidden.now c.args.sorting c.args.parents
    made.objects made.tips made.ends c.with_commit_graph-builder.ensures c.parents.ensures c.sorting.ensures is h told c.in_err-build.field-0.0 c.in_err-build.ensures.refused)

pub returns-clause-lists : goal.returns-clause-lists
returns-clause-lists g c =
    let made = c.in_ok-from_iters.ensures in
    sorted_lists g.S.Lookup.is_honest g.S.Lookup.may_fail g.S.Lookup.table (asked_of c.in_ok-from_iters.field-0) (asked_of c.with_commit_graph-builder.result) (asked_of c.parents.result) (asked_of c.sorting.result) c.args.store c.args.rows c.args.tips.now c.args.hidden.now c.args.sorting c.args.parents
    made.objects made.tips made.ends c.with_commit_graph-builder.ensures c.parents.ensures c.sorting.ensures c.in_ok-build.field-0 c.in_ok-build.ensures.begins c.in_ok-build.ensures.parents c.collect_ids.result c.collect_ids.ensures.lists

pub returns-clause-refused : goal.returns-clause-refused
returns-clause-refused g c =
    let made = c.in_ok-from_iters.ensures in
    sorted_refused g.S.Lookup.is_honest g.S.Lookup.may_fail g.S.Lookup.table (asked_of c.in_ok-from_iters.field-0) (asked_of c.with_commit_graph-builder.result) (asked_of c.parents.result) (asked_of c.sorting.result) c.args.store c.args.rows c.args.tips.now c.args.hidden.now c.args.sorting c.args.parents
    made.objects made.tips made.ends c.with_commit_graph-builder.ensures c.parents.ensures c.sorting.ensures c.in_ok-build.field-0 c.in_ok-build.ensures.begins c.in_ok-build.ensures.parents c.collect_ids.result c.collect_ids.ensures.refused
