use Rattle.std.proofs.Common.{inr, Vec}
use Rattle.std.specs.declared.alloc.Global.{Global}
use Rattle.gix_hash.specs.declared.object_id.ObjectId.{ObjectId}
use Rattle.gix_traverse_commit_known.specs.Asked.{Answers}
use Rattle.gix_traverse_commit_known.specs.Told.{rows_of}
use Rattle.gix_traverse_graph.specs.declared.parents.Parents.TheVariants.{All as AllParents}
use Rattle.history_walks.specs.Faults.{WalkFault}
use Rattle.history_walks.specs.ReadCommits.{table_of}
use Rattle.history_walks.specs.Simply.{asked}
use Rattle.history_walks.proofs.Alone.{alone, answers_then, fault_then, told_alone}
use Rattle.history_walks.proofs.Kept.{kept_same}
use Rattle.history_walks.proofs.Reading.{reads_with, refused_with}
use Rattle.history_walks.proofs.Walking.{err_then, ok_then, told_error}
use Rattle.history_walks.proofs.simply.listed_by_time.Goals as goal

pub returns-in_err-commits-clause-refused : goal.returns-in_err-commits-clause-refused
returns-in_err-commits-clause-refused g c =
    λ is h told. told_error (WalkFault (g.S.Lookup.may_fail c.args.store.now) (rows_of c.args.rows) (g.S.Lookup.table c.args.store.now) h c.args.tips.items c.args.hidden.items) c.from_residual-in_err-commits.result c.in_err-commits.field-0.0
    c.from_residual-in_err-commits.ensures.1
    (refused_with g.S.Lookup.is_honest (g.S.Lookup.may_fail c.args.store.now) g.S.Lookup.table c.args.store.now c.in_ok-copied.field-0 c.args.rows c.in_ok-copied.ensures c.deref.result.now c.args.tips.items c.deref-2.result.now c.args.hidden.items c.deref.ensures.value
    c.deref-2.ensures.value c.in_err-commits.field-0.0 c.in_err-commits.ensures.refused is h told)

pub returns-clause-lists : goal.returns-clause-lists
returns-clause-lists g c =
    let tips = c.args.tips.items in
    let hidden = c.args.hidden.items in
    let contents = c.in_ok-commits.commits.contents in
    let table = g.S.Lookup.table c.args.store.now in
    let rows = rows_of c.args.rows in
    λ is h told. let kept = kept_same h c.deref.result.now tips c.deref-2.result.now hidden rows table (table_of contents) c.deref.ensures.value c.deref-2.ensures.value (reads_with g.S.Lookup.is_honest g.S.Lookup.table c.args.store.now c.in_ok-copied.field-0 c.args.rows c.in_ok-copied.ensures c.deref.result.now c.deref-2.result.now contents c.in_ok-commits.ensures.reads is h told) in
    ok_then c.listed.result (λ (ids : Vec ObjectId Global). Answers (alone rows contents h) (asked tips hidden AllParents c.args.sorting) ids.items) (λ (ids : Vec ObjectId Global). Answers h (asked tips hidden AllParents c.args.sorting) ids.items)
    (λ ids answers. answers_then rows contents table h tips hidden kept c.args.sorting ids.items answers) (c.listed.ensures.lists tt (alone rows contents h) (told_alone rows contents table h tips hidden kept told) (inr (λ z. z)))

pub returns-clause-refused : goal.returns-clause-refused
returns-clause-refused g c =
    let tips = c.args.tips.items in
    let hidden = c.args.hidden.items in
    let contents = c.in_ok-commits.commits.contents in
    let table = g.S.Lookup.table c.args.store.now in
    let rows = rows_of c.args.rows in
    λ is h told. let kept = kept_same h c.deref.result.now tips c.deref-2.result.now hidden rows table (table_of contents) c.deref.ensures.value c.deref-2.ensures.value (reads_with g.S.Lookup.is_honest g.S.Lookup.table c.args.store.now c.in_ok-copied.field-0 c.args.rows c.in_ok-copied.ensures c.deref.result.now c.deref-2.result.now contents c.in_ok-commits.ensures.reads is h told) in
    err_then c.listed.result (WalkFault ⊥ rows (table_of contents) (alone rows contents h) tips hidden) (WalkFault (g.S.Lookup.may_fail c.args.store.now) rows table h tips hidden)
    (λ error fault. fault_then rows contents table h tips hidden kept (g.S.Lookup.may_fail c.args.store.now) error fault) (c.listed.ensures.refused tt (alone rows contents h) (told_alone rows contents table h tips hidden kept told) (inr (λ z. z)))
