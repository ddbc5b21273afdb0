use Rattle.std.proofs.lemmas.Result.{err_from_is_err_and}
use Rattle.std.proofs.Common.{inl, inr, sym, List, [], subst}
use Rattle.gix_hash.specs.declared.object_id.ObjectId.{ObjectId}
use Rattle.gix_traverse_graph.specs.Commits.{asked_parents, Reached, Listed}
use Rattle.gix_traverse_graph.specs.Standing.{NotIn, Paints, IsMissing, plain_request}
use Rattle.gix_traverse_graph.specs.Rows.{Holds}
use Rattle.gix_traverse_graph.specs.RowCommits.{commits_of}
use Rattle.gix_traverse_graph.specs.declared.parents.Parents.TheVariants.{All as AllParents}
use Rattle.gix_traverse_graph.proofs.Walked.{breadth_same, paints_from, to_walked, from_walked, of_missing, all_reached}
use Rattle.gix_traverse_graph.proofs.walk.breadth_first.Goals as goal

pub returns-clause-listed : goal.returns-clause-listed
returns-clause-listed c =
    let paints : Paints c.args.rows.now c.args.hidden.now c.as_slice.result.now = subst (λ (hs : List ObjectId). Paints c.args.rows.now c.args.hidden.now hs) (sym c.as_slice.ensures.value) (paints_from c.args.rows.now c.args.hidden.now c.in_ok-hides.hides.items c.in_ok-hides.ensures.listed) in
    breadth_same (asked_parents c.args.parents (commits_of c.args.rows.now)) c.args.tips.now (λ x. Reached (asked_parents c.args.parents (commits_of c.args.rows.now)) (NotIn c.as_slice.result.now) c.args.tips.now x) (Listed (commits_of c.args.rows.now) (plain_request c.args.tips.now c.args.hidden.now c.args.parents)) c.in_ok-listed.listed.items
    (λ x r. from_walked c.args.rows.now c.args.tips.now c.args.hidden.now c.as_slice.result.now c.args.parents paints x r)
    (λ x l. to_walked c.args.rows.now c.args.tips.now c.args.hidden.now c.as_slice.result.now c.args.parents paints x l)
    c.in_ok-listed.ensures.listed

pub returns-in_err-hides-clause-missing : goal.returns-in_err-hides-clause-missing
returns-in_err-hides-clause-missing c =
    let rows = c.args.rows.now in
    let q = plain_request c.args.tips.now c.args.hidden.now c.args.parents in
    let p = err_from_is_err_and c.from_residual.result c.from_residual.ensures.1 in
    rw (p.1, p.2) (of_missing
    (λ x. (¬ Holds rows x) × Reached (asked_parents AllParents (commits_of rows)) (NotIn []) c.args.hidden.now x)
    (IsMissing rows q)
    (λ x h. (h.0, inr (all_reached rows c.args.hidden.now h.1)))
    c.in_err-hides.field-0.0 c.in_err-hides.ensures.missing)

pub returns-in_err-listed-clause-missing : goal.returns-in_err-listed-clause-missing
returns-in_err-listed-clause-missing c =
    let rows = c.args.rows.now in
    let hs = c.as_slice.result.now in
    let q = plain_request c.args.tips.now c.args.hidden.now c.args.parents in
    let paints : Paints rows c.args.hidden.now hs = subst (λ (hs : List ObjectId). Paints rows c.args.hidden.now hs) (sym c.as_slice.ensures.value) (paints_from rows c.args.hidden.now c.in_ok-hides.hides.items c.in_ok-hides.ensures.listed) in
    let p = err_from_is_err_and c.from_residual-in_err-listed.result c.from_residual-in_err-listed.ensures.1 in
    rw (p.1, p.2) (of_missing
    (λ x. (¬ Holds rows x) × Reached (asked_parents c.args.parents (commits_of rows)) (NotIn hs) c.args.tips.now x)
    (IsMissing rows q)
    (λ x h. (h.0, inl (from_walked rows c.args.tips.now c.args.hidden.now hs c.args.parents paints x h.1)))
    c.in_err-listed.field-0.0 c.in_err-listed.ensures.missing)
