use Rattle.std.proofs.Common.{◌≡◌, ◌∙◌, ap, sym, subst, Contains, IfSome, option_map}
use Rattle.gix_traverse_commit_known.specs.Told.{rows_of as graph_rows}
use Rattle.history_queries.proofs.rows.row_of.Goals as goal

pub returns : goal.returns
returns g c =
    let kept = ap (option_map (λ rows. rows.now)) (sym c.in_ok-rows.was) ∙ c.rows.ensures in
    subst (λ rows. IfSome c.commit_by_id.result (λ row. Contains (graph_rows rows) row.now × (row.now.id ≡ c.args.id.now))) kept c.commit_by_id.ensures.found
