use Rattle.std.proofs.Common.{◌∙◌, sym, subst, List}
use Rattle.gix_traverse_graph.specs.declared.rows.Row.{Row}
use Rattle.history_model.specs.Answers.{rows_of}
use Rattle.history_walks.specs.Rows.{AreTheRows}
use Rattle.history.proofs.RowsKept.{index_answered, index_stopped, index_unmade, rows_agree, rows_serve}
use Rattle.history.proofs.indexing.index.Goals as goal

pub returns-in_err-rows-clause-answers : goal.returns-in_err-rows-clause-answers
returns-in_err-rows-clause-answers g c = λ r h.
    index_stopped g.F.Files.reading_may_fail (λ rows. AreTheRows (rows_of r) rows.items) r c.all_rows.result c.from_residual.result c.in_err-rows.field-0.0 c.in_err-rows.was c.from_residual.ensures.1
    (c.all_rows.ensures.rows r h)

pub returns-in_err-from_rows-clause-answers : goal.returns-in_err-from_rows-clause-answers
returns-in_err-from_rows-clause-answers g c = λ r h.
    index_unmade g.F.Files.reading_may_fail r c.in_ok-rows.rows.items (c.in_ok-rows.ensures.graph r h) c.from_residual-in_err-from_rows.result c.in_err-from_rows.field-0.0 c.from_residual-in_err-from_rows.ensures.1 c.in_err-from_rows.ensures.refused

pub returns-clause-answers : goal.returns-clause-answers
returns-clause-answers g c = λ r h.
    index_answered g.F.Files.reading_may_fail r c.in_ok-rows.rows.items c.len.result c.in_ok-text.text (c.in_ok-rows.ensures.rows r h) (c.len.ensures ∙ c.in_ok-rows.rows.ok.0) c.in_ok-text.ensures

pub returns-clause-serves : goal.returns-clause-serves
returns-clause-serves g c = λ r h.
    let rows = c.in_ok-from_rows.field-0 in
    let are = subst (λ (found : List Row). AreTheRows (rows_of r) found) (sym c.in_ok-from_rows.ensures.kept) (c.in_ok-rows.ensures.rows r h) in
    rows_serve g.F.Files.is_honest g.F.Files.history c.args.repository.now r rows h (rows_agree r rows are c.in_ok-from_rows.ensures.whole)

pub returns-clause-rows : goal.returns-clause-rows
returns-clause-rows g c = λ r h. subst (λ (found : List Row). AreTheRows (rows_of r) found) (sym c.in_ok-from_rows.ensures.kept) (c.in_ok-rows.ensures.rows r h)
