use Rattle.std.proofs.Common.{◌∙◌, ap, sym}
use Rattle.gix_hash.specs.declared.object_id.ObjectId.{ObjectId}
use Rattle.gix_traverse_graph.specs.Commits.{Commit}
use Rattle.gix_traverse_graph.proofs.RowLemmas.{commit_from_row}
use Rattle.gix_traverse_graph.proofs.rows.Graph.parents_of.Goals as goal

pub returns-clause-parents : goal.returns-clause-parents
returns-clause-parents c =
    let found = c.in_ok-row.ensures.found in
    c.as_slice.ensures ∙ sym (ap (λ (m : Commit ObjectId). m.parents) (commit_from_row c.args.self.now c.in_ok-row.row.now c.args.id.now c.in_ok-row.ensures.rows found.0 found.1))
