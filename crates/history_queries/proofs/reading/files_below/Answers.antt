use Rattle.history_repository.proofs.Tables.{holds_known, root_of}
use Rattle.history_repository.proofs.ReadingFaults.{read_told}
use Rattle.history_queries.proofs.reading.files_below.Goals as goal
use Rattle.gix_hash.specs.Id.{id_of}

pub returns : goal.returns
returns g c = λ r below stands at.
    c.in_ok-files_by_trees.ensures.files (holds_known _ _ c.args.repository.now r stands) r.kind below (root_of _ _ c.args.repository.now r stands (id_of c.args.tree.now) below at)

pub returns-in_err-files_by_trees : goal.returns-in_err-files_by_trees
returns-in_err-files_by_trees g c = λ r below stands at.
    read_told g.F.Files.reading_may_fail _ c.from_residual.result c.in_err-files_by_trees.field-0.0 c.from_residual.ensures.1
    (c.in_err-files_by_trees.ensures.refused (holds_known _ _ c.args.repository.now r stands) r.kind below (root_of _ _ c.args.repository.now r stands (id_of c.args.tree.now) below at))
