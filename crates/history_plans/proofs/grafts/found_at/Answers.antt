use Rattle.std.proofs.Common.{Err, ap}
use Rattle.gix_hash.specs.Id.{id_of}
use Rattle.history_repository.proofs.Tables.{holds_known, root_of}
use Rattle.history_repository.proofs.ReadingFaults.{find_told, read_told}
use Rattle.history_plans.proofs.TreesRead.{read_trees, stored_trees}
use Rattle.history_plans.proofs.grafts.found_at.Goals as goal

pub returns-in_err-read_on_paths-clause-found : goal.returns-in_err-read_on_paths-clause-found
returns-in_err-read_on_paths-clause-found g c = λ r below stands at trees.
    find_told g.F.Files.reading_may_fail _ c.from_residual-in_err-read_on_paths.result c.in_err-read_on_paths.field-0.0 c.from_residual-in_err-read_on_paths.ensures.1 (λ same. c.in_err-read_on_paths.ensures.failed (ap Err same))

pub returns-clause-found : goal.returns-clause-found
returns-clause-found g c = λ r below stands at trees.
    let own = c.args.repository.now in
    let known = holds_known _ _ own r stands in
    let kept = c.in_ok-read_on_paths.ensures.kept known (stored_trees _ _ own r stands c.args.read.now trees) in
    c.in_ok-entry_at.ensures.found (known, kept) r.kind below (root_of _ _ own r stands (id_of c.args.tree.now) below at)

pub returns-in_err-entry_at-clause-found : goal.returns-in_err-entry_at-clause-found
returns-in_err-entry_at-clause-found g c = λ r below stands at trees.
    let own = c.args.repository.now in
    let known = holds_known _ _ own r stands in
    let kept = c.in_ok-read_on_paths.ensures.kept known (stored_trees _ _ own r stands c.args.read.now trees) in
    read_told g.F.Files.reading_may_fail _ c.from_residual-in_err-entry_at.result c.in_err-entry_at.field-0.0 c.from_residual-in_err-entry_at.ensures.1
    (c.in_err-entry_at.ensures.refused (known, kept) r.kind below (root_of _ _ own r stands (id_of c.args.tree.now) below at))

pub returns-clause-trees : goal.returns-clause-trees
returns-clause-trees g c = λ r stands trees.
    let own = c.args.repository.now in
    read_trees _ _ own r stands c.read_on_paths.new.read (c.in_ok-read_on_paths.ensures.kept (holds_known _ _ own r stands) (stored_trees _ _ own r stands c.args.read.now trees))
