use Rattle.history_plans.proofs.Edits.{graft_named}
use Rattle.history_plans.proofs.editing.read_edit.Goals as goal

pub returns-in-Graft-clause-change : goal.returns-in-Graft-clause-change
returns-in-Graft-clause-change c = λ r kind found.
    graft_named r c.args.edit c.in-Graft.graft c.in-Graft.is c.args.found c.into_kept-path-in-Graft.result.items c.into_kept-path-in-Graft.ensures found
