-- The rows of the last `ok index`.
use Rattle.std.specs.Prelude.{◌≡◌, List, Option, None, Some}
use Rattle.gix_traverse_graph.specs.declared.rows.Row.{Row}
use Rattle.history_model.specs.Commands.{Command}
use Rattle.history_model.specs.Replies.{Reply}
use Rattle.history_model.specs.Repository.{Repository}
use Rattle.history_model.specs.Steps.{rows_after}
use Rattle.history_walks.specs.Rows.{AreTheRows}
use Rattle.history_model.specs.Answers as model

-- ---- the rows of the last `ok index`

-- exactly these rows are kept, or none
abbrev pub KeepsRows : Option (List model.Row) → Option (List Row) → Type 0
KeepsRows None kept = kept ≡ None
KeepsRows (Some plain) None = ⊥
KeepsRows (Some plain) (Some rows) = AreTheRows plain rows

-- These commands with these replies, from this repository on, lead from the first rows to the
-- second: those that the last `ok index` counted, in the state at that time.
abbrev pub FollowsRows : Option (List Row) → Option (List Row) → Repository → List Command
    → List Reply → Type 0
FollowsRows old new r commands replies =
    (rows : Option (List model.Row)) → KeepsRows rows old
    → KeepsRows (rows_after r rows commands replies) new
