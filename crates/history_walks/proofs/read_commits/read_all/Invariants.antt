use Rattle.gix_traverse_commit.specs.Simply.{left_of, objects_of}
use Rattle.history_walks.proofs.Reading.{HasRead}
use Rattle.history_walks.proofs.read_commits.read_all.Given as goal

abbrev pub invariant-walk : goal.invariant-walk
invariant-walk g l = HasRead g.F.Lookup.is_honest g.F.Lookup.may_fail g.F.Lookup.table g.F.Lookup.ids l.fn.walk l.walk l.contents

abbrev pub decreases-walk : goal.decreases-walk
decreases-walk g l = left_of (g.F.Lookup.ids (objects_of l.fn.walk)) l.walk
