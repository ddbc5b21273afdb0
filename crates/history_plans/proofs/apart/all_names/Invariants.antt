use Rattle.std.proofs.Common.{length, map}
use Rattle.history_plans.specs.Moving.{line_name}
use Rattle.history_plans.proofs.ApartLemmas.{Leaves}
use Rattle.history_plans.proofs.apart.all_names.Given as goal

-- the names that are kept and those that are left are all
abbrev pub invariant-lines : goal.invariant-lines
invariant-lines l = Leaves l.names.keys (map line_name l.rest) (map line_name l.lines)

abbrev pub decreases-lines : goal.decreases-lines
decreases-lines l = length l.rest
