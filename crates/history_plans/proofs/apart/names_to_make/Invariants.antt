use Rattle.std.proofs.Common.{length}
use Rattle.history_plans.specs.Apart.{made_names}
use Rattle.history_plans.proofs.ApartLemmas.{Leaves}
use Rattle.history_plans.proofs.apart.names_to_make.Given as goal

-- the names that are kept and those that are left are all
abbrev pub invariant-lines : goal.invariant-lines
invariant-lines l = Leaves l.names.keys (made_names l.rest) (made_names l.lines)

abbrev pub decreases-lines : goal.decreases-lines
decreases-lines l = length l.rest
