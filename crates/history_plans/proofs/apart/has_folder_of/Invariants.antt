use Rattle.history_plans.proofs.ApartLemmas.{NoneBefore}
use Rattle.history_plans.proofs.apart.has_folder_of.Given as goal

-- no folder that ends before this place is among the names
abbrev pub invariant-loop-end : goal.invariant-loop-end
invariant-loop-end l = NoneBefore l.end l.name l.names.keys
