use Rattle.history_plans.specs.Needed.{AreNeededOf}
use Rattle.history_plans.proofs.needed.needed.Given as goal

-- of the objects so far these need storing
abbrev pub invariant-loop-object : goal.invariant-loop-object
invariant-loop-object l = AreNeededOf l.read l.yielded l.needed.items
