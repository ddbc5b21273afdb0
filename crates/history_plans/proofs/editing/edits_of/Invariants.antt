use Rattle.std.proofs.Common.{◌≡◌, map, take}
use Rattle.history_plans.specs.Files.{change_parts, edit_parts}
use Rattle.history_plans.proofs.editing.edits_of.Given as goal

-- the changes so far
abbrev pub invariant-loop-change : goal.invariant-loop-change
invariant-loop-change l = map edit_parts l.edits.items ≡ map change_parts (take l.change-index l.changes)
