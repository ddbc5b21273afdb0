use Rattle.std.proofs.Common.{◌≡◌, ◌++◌, map}
use Rattle.history_plans.specs.Plans.{object_parts, tree_parts}
use Rattle.history_plans.proofs.planning.add_tree_objects.Given as goal

-- the trees so far
abbrev pub invariant-loop-tree : goal.invariant-loop-tree
invariant-loop-tree l = map object_parts l.objects.items ≡ map object_parts l.initial.objects.items ++ map tree_parts l.yielded
