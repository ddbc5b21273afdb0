use Rattle.std.proofs.Common.{◌≡◌, ◌++◌, length}
use Rattle.gix_ref_name.specs.Names.{part_of}
use Rattle.gix_ref_name.specs.Namespaces.{expanded}
use Rattle.gix_ref_name.proofs.namespace.expand.Given as goal

abbrev pub invariant-loop-component : goal.invariant-loop-component
invariant-loop-component l = expanded (part_of l.name) ≡ l.out.items ++ expanded l.left

abbrev pub decreases-loop-component : goal.decreases-loop-component
decreases-loop-component l = length l.left
