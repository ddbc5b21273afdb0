use Rattle.std.proofs.Common.{◌≡◌, ◌++◌, map, drop, option_map, None}
use Rattle.gix_ref_name.specs.Names.{name_of}
use Rattle.gix_ref_format.specs.Packed.{record_of}
use Rattle.gix_ref_format.specs.Edited as spec
use Rattle.gix_ref_format.proofs.packed.merge.one_of_each_name.Given as goal

abbrev pub invariant-loop-line : goal.invariant-loop-line
invariant-loop-line l =
    map record_of l.records.items ++ spec.standing (option_map name_of l.last) (spec.lines_of (drop l.line-index l.lines)) ≡ spec.standing None (spec.lines_of l.lines)
