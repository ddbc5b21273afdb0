use Rattle.std.proofs.Common.{◌≡◌, ◌++◌, map, drop}
use Rattle.gix_ref_format.specs.Edited.{lines_of}
use Rattle.gix_ref_lock.specs.RecordEdits.{line_in}
use Rattle.gix_ref_lock.proofs.packed.lent.Given as goal

abbrev pub invariant-loop-edit : goal.invariant-loop-edit
invariant-loop-edit l = lines_of l.lines.items ++ map line_in (drop l.edit-index l.edits) ≡ map line_in l.edits
