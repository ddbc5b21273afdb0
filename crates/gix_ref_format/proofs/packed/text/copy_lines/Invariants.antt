use Rattle.std.proofs.Common.{drop, option_map}
use Rattle.gix_ref_name.specs.Names.{name_of}
use Rattle.gix_ref_format.specs.Edited.{Rises, lines_of}
use Rattle.gix_ref_format.specs.PackedBuffer.{entry_records}
use Rattle.gix_ref_format.specs.PackedText.{AllStand}
use Rattle.gix_ref_format.proofs.MergeLemmas.{OnTheWay}
use Rattle.gix_ref_format.proofs.packed.text.copy_lines.Given as goal

abbrev pub invariant-loop-line : goal.invariant-loop-line
invariant-loop-line l =
    Rises (lines_of l.lines) → AllStand (entry_records l.fn.all.entries.now)
    → OnTheWay (entry_records l.fn.all.entries.now) (lines_of l.lines) l.fn.text.items l.text.items (option_map name_of l.last) (entry_records l.rest.entries.now) (lines_of (drop l.line-index l.lines))
