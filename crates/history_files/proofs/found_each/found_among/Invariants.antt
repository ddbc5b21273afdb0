use Rattle.std.proofs.Common.{◌≡◌, map, take}
use Rattle.std.specs.Prelude.{option_map}
use Rattle.history_files.specs.Reading.{entry_of, told_entry}
use Rattle.history_files.proofs.found_each.found_among.Given as goal

abbrev pub invariant-loop-entry : goal.invariant-loop-entry
invariant-loop-entry l = map (option_map entry_of) l.found.items ≡ map told_entry (take l.entry-index l.entries)
