use Rattle.std.proofs.Common.{◌≡◌, map, take}
use Rattle.std.specs.List.{filter_map}
use Rattle.gix_traverse_tree.specs.Recorder.{recorded_of}
use Rattle.history_files.specs.Reading.{line_of, line_recorded}
use Rattle.history_files.proofs.listing.files_among.Given as goal

abbrev pub invariant-loop-entry : goal.invariant-loop-entry
invariant-loop-entry l = map line_of l.files.items ≡ filter_map line_recorded (map recorded_of (take l.entry-index l.records))
