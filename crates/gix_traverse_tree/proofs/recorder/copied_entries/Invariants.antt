use Rattle.std.proofs.Common.{◌≡◌, map, take}
use Rattle.gix_traverse_tree.specs.Recorder.{recorded_of}
use Rattle.gix_traverse_tree.proofs.recorder.copied_entries.Given as goal

abbrev pub invariant-entries : goal.invariant-entries
invariant-entries l = map recorded_of l.copies.items ≡ map recorded_of (take l.entry-index l.entries)
