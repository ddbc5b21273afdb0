use Rattle.std.proofs.Common.{length}
use Rattle.gix_object_tree.specs.Reading.{place_of}
use Rattle.gix_traverse_tree.proofs.Telling.{Told}
use Rattle.gix_traverse_tree.proofs.at_paths.record_all_found.Given as goal

abbrev pub invariant-entries : goal.invariant-entries
invariant-entries l = Told (place_of l.fn.entries) (place_of l.rest) l.folder l.initial.found.items l.found.items

abbrev pub decreases-entries : goal.decreases-entries
decreases-entries l = length (place_of l.rest).input
