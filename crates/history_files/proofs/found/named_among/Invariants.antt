use Rattle.std.proofs.Common.{◌≡◌, map, drop}
use Rattle.gix_object_tree.specs.Entry.{item_of}
use Rattle.gix_object_nodes.specs.Files.{named}
use Rattle.history_files.proofs.found.named_among.Given as goal

abbrev pub invariant-loop-entry : goal.invariant-loop-entry
invariant-loop-entry l = named l.name (map item_of l.entries) ≡ named l.name (map item_of (drop l.entry-index l.entries))
