use Rattle.std.proofs.Common.{◌≡◌, map, take}
use Rattle.gix_object_tree.specs.Entry.{item_of}
use Rattle.history_texts.specs.Written.{named_by_item, naming_of}
use Rattle.history_texts.proofs.written.trees.names_of.Given as goal

-- what the entries so far name
abbrev pub invariant-loop-entry : goal.invariant-loop-entry
invariant-loop-entry l = map naming_of l.names.items ≡ map named_by_item (map item_of (take l.entry-index l.entries))
