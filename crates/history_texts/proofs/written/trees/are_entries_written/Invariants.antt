use Rattle.std.proofs.Common.{map, take}
use Rattle.std.specs.List.{All}
use Rattle.gix_object_tree.specs.Entry.{item_of}
use Rattle.history_texts.specs.Written.{IsWrittenEntry}
use Rattle.history_texts.proofs.written.trees.are_entries_written.Given as goal

-- the entries so far
abbrev pub invariant-loop-entry : goal.invariant-loop-entry
invariant-loop-entry l = All (IsWrittenEntry l.fn.digests) (take l.entry-index (map item_of l.entries))
