use Rattle.std.proofs.Common.{map, take}
use Rattle.std.specs.List.{AllZip}
use Rattle.history_store.specs.Changing.{AsksAs, moved_in}
use Rattle.history_store.proofs.edits.updates_of.Given as goal

-- the edits so far are those of the names so far
abbrev pub invariant-loop-named : goal.invariant-loop-named
invariant-loop-named l = AllZip AsksAs (map moved_in (take l.named-index l.moved)) l.edits.items
