use Rattle.std.proofs.Common.{◌≡◌, ◌++◌, map, take}
use Rattle.history_model.specs.Spelling.{parts_text}
use Rattle.history_repository.proofs.NameLines.{shown_part}
use Rattle.history_queries.proofs.listed.names_text.Given as goal

-- the names so far
abbrev pub invariant-loop-shown : goal.invariant-loop-shown
invariant-loop-shown l = l.text.items ≡ l.initial.text.items ++ parts_text (map shown_part (take l.shown-index l.names))
