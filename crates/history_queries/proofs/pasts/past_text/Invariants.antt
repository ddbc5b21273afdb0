use Rattle.std.proofs.Common.{◌≡◌, ◌++◌, take}
use Rattle.std.specs.List.{flat_map}
use Rattle.history_model.specs.Bytes.{line}
use Rattle.history_queries.proofs.pasts.past_text.Given as goal

-- the moves so far
abbrev pub invariant-loop-entry : goal.invariant-loop-entry
invariant-loop-entry l = l.text.items ≡ l.initial.text.items ++ flat_map (λ entry. line entry.now) (take l.entry-index l.entry-items)
