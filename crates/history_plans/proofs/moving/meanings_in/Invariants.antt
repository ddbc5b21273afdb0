use Rattle.std.proofs.Common.{◌≡◌, map, take}
use Rattle.std.specs.List.{flat_map}
use Rattle.history_repository.specs.Meanings.{meaning_of}
use Rattle.history_plans.specs.Moving.{line_meanings}
use Rattle.history_plans.proofs.moving.meanings_in.Given as goal

-- what the words of the lines so far read as
abbrev pub invariant-loop-line : goal.invariant-loop-line
invariant-loop-line l = map meaning_of l.meanings.items ≡ flat_map line_meanings (take l.line-index l.lines)
