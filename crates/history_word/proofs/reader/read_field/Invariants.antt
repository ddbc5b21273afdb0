use Rattle.std.proofs.Common.{◌≡◌, ℕ, ◌+◌, List, length}
use Rattle.std.specs.Prelude.{IfSome}
use Rattle.history_word.specs.Taking.{Took, AsksForMore}
use Rattle.history_word.specs.Fields.{KeepsFront}
use Rattle.history_word.proofs.reader.read_field.Given as goal

abbrev pub invariant-loop-rest : goal.invariant-loop-rest
invariant-loop-rest g l =
    (front : List ℕ) × (length front + l.rest ≡ l.size) × Took g.R.Source.left g.R.Source.readings l.fn.source l.fn.buffer l.source l.buffer front × IfSome l.field (λ kept. KeepsFront l.limit l.size kept front)
    × AsksForMore l.fn.source l.fn.buffer l.source front

abbrev pub decreases-loop-rest : goal.decreases-loop-rest
decreases-loop-rest g l = l.rest
