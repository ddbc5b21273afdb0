use Rattle.std.proofs.Common.{◌≡◌, ◌⊎◌, ◌-◌, length, take, []}
use Rattle.history_word.specs.Held.{IsUnbroken}
use Rattle.history_word.specs.Buffer.{unread}
use Rattle.history_word.specs.Taking.{Took}
use Rattle.history_word.proofs.reader.read_line.Given as goal

abbrev pub invariant-loop-length : goal.invariant-loop-length
invariant-loop-length g l =
    Took g.R.Source.left g.R.Source.readings l.fn.source l.fn.buffer l.source l.buffer [] × ((l.source ≡ l.fn.source) ⊎ IsUnbroken (take 4097 (unread l.fn.buffer)))

abbrev pub decreases-loop-length : goal.decreases-loop-length
decreases-loop-length g l = 8192 - length (unread l.buffer)
