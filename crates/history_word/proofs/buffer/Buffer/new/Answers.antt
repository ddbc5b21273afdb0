use Rattle.history_word.proofs.HeldLemmas.{held_none}
use Rattle.history_word.proofs.buffer.Buffer.new.Goals as goal

pub returns-clause-empty : goal.returns-clause-empty
returns-clause-empty c = held_none 0 _
