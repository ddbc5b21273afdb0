use Rattle.std.proofs.Common.{refl}
use Rattle.history_word.specs.Held.{held}
use Rattle.history_word.proofs.buffer.Buffer.unread.Goals as goal

pub returns : goal.returns
unfolding held
returns c = refl
