use Rattle.std.proofs.Common.{sym}
use Rattle.history_word.proofs.LineLemmas.{done_is}
use Rattle.history_word.proofs.words.Words.is_done.Goals as goal

pub returns : goal.returns
returns c = done_is c.args.self.now.rest c.is_none.result (sym c.is_none.ensures)
