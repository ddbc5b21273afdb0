use Rattle.history_word.proofs.TakingLemmas.{took_none}
use Rattle.history_word.proofs.buffer.Buffer.has_more.Goals as goal

pub returns-then-not-is_empty-clause-took : goal.returns-then-not-is_empty-clause-took
returns-then-not-is_empty-clause-took g c = took_none g.R.Source.left g.R.Source.readings c.args.source.now c.args.self.now
