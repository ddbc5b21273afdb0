use Rattle.history_edits.proofs.WholeReads.{reads_whole as lemma}
use Rattle.history_edits.proofs.laws.reads_whole.Goals as goal

pub returns : goal.returns
returns c = lemma
