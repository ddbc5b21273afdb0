use Rattle.history_layout.proofs.Packs.{packs_read_alike as lemma}
use Rattle.history_layout.proofs.passing.packs_read_alike.Goals as goal

pub returns : goal.returns
returns c = lemma
