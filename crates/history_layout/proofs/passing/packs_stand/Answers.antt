use Rattle.history_layout.proofs.Packs.{packs_stand as lemma}
use Rattle.history_layout.proofs.passing.packs_stand.Goals as goal

pub returns : goal.returns
returns c = lemma
