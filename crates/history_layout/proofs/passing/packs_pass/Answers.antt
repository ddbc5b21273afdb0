use Rattle.history_layout.proofs.Packs.{packs_pass as lemma}
use Rattle.history_layout.proofs.passing.packs_pass.Goals as goal

pub returns : goal.returns
returns c = lemma
