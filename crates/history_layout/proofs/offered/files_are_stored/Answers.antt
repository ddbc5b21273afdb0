use Rattle.history_layout.proofs.OfferedFiles.{files_are_stored as lemma}
use Rattle.history_layout.proofs.offered.files_are_stored.Goals as goal

pub returns : goal.returns
returns c = lemma
