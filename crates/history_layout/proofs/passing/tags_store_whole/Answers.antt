use Rattle.history_layout.proofs.PassedStops.{tags_store_whole as lemma}
use Rattle.history_layout.proofs.passing.tags_store_whole.Goals as goal

pub returns : goal.returns
returns c = lemma
