use Rattle.history_layout.proofs.OfferedReads.{tags_stand_for_others as lemma}
use Rattle.history_layout.proofs.offered.tags_stand_for_others.Goals as goal

pub returns : goal.returns
returns c = lemma
