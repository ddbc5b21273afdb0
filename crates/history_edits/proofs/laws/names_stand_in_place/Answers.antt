use Rattle.history_edits.proofs.WholeReads.{names_stand_in_place as lemma}
use Rattle.history_edits.proofs.laws.names_stand_in_place.Goals as goal

pub returns : goal.returns
returns c = lemma
