use Rattle.history_check_objects.proofs.Nexts.{nexts_are_stored as lemma}
use Rattle.history_check_objects.proofs.laws.nexts_are_stored.Goals as goal

pub returns : goal.returns
returns c = lemma
