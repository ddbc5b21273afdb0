use Rattle.history_model.proofs.WholeStored.{accepted_store_exactly as lemma}
use Rattle.history_model.proofs.laws.wholeness.accepted_store_exactly.Goals as goal

pub returns : goal.returns
returns c = lemma
