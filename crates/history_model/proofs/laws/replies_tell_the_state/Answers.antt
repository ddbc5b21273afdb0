use Rattle.history_model.proofs.StepLemmas.{replies_tell_the_state as lemma}
use Rattle.history_model.proofs.laws.replies_tell_the_state.Goals as goal

pub returns : goal.returns
returns c = lemma
