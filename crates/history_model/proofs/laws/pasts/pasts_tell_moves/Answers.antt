use Rattle.history_model.proofs.PastLemmas.{pasts_tell_moves as lemma}
use Rattle.history_model.proofs.laws.pasts.pasts_tell_moves.Goals as goal

pub returns : goal.returns
returns c = lemma
