use Rattle.history_model.proofs.Joining.{stops_make_rounds as lemma}
use Rattle.history_model.proofs.laws.joined.stops_make_rounds.Goals as goal

pub returns : goal.returns
returns g c = lemma g.F.Files.reading_may_fail
