use Rattle.std.proofs.Common.{sym}
use Rattle.history_rounds.proofs.Chained.{explained, goes_on_so}
use Rattle.history_rounds.proofs.rounds.round_after.Goals as goal

pub returns-clause-headline : goal.returns-clause-headline
returns-clause-headline g c = λ pair rounds r honest_objects honest_names whole are at.
    let F = g.F.Files in
    let before = explained c.args.kind pair rounds r _ whole are (sym at) in
    goes_on_so F.history F.failures F.reading_may_fail g.R.Source.left g.R.Source.readings g.W.Sink.contents c.args.kind c.args.objects c.args.names _ _ _ _ pair rounds r whole before c.round.result
    (c.round.ensures.round before.new honest_objects honest_names before.stands)
