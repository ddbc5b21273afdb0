use Rattle.gix_hash.specs.Id.{id_of}
use Rattle.history_queries.proofs.CommitsWalked.{content_so}
use Rattle.history_queries.proofs.reading.commit_kept.Goals as goal

pub returns-in-Some : goal.returns-in-Some
returns-in-Some g c r value stands read at =
    c.commit_in.ensures r (id_of c.args.id.now) value stands at (content_so r (id_of c.args.id.now) value c.in-Some.content.now at (read c.args.id.now c.in-Some.content.now c.in-Some.ensures))

pub returns-in-None : goal.returns-in-None
returns-in-None g c r value stands read at = c.read_commit.ensures r value stands at
