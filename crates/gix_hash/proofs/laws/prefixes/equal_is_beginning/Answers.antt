use Rattle.gix_hash.specs.Id.{id_of}
use Rattle.gix_hash.proofs.Edges.{begins_equal}
use Rattle.gix_hash.proofs.laws.prefixes.equal_is_beginning.Goals as goal

pub returns : goal.returns
returns c =
    begins_equal c.args.prefix.now.digits (id_of c.args.id.now).digits
