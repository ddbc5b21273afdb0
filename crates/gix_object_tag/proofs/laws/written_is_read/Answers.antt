use Rattle.gix_object_tag.proofs.ReadBack.{written_back}
use Rattle.gix_object_tag.proofs.laws.written_is_read.Goals as goal

pub returns : goal.returns
returns c = written_back c.args._hash_kind
