use Rattle.gix_object_commit.proofs.Written.{written}
use Rattle.gix_object_commit.proofs.laws.written_is_read.Goals as goal

pub returns : goal.returns
returns c = written
