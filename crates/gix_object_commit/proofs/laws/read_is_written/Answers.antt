use Rattle.std.proofs.Common.{sym}
use Rattle.gix_object_commit.proofs.Accepted.{accepted}
use Rattle.gix_object_commit.proofs.laws.read_is_written.Goals as goal

pub returns-clause-accepted : goal.returns-clause-accepted
returns-clause-accepted c = λ parts is fits. accepted c.args._hash_kind c.args._input.now parts is fits

pub returns-clause-bytes : goal.returns-clause-bytes
returns-clause-bytes c = λ parts is. sym is.spelled
