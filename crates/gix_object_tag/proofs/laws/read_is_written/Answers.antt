use Rattle.gix_object_tag.proofs.Accepted.{accepted}
use Rattle.gix_object_tag.proofs.WrittenBack.{read_is_written}
use Rattle.gix_object_tag.proofs.laws.read_is_written.Goals as goal

pub returns-clause-accepted : goal.returns-clause-accepted
returns-clause-accepted c = λ parts is writable. accepted c.args._hash_kind c.args._input.now parts is writable.0 writable.1

pub returns-clause-bytes : goal.returns-clause-bytes
returns-clause-bytes c = read_is_written c.args._hash_kind c.args._input.now
