use Rattle.std.proofs.Common.{[]}
use Rattle.gix_object_tree.proofs.TreeLaws.{has_ids, not_refused, written_again}
use Rattle.gix_object_tree.proofs.laws.read_tree_is_written.Goals as goal

pub returns-clause-ids : goal.returns-clause-ids
returns-clause-ids c = λ items is. has_ids c.args._hash_kind c.args._content.now items [] is

pub returns-clause-accepted : goal.returns-clause-accepted
returns-clause-accepted c = not_refused c.args._hash_kind c.args._content.now

pub returns-clause-bytes : goal.returns-clause-bytes
returns-clause-bytes c = written_again c.args._hash_kind c.args._content.now
