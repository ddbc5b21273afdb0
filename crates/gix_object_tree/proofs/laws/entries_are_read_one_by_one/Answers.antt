use Rattle.gix_object_tree.proofs.TreeLaws.{gives, gives_only}
use Rattle.gix_object_tree.proofs.laws.entries_are_read_one_by_one.Goals as goal

pub returns : goal.returns
returns c = λ entries. (gives c.args._hash_kind c.args._content.now entries, gives_only c.args._hash_kind c.args._content.now entries)
