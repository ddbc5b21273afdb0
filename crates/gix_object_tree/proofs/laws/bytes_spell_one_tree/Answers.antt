use Rattle.gix_object_tree.proofs.TreeLaws.{one_tree}
use Rattle.gix_object_tree.proofs.laws.bytes_spell_one_tree.Goals as goal

pub returns : goal.returns
returns c = one_tree c.args._hash_kind c.args._content.now
