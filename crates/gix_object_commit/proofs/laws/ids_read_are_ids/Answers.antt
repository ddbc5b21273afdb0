use Rattle.gix_object_commit.proofs.HexDigits.{all_ids_of_hex}
use Rattle.gix_object_lines.proofs.HexDigits.{is_id_of_hex}
use Rattle.gix_object_commit.proofs.laws.ids_read_are_ids.Goals as goal

pub returns-clause-tree : goal.returns-clause-tree
returns-clause-tree c = λ parts is. is_id_of_hex c.args._hash_kind parts.tree is.tree

pub returns-clause-parents : goal.returns-clause-parents
returns-clause-parents c = λ parts is. all_ids_of_hex c.args._hash_kind parts.parents is.parents
