use Rattle.std.proofs.Common.{[]}
use Rattle.gix_object_tree.proofs.TreeLaws.{has_ids}
use Rattle.gix_object_any.proofs.ReadBack.{ids_of}
use Rattle.gix_object_any.proofs.laws.read_object_has_ids.Goals as goal

pub returns : goal.returns
returns c = λ value is. ids_of c.args._hash_kind is.content (λ items told. has_ids c.args._hash_kind is.content items [] told) value is.told.spelled
