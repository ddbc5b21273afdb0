use Rattle.gix_object_any.proofs.OneObject.{same_value}
use Rattle.gix_object_any.proofs.laws.one_value.Goals as goal

pub returns : goal.returns
returns c = same_value c.args.hash_kind c.args.content.now c.bytes_spell_one_tree.ensures c.one_commit.ensures c.one_tag.ensures
