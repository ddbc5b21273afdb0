use Rattle.gix_object_any.proofs.OneObject.{same_object}
use Rattle.gix_object_any.proofs.laws.one_loose_object.Goals as goal

pub returns : goal.returns
returns c = same_object c.args.hash_kind c.args.bytes.now c.content_of.result.now c.one_kind_and_content.ensures c.content_of.ensures c.one_value.ensures
