use Rattle.gix_object_any.proofs.OwnedValues.{same_value}
use Rattle.gix_object_any.proofs.laws.owned.owned_object_keeps_its_value.Goals as goal

pub returns : goal.returns
returns c = λ value object is own kept. same_value c.lower_case_is_written.ensures c.args._hash_kind is.content value object is.told.spelled own kept
