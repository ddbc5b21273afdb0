use Rattle.std.proofs.Common.{◌≡◌, sym, subst}
use Rattle.gix_object_any.specs.Loose.{loose_text}
use Rattle.gix_object_any.specs.Object.{kind_of, value_text}
use Rattle.gix_object_any.proofs.laws.owned.owned_object_is_written_back.Goals as goal

pub returns : goal.returns
returns c = λ value object is own kept one.
    subst (λ v. loose_text (kind_of v) (value_text v) ≡ c.args.bytes.now) (sym (c.owned_object_keeps_its_value.ensures value object is own kept)) (c.read_object_is_written_back.ensures.bytes value is one)
