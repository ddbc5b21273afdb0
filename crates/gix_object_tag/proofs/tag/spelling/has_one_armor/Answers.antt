use Rattle.gix_object_tag.proofs.BodyTests.{one_armor}
use Rattle.gix_object_tag.proofs.tag.spelling.has_one_armor.Goals as goal

pub returns-in-Some : goal.returns-in-Some
returns-in-Some c = one_armor c.args.text.now c.in-Some.front.now c.in-Some.field-0-1.now c.is_empty.result c.is_empty.ensures c.in-Some.ensures

pub returns-in-None : goal.returns-in-None
returns-in-None c = (λ e. absurd cc, λ is. absurd (c.in-None.ensures _ _ is.armored))
