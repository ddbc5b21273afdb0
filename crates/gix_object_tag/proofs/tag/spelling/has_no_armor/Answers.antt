use Rattle.std.proofs.Common.{refl}
use Rattle.gix_object_tag.proofs.tag.spelling.has_no_armor.Goals as goal

pub returns-in-Some : goal.returns-in-Some
returns-in-Some c = (λ e. absurd cc, λ none. absurd (none _ _ c.in-Some.ensures.armored))

pub returns-in-None : goal.returns-in-None
returns-in-None c = (λ e. c.in-None.ensures, λ none. refl)
