use Rattle.std.proofs.Common.{◌∙◌, ap}
use Rattle.std.specs.Option.{option_and_then}
use Rattle.gix_object_signature.specs.Status.{level_named}
use Rattle.gix_object_signature.proofs.verify.lines.level_of.Goals as goal

pub returns-in-Some : goal.returns-in-Some
returns-in-Some c = c.level_named.ensures ∙ ap (λ o. option_and_then level_named o) c.in-Some.ensures

pub returns-in-None : goal.returns-in-None
returns-in-None c = ap (λ o. option_and_then level_named o) c.in-None.ensures
