use Rattle.std.proofs.Common.{◌∙◌, sym}
use Rattle.gix_object_lines.proofs.NameLemmas.{found}
use Rattle.gix_object_lines.proofs.lines.name.holds.Goals as goal

pub returns : goal.returns
returns c = let f = found c.args.name.now c.args.part.now c.find.result c.find.ensures in (λ e. f.0 (sym c.is_some.ensures ∙ e), λ h. c.is_some.ensures ∙ f.1 h)
