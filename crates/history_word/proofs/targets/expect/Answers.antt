use Rattle.std.proofs.Common.{◌∷◌, ◌∙◌}
use Rattle.std.proofs.lemmas.Slice.Eq.{slice_eq-Decides}
use Rattle.std.proofs.lemmas.Bool.Decides.{Decides-eqb}
use Rattle.history_model.specs.Commands as model
use Rattle.history_word.proofs.TargetLemmas.{at_said}
use Rattle.history_word.proofs.targets.expect.Goals as goal

pub returns-in_ok-word : goal.returns-in_ok-word
returns-in_ok-word c =
    let name = (slice_eq-Decides Decides-eqb _ _ _ c.eq-else-eq-2.ensures).0 c.if-eq-3.true ∙ c.as_slice-else-eq-2.ensures in
    (model.At c.in_ok-word.word.now, at_said _ _ _ c.kept.ensures c.map.ensures.cases, c.in_ok-first.ensures.found ∙ (λ i. name i ∷ c.in_ok-word.ensures.found i))
