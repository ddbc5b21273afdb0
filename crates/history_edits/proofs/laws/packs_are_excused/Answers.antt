use Rattle.history_edits.proofs.PackExcused.{packs_are_excused as lemma}
use Rattle.history_edits.proofs.laws.packs_are_excused.Goals as goal

pub returns : goal.returns
returns c = λ _. lemma c.F.Files.reading_may_fail
