use Rattle.history_edits.proofs.PackMoments.{pack_commits as lemma}
use Rattle.history_edits.proofs.laws.pack_commits.Goals as goal

pub returns : goal.returns
returns c = lemma
