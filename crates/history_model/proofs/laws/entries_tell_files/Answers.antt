use Rattle.history_model.proofs.EntryLemmas.{entries_tell_files as lemma}
use Rattle.history_model.proofs.laws.entries_tell_files.Goals as goal

pub returns : goal.returns
returns c = lemma
