use Rattle.history_word.proofs.TableLaws.{words_are_headings as lemma}
use Rattle.history_word.proofs.laws.words_are_headings.Goals as goal

pub returns : goal.returns
returns c = lemma
