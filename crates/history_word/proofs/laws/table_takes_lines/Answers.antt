use Rattle.std.proofs.Common.{refl}
use Rattle.history_model.specs.Stage.{opens}
use Rattle.history_word.specs.TableRuns.{all_lines}
use Rattle.history_word.proofs.TableReaches.{table_takes_lines as lemma}
use Rattle.history_word.proofs.laws.table_takes_lines.Goals as goal

pub returns-clause-all : goal.returns-clause-all
returns-clause-all c = lemma all_lines refl

pub returns-clause-offered : goal.returns-clause-offered
returns-clause-offered c = lemma opens refl
