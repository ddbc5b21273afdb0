use Rattle.std.proofs.Common.{subst}
use Rattle.history.specs.Storing.{AreMovesOf}
use Rattle.history.proofs.ChangeLemmas.{if_ok, pack_told, switch_told}
use Rattle.history.proofs.NamesMade.{moves_something}
use Rattle.history.proofs.changing.done_text.Goals as goal

pub returns-in-Change : goal.returns-in-Change
returns-in-Change c = λ r sent are. c.change_text.ensures r sent (subst (AreMovesOf r sent) c.in-Change.is are).told.is

pub returns-in-Switch : goal.returns-in-Switch
returns-in-Switch c = λ r sent are.
    if_ok c.word_text.result (λ text said. switch_told r sent _ text.items (subst (AreMovesOf r sent) c.in-Switch.is are) said) c.word_text.ensures

pub returns-in-Pack : goal.returns-in-Pack
returns-in-Pack c = λ r sent are.
    if_ok c.word_text-in-Pack.result (λ text said. pack_told r sent _ text.items (subst (AreMovesOf r sent) c.in-Pack.is are) said) c.word_text-in-Pack.ensures

pub returns-in-Nothing : goal.returns-in-Nothing
returns-in-Nothing c = λ r sent are. moves_something r sent (subst (AreMovesOf r sent) c.in-Nothing.is are)
