use Rattle.std.proofs.Common.{subst}
use Rattle.history.specs.Storing.{IsDone}
use Rattle.history.proofs.ChangeLemmas.{commit_told, delete_told, if_ok, move_told, rename_told, tag_told}
use Rattle.history.proofs.changing.change_text.Goals as goal

pub returns-in-Commit : goal.returns-in-Commit
returns-in-Commit c = λ r sent is.
    if_ok c.id_text.result (λ text said. commit_told r sent c.in-Commit.id text.items (subst (IsDone r sent) c.in-Commit.is is) said) c.id_text.ensures

pub returns-in-Tag : goal.returns-in-Tag
returns-in-Tag c = λ r sent is.
    if_ok c.id_text-in-Tag.result (λ text said. tag_told r sent c.in-Tag.id text.items (subst (IsDone r sent) c.in-Tag.is is) said) c.id_text-in-Tag.ensures

pub returns-in-Move : goal.returns-in-Move
returns-in-Move c = λ r sent is.
    if_ok c.word_text.result (λ text said. move_told r sent text.items (subst (IsDone r sent) c.in-Move.is is) said) c.word_text.ensures

pub returns-in-Rename : goal.returns-in-Rename
returns-in-Rename c = λ r sent is.
    if_ok c.word_text-in-Rename.result (λ text said. rename_told r sent text.items (subst (IsDone r sent) c.in-Rename.is is) said) c.word_text-in-Rename.ensures

pub returns-in-Delete : goal.returns-in-Delete
returns-in-Delete c = λ r sent is.
    if_ok c.word_text-in-Delete.result (λ text said. delete_told r sent text.items (subst (IsDone r sent) c.in-Delete.is is) said) c.word_text-in-Delete.ensures
