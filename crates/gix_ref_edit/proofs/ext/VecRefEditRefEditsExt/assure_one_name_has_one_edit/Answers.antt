use Rattle.std.proofs.Common.{subst, List}
use Rattle.std.specs.Prelude.{OnOk}
use Rattle.gix_ref_edit.specs.Names.{AllOnce, names_of}
use Rattle.gix_ref_edit.specs.declared.change.RefEdit.{RefEdit}
use Rattle.gix_ref_edit.proofs.ext.VecRefEditRefEditsExt.assure_one_name_has_one_edit.Goals as goal

pub returns-clause-once : goal.returns-clause-once
returns-clause-once c =
    subst (λ (l : List RefEdit). OnOk c.assure_once.result (AllOnce (names_of l))) c.as_slice.ensures.value c.assure_once.ensures.once
