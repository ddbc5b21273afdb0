use Rattle.std.proofs.Common.{◌≡◌, ◌<◌, ◌++◌, ◌∷◌, [], length, subst, sym, ◌∙◌}
use Rattle.std.proofs.lemmas.Bool.{eqb-false}
use Rattle.std.specs.Prelude.{IsTrue}
use Rattle.gix_object_lines.specs.NameTest.{begins}
use Rattle.gix_ref_store.proofs.AskLemmas.{asked_front, in_folder, some_bytes}
use Rattle.gix_ref_store.proofs.store.file.asked.Asked.folder.Goals as goal

pub returns-clause-all : goal.returns-clause-all
returns-clause-all c = λ name so.
    let asked = c.args.self.now in
    let folder = c.parent-folder.result.now in
    let some = some_bytes folder (eqb-false (length folder) 0 (sym c.is_empty.ensures ∙ c.if-is_empty.false)) in
    subst (λ f. IsTrue (begins (f ++ 47 ∷ []) name)) (sym c.parent-folder.ensures)
    (in_folder asked.front.now name (subst (λ f. 0 < length f) c.parent-folder.ensures some) (asked_front asked name so))
