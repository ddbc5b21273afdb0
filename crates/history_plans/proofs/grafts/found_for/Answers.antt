use Rattle.std.proofs.Common.{◌≡◌, ◌∙◌, Err, [], ◌∷◌, ap, false, sym, subst}
use Rattle.std.specs.Prelude.{Ok, ⊤}
use Rattle.std.proofs.lemmas.Result.{err_from_is_err_and}
use Rattle.history_model.specs.Bytes.{Bytes}
use Rattle.history_model.specs.Causes.{is_bad_path}
use Rattle.history_model.specs.FileMap as model
use Rattle.history_model.specs.Meaning.{word_files}
use Rattle.history_word.specs.Commands.{IsEdit}
use Rattle.history_word.specs.declared.command.Edit.{Edit}
use Rattle.history_word.specs.declared.command.Edit.TheVariants.{Graft}
use Rattle.history_repository.specs.Fields.{kept_bytes}
use Rattle.history_plans.specs.Files.{HasSource, IsFoundFor, TellsRead, grafts_badly, kept_edit}
use Rattle.history_plans.proofs.GraftFound.{commit_there, fault_told, found_is, no_commit, none_found, stopped_as, word_holds, word_stands}
use Rattle.history_plans.proofs.grafts.found_for.Goals as goal

pub returns-in_default-clause-found : goal.returns-in_default-clause-found
returns-in_default-clause-found g c = λ r line h is good has trees. none_found g.F.Files.reading_may_fail r c.args.edit.now c.in_default.not-Graft

pub returns-in_err-commit-clause-found : goal.returns-in_err-commit-clause-found
returns-in_err-commit-clause-found g c = λ r line h is good has trees.
    absurd (no_commit r c.in-Graft.graft line (subst (λ (e : Edit). IsEdit e line) c.in-Graft.is is) (subst (HasSource r line) c.in_err-commit.ensures.ok_part has))

pub returns-in_err-found-clause-found : goal.returns-in_err-found-clause-found
returns-in_err-found-clause-found g c = λ r line h is good has trees.
    let graft = c.in-Graft.graft in
    let commit = c.in_ok-commit.commit in
    let there = commit_there r graft line commit (subst (λ (e : Edit). IsEdit e line) c.in-Graft.is is) good (subst (HasSource r line) c.in_ok-commit.ensures.ok_part has) in
    let fault = c.in_err-found.ensures.found r h (word_holds r graft h.whole.whole.store h.whole.written commit there.0) there.2 trees in
    let stopped = err_from_is_err_and c.from_residual-in_err-found.result c.from_residual-in_err-found.ensures.1 in
    subst (TellsRead g.F.Files.reading_may_fail (kept_edit r c.args.edit.now ∷ []) (IsFoundFor r c.args.edit.now)) (sym (stopped.1 ∙ ap Err stopped.2))
    (fault_told g.F.Files.reading_may_fail (kept_edit r c.args.edit.now ∷ []) (IsFoundFor r c.args.edit.now) c.in_err-found.field-0.0 fault)

pub returns-in_err-test_graft-clause-found : goal.returns-in_err-test_graft-clause-found
returns-in_err-test_graft-clause-found g c = λ r line h is good has trees.
    let MayFail = g.F.Files.reading_may_fail in
    let graft = c.in-Graft.graft in
    let commit = c.in_ok-commit.commit in
    let store = h.whole.whole.store in
    let there = commit_there r graft line commit (subst (λ (e : Edit). IsEdit e line) c.in-Graft.is is) good (subst (HasSource r line) c.in_ok-commit.ensures.ok_part has) in
    let found = found_is r graft store h.whole.written commit there.0 c.kept.result.now c.kept.ensures c.in_ok-found.found (c.in_ok-found.ensures.found r h (word_holds r graft store h.whole.written commit there.0) there.2 trees) in
    let told = c.in_err-test_graft.ensures.tested r (kept_bytes graft.source) (word_files r graft.word.items) h (ap is_bad_path c.kept-2.ensures ∙ there.1) found (word_stands r graft store h.whole.written commit there.0) (c.in_ok-found.ensures.trees r h trees) in
    let at_path = subst (λ (path : Bytes). TellsRead {T = Unit {0}} MayFail (model.Graft path (kept_bytes graft.source) (word_files r graft.word.items) ∷ []) (λ _. ⊤) (Err c.in_err-test_graft.field-0.0)) c.kept-2.ensures told in
    let stopped = err_from_is_err_and c.from_residual-in_err-test_graft.result c.from_residual-in_err-test_graft.ensures.1 in
    subst (λ (e : Edit). TellsRead MayFail (kept_edit r e ∷ []) (IsFoundFor r e) c.from_residual-in_err-test_graft.result) (sym c.in-Graft.is)
    (subst (TellsRead MayFail (kept_edit r (Graft graft) ∷ []) (IsFoundFor r (Graft graft))) (sym (stopped.1 ∙ ap Err stopped.2))
    (stopped_as {S = Unit {0}} MayFail (kept_edit r (Graft graft) ∷ []) (λ _. ⊤) (IsFoundFor r (Graft graft)) c.in_err-test_graft.field-0.0 at_path))

pub returns-clause-found : goal.returns-clause-found
returns-clause-found g c = λ r line h is good has trees.
    let MayFail = g.F.Files.reading_may_fail in
    let graft = c.in-Graft.graft in
    let commit = c.in_ok-commit.commit in
    let store = h.whole.whole.store in
    let there = commit_there r graft line commit (subst (λ (e : Edit). IsEdit e line) c.in-Graft.is is) good (subst (HasSource r line) c.in_ok-commit.ensures.ok_part has) in
    let found = found_is r graft store h.whole.written commit there.0 c.kept.result.now c.kept.ensures c.in_ok-found.found (c.in_ok-found.ensures.found r h (word_holds r graft store h.whole.written commit there.0) there.2 trees) in
    let tested = c.in_ok-test_graft.ensures.tested r (kept_bytes graft.source) (word_files r graft.word.items) h (ap is_bad_path c.kept-2.ensures ∙ there.1) found (word_stands r graft store h.whole.written commit there.0) (c.in_ok-found.ensures.trees r h trees) in
    let passed = subst (λ (path : Bytes). grafts_badly (model.Graft path (kept_bytes graft.source) (word_files r graft.word.items) ∷ []) ≡ false) c.kept-2.ensures tested.0 in
    subst (λ (e : Edit). TellsRead MayFail (kept_edit r e ∷ []) (IsFoundFor r e) (Ok c.in_ok-found.found)) (sym c.in-Graft.is) (passed, found)

pub returns-clause-trees : goal.returns-clause-trees
returns-clause-trees g c = λ r h trees. c.in_ok-test_graft.ensures.trees r h (c.in_ok-found.ensures.trees r h trees)
