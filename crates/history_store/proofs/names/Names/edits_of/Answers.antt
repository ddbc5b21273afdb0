use Rattle.std.proofs.Common.{◌≡◌, ◌∙◌, ℕ, false, List, Some, Err, IsErrOf, ap, map, option_map, refl, subst, sym}
use Rattle.std.specs.Borrow.{Bor}
use Rattle.std.proofs.lemmas.Result.{err_from_is_err_and}
use Rattle.gix_ref_file.specs.declared.files.FileError.TheVariants.{Failed}
use Rattle.gix_ref_edit.specs.declared.change.RefEdit.{RefEdit}
use Rattle.history_edits.specs.EditFaults.{AllTest, Tests}
use Rattle.history_edits.specs.EditPlans.{AreEdits}
use Rattle.history_model.specs.Repository.{id_at}
use Rattle.history_store.specs.Changing.{AreUnsplit, moved_in}
use Rattle.history_store.proofs.Beside.{told_error}
use Rattle.history_layout.specs.EditFits.{MayStand}
use Rattle.history_edits.proofs.NamePlaces.{formed}
use Rattle.history_store.proofs.EditsAsked.{held_told, all_plain, all_test, and_last, are_edits, held_tests, moved_named, with_deletion}
use Rattle.history_store.proofs.names.Names.edits_of.Goals as goal

pub returns-in_err-edits-clause-failed : goal.returns-in_err-edits-clause-failed
returns-in_err-edits-clause-failed g c = λ r may failed.
    let error = err_from_is_err_and c.from_residual.result c.from_residual.ensures.1 in
    let same : c.updates_of.result ≡ Err Failed = c.in_err-edits.was ∙ ap Err (told_error c.from_residual.result c.in_err-edits.field-0.0 error.0 error.1 error.2 failed) in
    absurd (c.updates_of.ensures.failed (moved_named c.args.moved.now (option_map (λ (name : Bor (List ℕ)). name.now) c.args.taken) may.fit.named) same)

pub returns-in-None-clause-asks : goal.returns-in-None-clause-asks
returns-in-None-clause-asks g c =
    let names = map moved_in c.args.moved.now in
    let is = ap (option_map (λ (name : Bor (List ℕ)). name.now)) c.in-None.is in
    subst (λ o. AreEdits names o c.in_ok-edits.edits.items) (sym is) (are_edits names c.in_ok-edits.edits.items c.in_ok-edits.ensures.asks)

pub returns-in-None-clause-plain : goal.returns-in-None-clause-plain
returns-in-None-clause-plain g c = all_plain (map moved_in c.args.moved.now) c.in_ok-edits.edits.items c.in_ok-edits.ensures.asks

pub returns-in-None-clause-tests : goal.returns-in-None-clause-tests
returns-in-None-clause-tests g c = λ r may. all_test r may.whole.set (map moved_in c.args.moved.now) c.in_ok-edits.edits.items may.fit.each c.in_ok-edits.ensures.asks

pub returns-in_err-last-in-Some-clause-failed : goal.returns-in_err-last-in-Some-clause-failed
returns-in_err-last-in-Some-clause-failed g c = λ r may failed.
    let whole = may.whole in
    let tree = (g.F.Files.history c.args.self.now.store.files).tree in
    let name = c.in-Some.name.now in
    let residual = c.from_residual-in_err-last-in-Some in
    let error = err_from_is_err_and residual.result residual.ensures.1 in
    let same : c.deletion_of.result ≡ Err Failed = c.in_err-last-in-Some.was ∙ ap Err (told_error residual.result c.in_err-last-in-Some.field-0.0 error.0 error.1 error.2 failed) in
    let stood = subst (MayStand r) (ap (option_map (λ (given : Bor (List ℕ)). given.now)) c.in-Some.is) may.fit.gone in
    c.deletion_of.ensures.failed whole.honest whole.records (formed r tree whole.holds name stood) (held_told r tree c.args.self.now.kind name whole.kind whole.holds stood)
    (subst (λ result. IsErrOf result Failed) (sym same) refl)

pub returns-in_ok-push-in-Some-clause-asks : goal.returns-in_ok-push-in-Some-clause-asks
returns-in_ok-push-in-Some-clause-asks g c =
    let names = map moved_in c.args.moved.now in
    let is = ap (option_map (λ (name : Bor (List ℕ)). name.now)) c.in-Some.is in
    subst (λ o. AreEdits names o c.push.new.self.items) (sym is)
    (subst (AreEdits names (Some c.in-Some.name.now)) (sym c.in_ok-push-in-Some.ensures.items) (with_deletion names c.in-Some.name.now c.in_ok-edits.edits.items c.in_ok-last-in-Some.last c.in_ok-edits.ensures.asks c.in_ok-last-in-Some.ensures.asks))

pub returns-in_ok-push-in-Some-clause-plain : goal.returns-in_ok-push-in-Some-clause-plain
returns-in_ok-push-in-Some-clause-plain g c =
    subst AreUnsplit (sym c.in_ok-push-in-Some.ensures.items)
    (and_last (λ (edit : RefEdit). edit.deref ≡ false) c.in_ok-edits.edits.items c.in_ok-last-in-Some.last (all_plain (map moved_in c.args.moved.now) c.in_ok-edits.edits.items c.in_ok-edits.ensures.asks) c.in_ok-last-in-Some.ensures.asks.plain)

pub returns-in_ok-push-in-Some-clause-tests : goal.returns-in_ok-push-in-Some-clause-tests
returns-in_ok-push-in-Some-clause-tests g c = λ r may.
    let whole = may.whole in
    let tree = (g.F.Files.history c.args.self.now.store.files).tree in
    let asks = c.in_ok-last-in-Some.ensures.asks in
    let last = held_tests r tree c.args.self.now.kind c.in-Some.name.now c.in_ok-last-in-Some.last whole.kind whole.holds asks.deletes.name_is (c.in_ok-last-in-Some.ensures.tests whole.honest whole.records) in
    subst (AllTest r) (sym c.in_ok-push-in-Some.ensures.items)
    (and_last (λ (edit : RefEdit). Tests (id_at r edit.name) edit.change) c.in_ok-edits.edits.items c.in_ok-last-in-Some.last (all_test r whole.set (map moved_in c.args.moved.now) c.in_ok-edits.edits.items may.fit.each c.in_ok-edits.ensures.asks) last)
