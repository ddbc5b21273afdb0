use Rattle.std.proofs.Common.{◌≡◌, ◌⊎◌, ap, sym, subst, [], ◌∷◌, Option, Vec, ℕ, None}
use Rattle.std.specs.Prelude.{IfErr, IfOk, IsTrue, Result, Ok, Err, Some}
use Rattle.std.proofs.lemmas.Result.{err_from_is_err_and}
use Rattle.std.specs.declared.alloc.Global.{Global}
use Rattle.gix_ref_file.specs.Changes.{is_file_at}
use Rattle.gix_ref_file.specs.Tree.{Tree, bytes_of, file, node_at}
use Rattle.gix_ref_edit.specs.declared.change.Change.{Change}
use Rattle.gix_ref_edit.specs.declared.change.Change.TheVariants.{Delete, Update}
use Rattle.gix_ref_edit.specs.declared.change.PreviousValue.{PreviousValue}
use Rattle.gix_ref_edit.specs.declared.change.RefEdit.{RefEdit}
use Rattle.gix_ref_edit.specs.declared.log.LogChange.{LogChange}
use Rattle.gix_ref_edit.specs.declared.log.RefLog.{RefLog}
use Rattle.gix_ref_format.specs.Loose.{loose_text}
use Rattle.gix_ref_lock.specs.declared.act.Act.{Act}
use Rattle.gix_ref_name.specs.Targets.{target_view}
use Rattle.gix_ref_name.specs.declared.target.Target.{Target}
use Rattle.gix_ref_way.specs.Ways.{Bytes}
use Rattle.gix_ref_transaction.specs.Calls.{IsActed, IsUnacted}
use Rattle.gix_ref_transaction.specs.Errors.{Counts}
use Rattle.gix_ref_transaction.specs.LogLines.{IsLineOf, has_log, line_in}
use Rattle.gix_ref_transaction.specs.Plans.{HoldsText, IsPut, IsTested}
use Rattle.gix_ref_transaction.specs.Preparing.{Asked, asked_with}
use Rattle.gix_ref_transaction.specs.declared.error.PrepareError.{PrepareError}
use Rattle.gix_ref_transaction.specs.declared.error.PrepareError.TheVariants.{Io, Memory}
use Rattle.gix_ref_transaction.proofs.Counting.{fill_edit, fill_no_lock, line_counts, line_edit, line_no_lock, test_counts, test_edit, test_no_lock}
use Rattle.gix_ref_transaction.proofs.plan.act_of.Goals as goal

module _ (a : Asked) (edit : RefEdit) (lock : Bytes) (new : Tree) where
  -- the update is made so
  updated : (line : Option (Vec ℕ Global)) (log : LogChange) (expected : PreviousValue) (target : Target) → edit.change ≡ Update log expected target → IsTested edit (a.lines.read edit.name)
      → IsLineOf a.lines (has_log a.base a.tree edit.name) edit.name edit.change line → (r : Result Act PrepareError) → IfOk r (λ act. line_in act ≡ line)
      → IfOk r (λ act. IsPut act → node_at new lock ≡ Some (file (loose_text (target_view target)))) → IfOk r (IsActed a edit lock new)
  updated line log expected target is tested lined (Err e) same text = tt
  updated line log expected target is tested lined (Ok act) same text = record {
    tested = tested;
    text = subst (λ (change : Change). HoldsText change act lock new) (sym is) (λ put. ap bytes_of (text put));
    line = subst (λ (l : Option (Vec ℕ Global)). IsLineOf a.lines (has_log a.base a.tree edit.name) edit.name edit.change l) (sym same) lined;
  }

  -- so is a deletion
  deleted : (act : Act) (expected : PreviousValue) (mode : RefLog) → edit.change ≡ Delete expected mode → line_in act ≡ None → IsTested edit (a.lines.read edit.name) → IsActed a edit lock new act
  deleted act expected mode is none tested = record {
    tested = tested;
    text = subst (λ (change : Change). HoldsText change act lock new) (sym is) tt;
    line = subst (λ (change : Change). IsLineOf a.lines (has_log a.base a.tree edit.name) edit.name change (line_in act)) (sym is) none;
  }

  -- or it isn't, since its text can't be written
  unwritten : (before now : ℕ) (may : Type 0) (r : Result Act PrepareError) → IfErr r (λ error. (error ≡ Io) ⊎ (error ≡ Memory)) → (IsTrue (is_file_at a.tree lock) → IfErr r (Counts before now)) → IfErr r (IsUnacted a edit lock before now may)
  unwritten before now may (Ok act) of counts = tt
  unwritten before now may (Err e) of counts = record { cause = fill_edit a.lines (has_log a.base a.tree edit.name) may edit e of; locked = fill_no_lock e of; counted = counts }

pub returns-in_err-found-clause-failed : goal.returns-in_err-found-clause-failed
returns-in_err-found-clause-failed g c = λ honest.
    let edit = c.args.edit.now in
    let a = asked_with g.F.Files.history c.args.store.now c.args.packed c.args.committer (edit ∷ []) in
    let error = c.in_err-found.field-0.0 in
    let why = c.in_err-found.ensures.failed honest in
    let p = err_from_is_err_and c.from_residual.result c.from_residual.ensures.1 in
    rw (p.1, p.2) (record {
      cause = test_edit a.lines (has_log a.base a.tree edit.name) g.F.Files.reading_may_fail edit error why;
      locked = test_no_lock g.F.Files.reading_may_fail edit (a.lines.read edit.name) error why;
      counted = λ held. test_counts (g.F.Files.failures c.args.store.now.files) g.F.Files.reading_may_fail edit (a.lines.read edit.name) error why;
    })

pub returns-in_err-line-clause-failed : goal.returns-in_err-line-clause-failed
returns-in_err-line-clause-failed g c = λ honest.
    let edit = c.args.edit.now in
    let a = asked_with g.F.Files.history c.args.store.now c.args.packed c.args.committer (edit ∷ []) in
    let stands = has_log a.base a.tree edit.name in
    let error = c.in_err-line.field-0.0 in
    let why = c.in_err-line.ensures.failed honest (c.in_ok-found.ensures.found honest).0 in
    let p = err_from_is_err_and c.from_residual-in_err-line.result c.from_residual-in_err-line.ensures.1 in
    rw (p.1, p.2) (record {
      cause = line_edit a.lines stands g.F.Files.reading_may_fail edit error why;
      locked = line_no_lock a.lines stands g.F.Files.reading_may_fail edit error why;
      counted = λ held. line_counts (g.F.Files.failures c.args.store.now.files) a.lines stands g.F.Files.reading_may_fail edit error why;
    })

pub returns-in-Update-clause-acted : goal.returns-in-Update-clause-acted
returns-in-Update-clause-acted g c = λ honest.
    let edit = c.args.edit.now in
    let a = asked_with g.F.Files.history c.args.store.now c.args.packed c.args.committer (edit ∷ []) in
    let found = c.in_ok-found.ensures.found honest in
    updated a edit c.args.lock.now.path.items (g.F.Files.history c.update_by.new.files).tree c.in_ok-line.line c.in-Update.log _ c.in-Update.new c.in-Update.is (c.in_ok-found.found, found)
    (c.in_ok-line.ensures.line honest found.0) c.update_by.result c.update_by.ensures.line (c.update_by.ensures.text honest)

pub returns-in-Update-clause-failed : goal.returns-in-Update-clause-failed
returns-in-Update-clause-failed g c = λ honest.
    let edit = c.args.edit.now in
    let a = asked_with g.F.Files.history c.args.store.now c.args.packed c.args.committer (edit ∷ []) in
    let f = g.F.Files.failures in
    unwritten a edit c.args.lock.now.path.items (g.F.Files.history c.args.store.now.files).tree (f c.args.store.now.files) (f c.update_by.new.files) g.F.Files.reading_may_fail c.update_by.result c.update_by.ensures.failed (c.update_by.ensures.counted honest)
