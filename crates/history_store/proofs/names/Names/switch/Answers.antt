use Rattle.std.proofs.Common.{◌≡◌, ◌∙◌, ap, refl, subst, sym, Err, option_map}
use Rattle.std.proofs.lemmas.Result.{err_from_is_err_and, on_ok_weaker}
use Rattle.gix_ref_file.specs.declared.files.FileError.TheVariants.{Failed}
use Rattle.gix_ref_file.proofs.Histories.{adds_nothing}
use Rattle.gix_ref_format.specs.PackedBuffer.{KeepsFile}
use Rattle.gix_ref_format.specs.PackedKept.{kept}
use Rattle.history_model.specs.Places.{file_at, packed_place}
use Rattle.history_store.specs.Faults.{of_preparing}
use Rattle.history_store.proofs.Beside.{told_error}
use Rattle.history_store.proofs.HeadChanges.{file_lent, switch_keeps, switch_names, switch_passes, uncommitted, unprepared_passes, unprepared_told}
use Rattle.history_store.proofs.Honesty.{prepared_part, same_honesty, unprepared_part}
use Rattle.history_store.proofs.Transactions.{prepare_quiet}
use Rattle.history_store.proofs.names.Names.switch.Goals as goal

pub returns-in_err-edits-clause-keeps : goal.returns-in_err-edits-clause-keeps
returns-in_err-edits-clause-keeps g c = record { kind = refl; part = same_honesty g.F.Files _ _ _ refl }

pub returns-in_err-edits-clause-switches : goal.returns-in_err-edits-clause-switches
returns-in_err-edits-clause-switches g c = λ r may.
    let error = err_from_is_err_and c.from_residual.result c.from_residual.ensures.1 in
    record {
      moments = adds_nothing (g.F.Files.history c.args.self.now.store.files);
      switched = rw error.1 tt;
      records = rw error.1 tt;
      failed = λ failed.
          let same : c.head_edit.result ≡ Err Failed = c.in_err-edits.was ∙ ap Err (told_error c.from_residual.result c.in_err-edits.field-0.0 error.0 error.1 error.2 failed) in
          absurd (c.head_edit.ensures.failed may.named may.names_to same);
    }

pub returns-in-Err-clause-keeps : goal.returns-in-Err-clause-keeps
returns-in-Err-clause-keeps g c = record {
  kind = refl;
  part = unprepared_part g.F.Files c.args.self.now.store.files c.prepare_with.new.store.files c.of_preparing.result c.prepare_with.ensures.keeps.honest c.prepare_with.ensures.keeps.later
      (λ short. c.in-Err.ensures.failed.memory (prepare_quiet c.in-Err.error (sym c.of_preparing.ensures ∙ short)));
}

pub returns-in-Err-clause-switches : goal.returns-in-Err-clause-switches
returns-in-Err-clause-switches g c = λ r may.
    let honest = may.whole.honest in
    record {
      moments = unprepared_passes g.F.Files.is_honest g.F.Files.history g.F.Files.failures g.F.Files.reading_may_fail c.args.self.now c.args.from.now c.args.to.now c.in_ok-edits.edits.items c.in_ok-edits.ensures.asks c.as_ref-records.result c.as_ref-records.ensures.value r may
          c.prepare_with.new.store.files (c.prepare_with.ensures.keeps.moments honest) (c.prepare_with.ensures.keeps.folders honest);
      switched = tt;
      records = tt;
      failed = λ failed.
          let is : of_preparing c.in-Err.error ≡ Failed = cc (failed, c.of_preparing.ensures) in
          unprepared_told g.F.Files.is_honest g.F.Files.history g.F.Files.failures g.F.Files.reading_may_fail c.args.self.now c.args.from.now c.args.to.now c.in_ok-edits.edits.items c.in_ok-edits.ensures.asks c.as_ref-records.result c.as_ref-records.ensures.value r may
          (g.F.Files.failures c.prepare_with.new.store.files) _ _ (g.met.F.Files.rooted c.args.self.now.store.files honest) c.in-Err.error is
          (c.in-Err.ensures.failed.failed honest).causes (c.in-Err.ensures.failed.failed honest).counted (c.in-Err.ensures.failed.failed honest).records (c.in-Err.ensures.failed.resolves honest tt);
    }

pub returns-in-Ok-clause-keeps : goal.returns-in-Ok-clause-keeps
returns-in-Ok-clause-keeps g c = record {
  kind = c.commit_made.ensures.keeps.kind;
  part = prepared_part g.F.Files c.args.self.now.store.files c.prepare_with.new.store.files c.commit_made.new.self.store.files _ c.prepare_with.ensures.keeps.honest c.prepare_with.ensures.keeps.later c.in-Ok.ensures.unfailed c.commit_made.ensures.keeps.part;
}

pub returns-in-Ok-clause-switches : goal.returns-in-Ok-clause-switches
returns-in-Ok-clause-switches g c = λ r may.
    let honest = may.whole.honest in
    let first = c.prepare_with.ensures.keeps.honest honest in
    let lent = file_lent g.F.Files.is_honest g.F.Files.history g.F.Files.failures g.F.Files.reading_may_fail c.args.self.now c.args.from.now c.args.to.now c.in_ok-edits.edits.items c.in_ok-edits.ensures.asks c.as_ref-records.result c.as_ref-records.ensures.value r may in
    let split = (c.in-Ok.ensures.prepared honest).split in
    let texts = (c.in-Ok.ensures.prepared honest).texts in
    let lines = (c.in-Ok.ensures.prepared honest).lines in
    let repacked = (c.in-Ok.ensures.packed honest tt lent).repacked in
    let locked = (c.in-Ok.ensures.prepared honest).locked in
    record {
      moments = switch_passes g.F.Files.is_honest g.F.Files.history g.F.Files.failures g.F.Files.reading_may_fail c.args.self.now c.args.from.now c.args.to.now c.in_ok-edits.edits.items c.in_ok-edits.ensures.asks c.as_ref-records.result c.as_ref-records.ensures.value r may
          c.prepare_with.new.store.files (c.prepare_with.ensures.keeps.moments honest) (c.prepare_with.ensures.keeps.folders honest)
          c.in-Ok.made split c.in-Ok.ensures.planned texts lines repacked locked c.commit_made.new.self.store.files (c.commit_made.ensures.moments first) (c.commit_made.ensures.folders first);
      switched = on_ok_weaker c.commit_made.result
          (λ done. switch_names g.F.Files.is_honest g.F.Files.history g.F.Files.failures g.F.Files.reading_may_fail c.args.self.now c.args.from.now c.args.to.now c.in_ok-edits.edits.items c.in_ok-edits.ensures.asks c.as_ref-records.result c.as_ref-records.ensures.value r may
          c.prepare_with.new.store.files (c.prepare_with.ensures.keeps.moments honest) (c.prepare_with.ensures.keeps.folders honest)
          c.in-Ok.made split c.in-Ok.ensures.planned texts lines repacked locked c.commit_made.new.self.store.files (c.commit_made.ensures.moments first) (c.commit_made.ensures.folders first) done)
          (c.commit_made.ensures.done first);
      records = on_ok_weaker c.commit_made.result
          (λ done.
          let here = file_at (g.F.Files.history c.commit_made.new.self.store.files).tree packed_place in
          let keeps = switch_keeps g.F.Files.is_honest g.F.Files.history g.F.Files.failures g.F.Files.reading_may_fail c.args.self.now c.args.from.now c.args.to.now c.in_ok-edits.edits.items c.in_ok-edits.ensures.asks c.as_ref-records.result c.as_ref-records.ensures.value r may
          c.prepare_with.new.store.files (c.prepare_with.ensures.keeps.moments honest) (c.prepare_with.ensures.keeps.folders honest)
          c.in-Ok.made split c.in-Ok.ensures.planned texts lines repacked locked c.commit_made.new.self.store.files (c.commit_made.ensures.moments first) (c.commit_made.ensures.folders first) done in
          subst (λ kind. KeepsFile kind here (option_map kept c.commit_made.new.self.packed)) (sym c.commit_made.ensures.keeps.kind)
          (subst (λ packed. KeepsFile c.args.self.now.kind here (option_map kept packed)) (sym c.commit_made.ensures.packed) keeps))
          (c.commit_made.ensures.done first);
      failed = λ failed.
          uncommitted g.F.Files.is_honest g.F.Files.history g.F.Files.failures g.F.Files.reading_may_fail c.args.self.now c.args.from.now c.args.to.now c.in_ok-edits.edits.items c.in_ok-edits.ensures.asks c.as_ref-records.result c.as_ref-records.ensures.value r may
          c.prepare_with.new.store.files (c.prepare_with.ensures.keeps.moments honest) (c.prepare_with.ensures.keeps.folders honest)
          c.in-Ok.made split c.in-Ok.ensures.planned texts lines repacked locked
          c.commit_made.new.self.store.files (g.met.F.Files.rooted c.prepare_with.new.store.files first) (λ can. c.commit_made.ensures.failed first can failed) c.in-Ok.ensures.unfailed;
    }
