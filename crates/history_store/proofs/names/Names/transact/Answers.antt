use Rattle.std.proofs.Common.{◌≡◌, ◌∙◌, refl, sym}
use Rattle.std.proofs.lemmas.Result.{on_ok_weaker}
use Rattle.gix_ref_way.proofs.Clearings.{later_risen}
use Rattle.history_store.proofs.Honesty.{prepared_part, unprepared_part}
use Rattle.history_store.proofs.NamesChanged.{all_lent, changed, lent_here, makes, passing, preparing, room, stayed, unprepared}
use Rattle.history_store.proofs.Transactions.{file_kept, prepare_quiet}
use Rattle.history_store.proofs.names.Names.transact.Goals as goal

pub returns-in-Err-clause-keeps : goal.returns-in-Err-clause-keeps
returns-in-Err-clause-keeps g c = record {
  kind = refl;
  part = unprepared_part g.F.Files c.args.self.now.store.files c.prepare_with.new.store.files c.of_preparing.result c.prepare_with.ensures.keeps.honest c.prepare_with.ensures.keeps.later
      (λ short. c.in-Err.ensures.failed.memory (prepare_quiet c.in-Err.error (sym c.of_preparing.ensures ∙ short)));
}

pub returns-in-Err-clause-transacts : goal.returns-in-Err-clause-transacts
returns-in-Err-clause-transacts g c = λ r moved gone asks.
    let may = asks.may in
    let whole = may.whole in
    let self = c.args.self.now in
    let f = g.F.Files.failures in
    let old = g.F.Files.history self.store.files in
    let keeps = all_lent self c.as_ref-records.result c.as_ref-records.ensures.value r old whole.kind whole.records in
    record {
      moments = (preparing r moved gone c.args.committer c.args.edits.items asks.edits old whole.holds self.kind whole.kind self.store self.root c.as_ref-records.result
          (g.F.Files.history c.prepare_with.new.store.files) (c.prepare_with.ensures.keeps.moments whole.honest) (c.prepare_with.ensures.keeps.folders whole.honest)).0;
      changed = tt;
      failed = λ failed.
          unprepared r moved gone c.args.committer c.args.edits.items asks.edits old whole.holds self.kind whole.kind self.store self.root c.as_ref-records.result whole.apart may.fit asks.tests keeps
          (f self.store.files) (f c.prepare_with.new.store.files) g.F.Files.reading_may_fail _ _ c.in-Err.error (cc (failed, c.of_preparing.ensures))
          (c.in-Err.ensures.failed.failed whole.honest).causes (c.in-Err.ensures.failed.failed whole.honest).counted (c.in-Err.ensures.failed.failed whole.honest).records (c.in-Err.ensures.failed.resolves whole.honest tt);
    }

pub returns-in-Ok-clause-keeps : goal.returns-in-Ok-clause-keeps
returns-in-Ok-clause-keeps g c = record {
  kind = c.commit_made.ensures.keeps.kind;
  part = prepared_part g.F.Files c.args.self.now.store.files c.prepare_with.new.store.files c.commit_made.new.self.store.files _ c.prepare_with.ensures.keeps.honest c.prepare_with.ensures.keeps.later c.in-Ok.ensures.unfailed c.commit_made.ensures.keeps.part;
}

pub returns-in-Ok-clause-transacts : goal.returns-in-Ok-clause-transacts
returns-in-Ok-clause-transacts g c = λ r moved gone asks.
    let may = asks.may in
    let whole = may.whole in
    let self = c.args.self.now in
    let old = g.F.Files.history self.store.files in
    let mid = g.F.Files.history c.prepare_with.new.store.files in
    let new = g.F.Files.history c.commit_made.new.self.store.files in
    let keeps = all_lent self c.as_ref-records.result c.as_ref-records.ensures.value r old whole.kind whole.records in
    let here = file_kept self.kind self.store self.root old.tree c.as_ref-records.result (lent_here self c.as_ref-records.result c.as_ref-records.ensures.value old whole.records) in
    let first = c.prepare_with.ensures.keeps.honest whole.honest in
    let prepared = preparing r moved gone c.args.committer c.args.edits.items asks.edits old whole.holds self.kind whole.kind self.store self.root c.as_ref-records.result mid
    (c.prepare_with.ensures.keeps.moments whole.honest) (c.prepare_with.ensures.keeps.folders whole.honest) in
    let split = (c.in-Ok.ensures.prepared whole.honest).split in
    let texts = (c.in-Ok.ensures.prepared whole.honest).texts in
    let lines = (c.in-Ok.ensures.prepared whole.honest).lines in
    let repacked = (c.in-Ok.ensures.packed whole.honest tt here).repacked in
    let locked = (c.in-Ok.ensures.prepared whole.honest).locked in
    record {
      moments = passing r moved gone c.args.committer c.args.edits.items asks.edits old whole.holds self.kind whole.kind self.store self.root c.as_ref-records.result keeps c.in-Ok.made mid
          split c.in-Ok.ensures.planned texts lines repacked locked prepared new (c.commit_made.ensures.moments first) (c.commit_made.ensures.folders first);
      changed = on_ok_weaker c.commit_made.result
          (λ done. makes self c.as_ref-records.result c.as_ref-records.ensures.value r moved gone old new whole.kind
          (changed r moved gone c.args.committer c.args.edits.items asks.edits old whole.holds self.kind whole.kind self.store self.root c.as_ref-records.result keeps c.in-Ok.made mid split c.in-Ok.ensures.planned texts lines repacked locked
          prepared new (c.commit_made.ensures.moments first) (c.commit_made.ensures.folders first) done)
          (stayed r moved gone c.args.committer c.args.edits.items asks.edits old whole.holds self.kind whole.kind self.store self.root c.as_ref-records.result keeps c.in-Ok.made mid split c.in-Ok.ensures.planned texts lines repacked locked
          prepared new (c.commit_made.ensures.moments first) (c.commit_made.ensures.folders first) done))
          (c.commit_made.ensures.done first);
      failed = λ failed.
          let has_room = room r moved gone c.args.committer c.args.edits.items asks.edits old whole.holds self.kind whole.kind self.store self.root c.as_ref-records.result whole.apart may.fit c.in-Ok.made.edits.items split in
          let fault = c.commit_made.ensures.failed first ((c.in-Ok.ensures.prepared whole.honest).room has_room) failed in
          later_risen _ _ _ c.prepare_with.ensures.keeps.later fault;
    }
