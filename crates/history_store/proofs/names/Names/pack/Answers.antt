use Rattle.std.proofs.Common.{◌∙◌, refl, sym}
use Rattle.std.proofs.lemmas.Result.{on_ok_weaker}
use Rattle.gix_ref_way.proofs.Clearings.{later_risen}
use Rattle.history_store.proofs.Honesty.{prepared_part, unprepared_part}
use Rattle.history_store.proofs.NamesChanged.{lent_here}
use Rattle.history_store.proofs.NamesPacked.{all_asked, packs, passing, peels_so, preparing, room, unprepared, wider_fault}
use Rattle.history_store.proofs.Transactions.{file_kept, prepare_quiet}
use Rattle.history_store.proofs.names.Names.pack.Goals as goal

pub returns-in-Err-clause-keeps : goal.returns-in-Err-clause-keeps
returns-in-Err-clause-keeps g c = record {
  kind = refl;
  part = unprepared_part g.F.Files c.args.self.now.store.files c.prepare_with.new.store.files c.of_preparing.result c.prepare_with.ensures.keeps.honest c.prepare_with.ensures.keeps.later
      (λ short. c.in-Err.ensures.failed.memory (prepare_quiet c.in-Err.error (sym c.of_preparing.ensures ∙ short)));
}

pub returns-in-Err-clause-packs : goal.returns-in-Err-clause-packs
returns-in-Err-clause-packs g c = λ r wanted asks.
    let self = c.args.self.now in
    let f = g.F.Files.failures in
    let old = g.F.Files.history self.store.files in
    let all = all_asked g.F.Files.is_honest g.F.Files.history _ _ self r wanted c.args.edits.items c.as_ref-records.result c.as_ref-records.ensures.value asks in
    let peels = peels_so g.F.Files.is_honest g.F.Files.history _ (g.O.Lookup.table c.args.objects.now) self r wanted c.args.edits.items asks in
    let honest = asks.whole.honest in
    record {
      moments = (preparing r wanted c.args.edits.items old self.kind asks.whole.kind self.store self.root c.as_ref-records.result all
          (g.F.Files.history c.prepare_with.new.store.files) (c.prepare_with.ensures.keeps.moments honest) (c.prepare_with.ensures.keeps.folders honest)).0;
      packed = tt;
      failed = λ failed.
          unprepared r wanted c.args.edits.items old self.kind asks.whole.kind self.store self.root c.as_ref-records.result all g.O.Lookup.may_fail g.O.Lookup.table c.args.objects.now peels g.F.Files.reading_may_fail
          (f self.store.files) (f c.prepare_with.new.store.files) c.in-Err.error (cc (failed, c.of_preparing.ensures))
          (c.in-Err.ensures.failed.failed honest).causes (c.in-Err.ensures.failed.failed honest).counted (c.in-Err.ensures.failed.failed honest).records (c.in-Err.ensures.failed.resolves honest asks.objects);
    }

pub returns-in-Ok-clause-keeps : goal.returns-in-Ok-clause-keeps
returns-in-Ok-clause-keeps g c = record {
  kind = c.commit_made.ensures.keeps.kind;
  part = prepared_part g.F.Files c.args.self.now.store.files c.prepare_with.new.store.files c.commit_made.new.self.store.files _ c.prepare_with.ensures.keeps.honest c.prepare_with.ensures.keeps.later c.in-Ok.ensures.unfailed c.commit_made.ensures.keeps.part;
}

pub returns-in-Ok-clause-packs : goal.returns-in-Ok-clause-packs
returns-in-Ok-clause-packs g c = λ r wanted asks.
    let self = c.args.self.now in
    let old = g.F.Files.history self.store.files in
    let mid = g.F.Files.history c.prepare_with.new.store.files in
    let new = g.F.Files.history c.commit_made.new.self.store.files in
    let all = all_asked g.F.Files.is_honest g.F.Files.history _ _ self r wanted c.args.edits.items c.as_ref-records.result c.as_ref-records.ensures.value asks in
    let peels = peels_so g.F.Files.is_honest g.F.Files.history _ (g.O.Lookup.table c.args.objects.now) self r wanted c.args.edits.items asks in
    let here = file_kept self.kind self.store self.root old.tree c.as_ref-records.result (lent_here self c.as_ref-records.result c.as_ref-records.ensures.value old asks.whole.records) in
    let honest = asks.whole.honest in
    let first = c.prepare_with.ensures.keeps.honest honest in
    let prepared = preparing r wanted c.args.edits.items old self.kind asks.whole.kind self.store self.root c.as_ref-records.result all mid (c.prepare_with.ensures.keeps.moments honest) (c.prepare_with.ensures.keeps.folders honest) in
    let split = (c.in-Ok.ensures.prepared honest).split in
    let texts = (c.in-Ok.ensures.prepared honest).texts in
    let lines = (c.in-Ok.ensures.prepared honest).lines in
    let repacked = (c.in-Ok.ensures.packed honest asks.objects here).repacked in
    let locked = (c.in-Ok.ensures.prepared honest).locked in
    record {
      moments = passing r wanted c.args.edits.items old self.kind asks.whole.kind self.store self.root c.as_ref-records.result all (g.O.Lookup.table c.args.objects.now) peels c.in-Ok.made mid
          split c.in-Ok.ensures.planned texts lines repacked locked prepared new (c.commit_made.ensures.moments first) (c.commit_made.ensures.folders first);
      packed = on_ok_weaker c.commit_made.result
          (λ done. packs r wanted c.args.edits.items old self.kind asks.whole.kind self.store self.root c.as_ref-records.result all (g.O.Lookup.table c.args.objects.now) peels c.in-Ok.made mid
          split c.in-Ok.ensures.planned texts lines repacked locked prepared new (c.commit_made.ensures.moments first) (c.commit_made.ensures.folders first) done)
          (c.commit_made.ensures.done first);
      failed = λ failed.
          let has_room = room r wanted c.args.edits.items old self.kind asks.whole.kind self.store self.root c.as_ref-records.result all c.in-Ok.made.edits.items split in
          let fault = c.commit_made.ensures.failed first ((c.in-Ok.ensures.prepared honest).room has_room) failed in
          wider_fault _ _ _ _ (later_risen _ _ _ c.prepare_with.ensures.keeps.later fault);
    }
