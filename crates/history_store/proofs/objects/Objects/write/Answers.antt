use Rattle.std.proofs.Common.{◌≡◌, Err, arith, inl, refl, subst, sym, ◌++◌}
use Rattle.std.proofs.lemmas.Result.{err_from_is_err_and, on_ok_weaker}
use Rattle.gix_ref_file.specs.declared.files.FileError.TheVariants.{Failed}
use Rattle.gix_ref_file.specs.History.{History}
use Rattle.gix_ref_file.proofs.Histories.{adds_weaker}
use Rattle.gix_ref_way.proofs.Above.{renamed_brings, then_above}
use Rattle.gix_ref_way.proofs.FoldersKept.{while_renamed, then_stay}
use Rattle.gix_ref_way.proofs.FoldersMade.{caused}
use Rattle.gix_ref_way.proofs.OneFile.{one_brings, one_stay}
use Rattle.gix_ref_way.proofs.Stored.{now_same, on_ok_both}
use Rattle.history_model.specs.Places.{unfinished_place}
use Rattle.history_store.specs.Stores.{KeepsFiles}
use Rattle.history_store.proofs.Honesty.{honesty_of, more_honesty, then_honesty}
use Rattle.history_store.proofs.KnownFolders.{folders_now, own_is_folder}
use Rattle.history_store.proofs.ObjectFiles.{may_rename, unfinished_fits}
use Rattle.history_store.proofs.ObjectParts.{no_file_above}
use Rattle.history_store.proofs.Stored.{gone, kept_when_written, may_from_same, may_from_write, may_from_rename, may_hold, on_err_weaker, same_keeps, stored}
use Rattle.history_store.proofs.objects.Objects.write.Goals as goal

pub returns-in_err-make_missing-clause-keeps : goal.returns-in_err-make_missing-clause-keeps
returns-in_err-make_missing-clause-keeps g c =
    let p = err_from_is_err_and c.from_residual.result c.from_residual.ensures.1 in
    let make = c.make_missing.ensures in
    record {
      kind = refl;
      part = more_honesty g.F.Files _ _ _ _ (honesty_of g.F.Files _ _ c.make_missing.result make.honest make.later make.unfailed make.memory) (λ told. cc (told, c.in_err-make_missing.was, p.1, p.2));
    }

pub returns-in_err-make_missing-clause-writes : goal.returns-in_err-make_missing-clause-writes
returns-in_err-make_missing-clause-writes g c =
    let place = c.args.place.now in
    let text = c.args.header.now ++ c.args.content.now in
    let old = g.F.Files.history c.args.self.now.files in
    let made = g.F.Files.history c.make_missing.new.files in
    let p = err_from_is_err_and c.from_residual.result c.from_residual.ensures.1 in
    rw p.1 (record {
      stored = λ honest. tt;
      finished = λ honest apart. tt;
      moments = λ honest. may_hold place text old made (may_from_same place text old made old old (c.make_missing.ensures.moments honest)) (c.make_missing.ensures.folders honest) (c.make_missing.ensures.stay honest);
      atomic = λ atomic honest. same_keeps _ _ (now_same _ _ (c.make_missing.ensures.moments honest));
    })

pub returns-in_err-write_unfinished-clause-keeps : goal.returns-in_err-write_unfinished-clause-keeps
returns-in_err-write_unfinished-clause-keeps g c =
    let p = err_from_is_err_and c.from_residual-in_err-write_unfinished.result c.from_residual-in_err-write_unfinished.ensures.1 in
    let make = c.make_missing.ensures in
    let write = c.write_unfinished.ensures in
    record {
      kind = refl;
      part = then_honesty g.F.Files _ _ _ _ _ (honesty_of g.F.Files _ _ c.make_missing.result make.honest make.later make.unfailed make.memory)
          (more_honesty g.F.Files _ _ _ _ (honesty_of g.F.Files _ _ c.write_unfinished.result write.honest write.later write.unfailed write.memory) (λ told. cc (told, c.in_err-write_unfinished.was, p.1, p.2)))
          (λ told. absurd (cc (told, c.in_ok-make_missing.was)));
    }

pub returns-in_err-write_unfinished-clause-writes : goal.returns-in_err-write_unfinished-clause-writes
returns-in_err-write_unfinished-clause-writes g c =
    let place = c.args.place.now in
    let text = c.args.header.now ++ c.args.content.now in
    let old = g.F.Files.history c.args.self.now.files in
    let written = g.F.Files.history c.write_unfinished.new.files in
    let p = err_from_is_err_and c.from_residual-in_err-write_unfinished.result c.from_residual-in_err-write_unfinished.ensures.1 in
    rw p.1 (record {
      stored = λ honest. tt;
      finished = λ honest apart. tt;
      moments = λ honest.
          let moments = c.write_unfinished.ensures.moments (c.make_missing.ensures.honest honest) in
          may_hold place text old written (may_from_write place text old _ _ old (c.make_missing.ensures.moments honest) moments)
          (then_above place _ _ _ (c.make_missing.ensures.folders honest) moments (one_brings unfinished_place _))
          (then_stay _ _ _ (c.make_missing.ensures.stay honest) moments (one_stay unfinished_place _));
      atomic = λ atomic honest. kept_when_written place text _ _ _ old (c.make_missing.ensures.moments honest) (c.write_unfinished.ensures.moments (c.make_missing.ensures.honest honest));
    })

pub returns-clause-keeps : goal.returns-clause-keeps
returns-clause-keeps g c =
    let make = c.make_missing.ensures in
    let write = c.write_unfinished.ensures in
    let rename = c.rename.ensures in
    record {
      kind = refl;
      part = then_honesty g.F.Files _ _ _ _ _ (honesty_of g.F.Files _ _ c.make_missing.result make.honest make.later make.unfailed make.memory)
          (then_honesty g.F.Files _ _ _ _ _ (honesty_of g.F.Files _ _ c.write_unfinished.result write.honest write.later write.unfailed write.memory)
          (honesty_of g.F.Files _ _ c.rename.result rename.honest rename.later rename.unfailed rename.memory)
          (λ told. absurd (cc (told, c.in_ok-write_unfinished.was))))
          (λ told. absurd (cc (told, c.in_ok-make_missing.was)));
    }

pub returns-clause-writes : goal.returns-clause-writes
returns-clause-writes g c =
    let place = c.args.place.now in
    let text = c.args.header.now ++ c.args.content.now in
    let old = g.F.Files.history c.args.self.now.files in
    let made = g.F.Files.history c.make_missing.new.files in
    let written = g.F.Files.history c.write_unfinished.new.files in
    let new = g.F.Files.history c.rename.new.self in
    record {
      stored = λ honest.
          let honest_1 = c.make_missing.ensures.honest honest in
          let renamed = c.rename.ensures.change (c.write_unfinished.ensures.honest honest_1) in
          on_ok_both c.rename.result
          (stored place text old made written new (c.make_missing.ensures.moments honest) (c.write_unfinished.ensures.moments honest_1) (c.in_ok-write_unfinished.ensures.written honest_1))
          renamed.allowed renamed.made;
      finished = λ honest apart.
          let renamed = c.rename.ensures.change (c.write_unfinished.ensures.honest (c.make_missing.ensures.honest honest)) in
          on_ok_weaker c.rename.result (gone place _ _ apart) renamed.made;
      moments = λ honest.
          let honest_1 = c.make_missing.ensures.honest honest in
          let moments = c.write_unfinished.ensures.moments honest_1 in
          let renamed = (c.rename.ensures.change (c.write_unfinished.ensures.honest honest_1)).moments in
          may_hold place text old new
          (may_from_rename place text _ _ _ _ (c.make_missing.ensures.moments honest) moments (c.in_ok-write_unfinished.ensures.written honest_1) renamed)
          (then_above place _ _ _ (then_above place _ _ _ (c.make_missing.ensures.folders honest) moments (one_brings unfinished_place _)) renamed (renamed_brings unfinished_place place _))
          (then_stay _ _ _ (then_stay _ _ _ (c.make_missing.ensures.stay honest) moments (one_stay unfinished_place _)) renamed (while_renamed unfinished_place place _));
      atomic = λ atomic honest.
          let kept = kept_when_written place text old _ _ old (c.make_missing.ensures.moments honest) (c.write_unfinished.ensures.moments (c.make_missing.ensures.honest honest)) in
          on_err_weaker c.rename.result (λ same. subst (λ (h : History). KeepsFiles old.tree h.tree) (sym same) kept) (c.rename.ensures.atomic atomic);
    }

pub returns-in_err-make_missing-clause-failed : goal.returns-in_err-make_missing-clause-failed
returns-in_err-make_missing-clause-failed g c = λ honest part placed told failed.
    let error = err_from_is_err_and c.from_residual.result c.from_residual.ensures.1 in
    let same : c.make_missing.result ≡ Err Failed = cc (error.1, error.2) in
    inl (c.make_missing.ensures.failed honest (no_file_above _ c.args.place.now part placed) told placed same)

pub returns-in_err-write_unfinished-clause-failed : goal.returns-in_err-write_unfinished-clause-failed
returns-in_err-write_unfinished-clause-failed g c = λ honest part placed told failed.
    let place = c.args.place.now in
    let old = g.F.Files.history c.args.self.now.files in
    let made = g.F.Files.history c.make_missing.new.files in
    let error = err_from_is_err_and c.from_residual-in_err-write_unfinished.result c.from_residual-in_err-write_unfinished.ensures.1 in
    let same : c.write_unfinished.result ≡ Err Failed = cc (error.1, error.2) in
    let folders = c.in_ok-make_missing.ensures.made honest told in
    let room = unfinished_fits place old made part placed (c.make_missing.ensures.folders honest) folders in
    let rose = c.write_unfinished.ensures.failed (c.make_missing.ensures.honest honest) room same in
    inl (omega (arith, rose, c.make_missing.ensures.later))

pub returns-clause-failed : goal.returns-clause-failed
returns-clause-failed g c = λ honest part placed told failed.
    let place = c.args.place.now in
    let old = g.F.Files.history c.args.self.now.files in
    let made = g.F.Files.history c.make_missing.new.files in
    let written = g.F.Files.history c.write_unfinished.new.files in
    let honest_1 = c.make_missing.ensures.honest honest in
    let above = c.make_missing.ensures.folders honest in
    let folders = c.in_ok-make_missing.ensures.made honest told in
    let may = may_rename place old made part placed above folders (c.args.header.now ++ c.args.content.now) written.tree (c.in_ok-write_unfinished.ensures.written honest_1) in
    caused _ _ _ _ c.rename.result (c.rename.ensures.cause (c.write_unfinished.ensures.honest honest_1)) may failed
    (omega (arith, c.make_missing.ensures.later, c.write_unfinished.ensures.later))

-- ---- the folders that are known exist still

pub returns-in_err-make_missing-clause-folders : goal.returns-in_err-make_missing-clause-folders
returns-in_err-make_missing-clause-folders g c = λ known told. (c.make_missing.ensures.honest known.0, folders_now _ _ c.args.self.now.folders (c.make_missing.ensures.stay known.0) known.1)

pub returns-in_err-write_unfinished-clause-folders : goal.returns-in_err-write_unfinished-clause-folders
returns-in_err-write_unfinished-clause-folders g c = λ known told.
    let made = g.F.Files.history c.make_missing.new.files in
    let written = g.F.Files.history c.write_unfinished.new.files in
    let honest = c.make_missing.ensures.honest known.0 in
    let stood = folders_now _ made c.args.self.now.folders (c.make_missing.ensures.stay known.0) known.1 in
    let own = own_is_folder made.tree c.args.place.now (c.in_ok-make_missing.ensures.made known.0 told) in
    let noted = c.note_folders-noted.ensures made.tree (g.met.F.Files.rooted c.make_missing.new.files honest) own stood in
    (c.write_unfinished.ensures.honest honest, folders_now made written _ (adds_weaker made written (c.write_unfinished.ensures.moments honest) (one_stay unfinished_place made.tree)) noted)

pub returns-clause-folders : goal.returns-clause-folders
returns-clause-folders g c = λ known told.
    let made = g.F.Files.history c.make_missing.new.files in
    let written = g.F.Files.history c.write_unfinished.new.files in
    let new = g.F.Files.history c.rename.new.self in
    let honest = c.make_missing.ensures.honest known.0 in
    let honest_1 = c.write_unfinished.ensures.honest honest in
    let stood = folders_now _ made c.args.self.now.folders (c.make_missing.ensures.stay known.0) known.1 in
    let own = own_is_folder made.tree c.args.place.now (c.in_ok-make_missing.ensures.made known.0 told) in
    let noted = c.note_folders-noted.ensures made.tree (g.met.F.Files.rooted c.make_missing.new.files honest) own stood in
    let there = folders_now made written _ (adds_weaker made written (c.write_unfinished.ensures.moments honest) (one_stay unfinished_place made.tree)) noted in
    (c.rename.ensures.honest honest_1, folders_now written new _ (adds_weaker written new (c.rename.ensures.change honest_1).moments (while_renamed unfinished_place c.args.place.now written.tree)) there)
