use Rattle.std.proofs.Common.{◌≡◌, refl, ◌∙◌, ap, ⊎_elim, Err, arith}
use Rattle.std.proofs.lemmas.Result.{on_ok_weaker, err_from_is_err_and}
use Rattle.gix_ref_file.specs.declared.files.FileError.TheVariants.{Failed}
use Rattle.history_model.specs.Places.{head_place}
use Rattle.history_store.specs.References.{head_lock}
use Rattle.history_store.proofs.Cleared.{head_may_follow, lock_fits}
use Rattle.gix_ref_way.proofs.FoldersMade.{caused}
use Rattle.history_store.proofs.HeadMoments.{lock_moments, head_moments}
use Rattle.history_store.proofs.Honesty.{honesty_of, more_honesty, then_honesty}
use Rattle.history_store.proofs.Made.{head_written}
use Rattle.gix_ref_way.proofs.FoldersStay.{renamed_ok}
use Rattle.history_store.proofs.creation.write_head.Goals as goal

pub returns-in_err-write_anew-clause-makes : goal.returns-in_err-write_anew-clause-makes
returns-in_err-write_anew-clause-makes g c =
    let p = err_from_is_err_and c.from_residual.result c.from_residual.ensures.1 in
    let write = c.write_anew.ensures in
    record {
      keeps = more_honesty g.F.Files _ _ _ _ (honesty_of g.F.Files _ _ c.write_anew.result write.honest write.later write.unfailed write.memory) (λ told. cc (told, c.in_err-write_anew.was, p.1, p.2));
      written = λ honest. rw p.1 tt;
      moments = λ honest. lock_moments (g.F.Files.history c.args.names.now) (g.F.Files.history c.write_anew.new.files) (write.moments honest);
    }

pub returns-clause-makes : goal.returns-clause-makes
returns-clause-makes g c =
    let write = c.write_anew.ensures in
    let rename = c.rename.ensures in
    record {
      keeps = then_honesty g.F.Files _ _ _ _ _ (honesty_of g.F.Files _ _ c.write_anew.result write.honest write.later write.unfailed write.memory)
          (honesty_of g.F.Files _ _ c.rename.result rename.honest rename.later rename.unfailed rename.memory) (λ told. absurd (cc (told, c.in_ok-write_anew.was)));
      written = λ honest.
          let made = c.in_ok-write_anew.ensures.made honest in
          let renamed = rename.change (write.honest honest) in
          on_ok_weaker c.rename.result (λ is. head_written _ (g.F.Files.history c.args.names.now).tree (g.F.Files.history c.write_anew.new.files).tree (g.F.Files.history c.rename.new.self).tree refl made is) renamed.made;
      moments = λ honest.
          head_moments _ (g.F.Files.history c.args.names.now) (g.F.Files.history c.write_anew.new.files) (g.F.Files.history c.rename.new.self) refl
          (c.in_ok-write_anew.ensures.allowed honest) (c.in_ok-write_anew.ensures.made honest) (write.moments honest) (rename.change (write.honest honest)).moments;
    }

pub returns-clause-folders : goal.returns-clause-folders
returns-clause-folders g c = λ honest.
    renamed_ok head_lock _ head_place (g.F.Files.history c.args.names.now).tree (g.F.Files.history c.write_anew.new.files) (g.F.Files.history c.rename.new.self) c.rename.result
    (c.in_ok-write_anew.ensures.allowed honest) (c.in_ok-write_anew.ensures.made honest) (c.rename.ensures.change (c.write_anew.ensures.honest honest))

pub returns-in_err-write_anew-clause-failed : goal.returns-in_err-write_anew-clause-failed
returns-in_err-write_anew-clause-failed g c = λ honest clear failed.
    let error = err_from_is_err_and c.from_residual.result c.from_residual.ensures.1 in
    let same : c.write_anew.result ≡ Err Failed = cc (error.1, error.2) in
    c.write_anew.ensures.failed honest (lock_fits (g.F.Files.history c.args.names.now).tree clear) same

pub returns-clause-failed : goal.returns-clause-failed
returns-clause-failed g c = λ honest clear failed.
    ⊎_elim (λ risen. risen) (λ (never : ⊥). absurd never)
    (caused _ _ _ _ c.rename.result (c.rename.ensures.cause (c.write_anew.ensures.honest honest))
    (head_may_follow _ (g.F.Files.history c.args.names.now).tree (g.F.Files.history c.write_anew.new.files).tree clear (c.in_ok-write_anew.ensures.made honest)) failed c.write_anew.ensures.later)
