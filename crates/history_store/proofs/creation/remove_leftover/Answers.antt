use Rattle.std.proofs.Common.{◌≡◌, ◌∙◌, ⊎_elim, arith, refl, Option, Some, None}
use Rattle.std.proofs.lemmas.Result.{err_from_is_err_and, on_ok_weaker}
use Rattle.gix_ref_file.specs.Tree.{Node, bytes_of, file, folder, place_of}
use Rattle.gix_ref_file.specs.declared.files.Place.TheVariants.{Absent}
use Rattle.gix_ref_file.proofs.Histories.{adds_nothing}
use Rattle.history_model.specs.Places.{unfinished_place}
use Rattle.history_store.proofs.Cleared.{may_remove}
use Rattle.gix_ref_way.proofs.FoldersMade.{caused}
use Rattle.history_store.proofs.HeadMoments.{leftover_moments}
use Rattle.history_store.proofs.Honesty.{honesty_of, same_honesty}
use Rattle.history_store.proofs.Made.{cleared}
use Rattle.gix_ref_way.proofs.FoldersStay.{removed_ok}
use Rattle.history_store.proofs.creation.remove_leftover.Goals as goal

none_there : (node : Option Node) → place_of node ≡ Absent → bytes_of node ≡ None
none_there None is = refl
none_there (Some (file bytes)) is = cc
none_there (Some folder) is = cc

pub returns-in_err-kind_of-clause-clears : goal.returns-in_err-kind_of-clause-clears
returns-in_err-kind_of-clause-clears g c =
    let p = err_from_is_err_and c.from_residual.result c.from_residual.ensures.1 in
    record { keeps = same_honesty g.F.Files _ _ _ refl; cleared = λ honest. rw p.1 tt; moments = λ honest. adds_nothing _ }

pub returns-in-Absent-clause-clears : goal.returns-in-Absent-clause-clears
returns-in-Absent-clause-clears g c = record {
  keeps = same_honesty g.F.Files _ _ _ refl;
  cleared = λ honest. record { gone = none_there _ (cc (c.in_ok-kind_of.ensures.place honest, c.in-Absent.is)); others = λ path apart. refl };
  moments = λ honest. adds_nothing _;
}

pub returns-in-File-clause-clears : goal.returns-in-File-clause-clears
returns-in-File-clause-clears g c =
    let removed = c.remove_file.ensures in
    record {
      keeps = honesty_of g.F.Files _ _ c.remove_file.result removed.honest removed.later removed.unfailed removed.memory;
      cleared = λ honest. on_ok_weaker c.remove_file.result (λ is. cleared (g.F.Files.history c.args.objects.now).tree (g.F.Files.history c.remove_file.new.self).tree is) (removed.change honest).made;
      moments = λ honest. leftover_moments (g.F.Files.history c.args.objects.now) (g.F.Files.history c.remove_file.new.self) (removed.change honest).moments;
    }

pub returns-in-File-clause-folders : goal.returns-in-File-clause-folders
returns-in-File-clause-folders g c = λ honest. removed_ok unfinished_place _ _ c.remove_file.result (c.remove_file.ensures.change honest)

pub returns-in-File-clause-failed : goal.returns-in-File-clause-failed
returns-in-File-clause-failed g c = λ honest clear failed.
    let told = c.in_ok-kind_of.ensures.place honest in
    let may = may_remove (g.F.Files.history c.args.objects.now).tree clear (λ absent. ⊎_elim (λ is. cc (told ∙ absent, is.1)) (λ is. cc (told ∙ absent, is)) c.in-File.is) in
    caused _ _ _ _ c.remove_file.result (c.remove_file.ensures.cause honest) may failed (omega arith)
