use Rattle.std.proofs.Common.{◌≡◌, ◌∙◌, ap, sym, arith, length-take, take, Err}
use Rattle.std.proofs.lemmas.Result.{err_from_is_err_and}
use Rattle.std.specs.Prelude.{is_some}
use Rattle.gix_ref_way.specs.declared.error.Halt.TheVariants.{Blocked, Failed}
use Rattle.gix_ref_way.proofs.Stored.{now_same, same_joined}
use Rattle.gix_ref_way.proofs.Above.{above_slash, above_joined}
use Rattle.gix_ref_way.proofs.FoldersKept.{keeps_joined}
use Rattle.gix_ref_way.proofs.FoldersMade.{none_made, one_made, path_above, risen_later, stands_in_made}
use Rattle.gix_ref_way.proofs.folders.make_each.Goals as goal
use Rattle.gix_ref_way.proofs.folders.make_each.Goals.{then-byte-eq47+in_ok-make_folder, else-byte-eq47}

pub returns-in_err-make_folder-clause-honest : goal.returns-in_err-make_folder-clause-honest
returns-in_err-make_folder-clause-honest g c = λ honest. c.make_folder.ensures.honest (c.loop-end.invariant.honest honest)

pub returns-in_err-make_folder-clause-moments : goal.returns-in_err-make_folder-clause-moments
returns-in_err-make_folder-clause-moments g c = λ honest.
    same_joined _ _ _ (c.loop-end.invariant.moments honest) (c.make_folder.ensures.moments (c.loop-end.invariant.honest honest))

pub returns-in_err-make_folder-clause-folders : goal.returns-in_err-make_folder-clause-folders
returns-in_err-make_folder-clause-folders g c = λ honest.
    above_joined c.args.path.now _ _ _ _ (above_slash c.args.path.now c.loop-end.end c.loop-end-test.true c.if-byte-eq47.true)
    (c.loop-end.invariant.folders honest) (c.make_folder.ensures.folders (c.loop-end.invariant.honest honest))

pub returns-in_err-make_folder-clause-stay : goal.returns-in_err-make_folder-clause-stay
returns-in_err-make_folder-clause-stay g c = λ honest.
    keeps_joined _ _ _ (c.loop-end.invariant.stay honest) (c.make_folder.ensures.stay (c.loop-end.invariant.honest honest))

pub returns-in_err-make_folder-clause-blocked : goal.returns-in_err-make_folder-clause-blocked
returns-in_err-make_folder-clause-blocked g c = λ honest blocked.
    let so_far = c.loop-end.invariant in
    let path = c.args.path.now in
    let end = c.loop-end.end in
    let error = err_from_is_err_and c.from_residual.result c.from_residual.ensures.1 in
    let is_blocked : c.make_folder.result ≡ Err Blocked = cc (error.1, error.2) in
    let same = now_same _ _ (so_far.moments honest) (take end path) in (
      take end path,
      above_slash path end c.loop-end-test.true c.if-byte-eq47.true,
      ap is_some (sym same) ∙ c.make_folder.ensures.blocked (so_far.honest honest) is_blocked,
    )

pub returns-in_err-make_folder-clause-failed : goal.returns-in_err-make_folder-clause-failed
returns-in_err-make_folder-clause-failed g c = λ honest whole failed.
    let so_far = c.loop-end.invariant in
    let path = c.args.path.now in
    let end = c.loop-end.end in
    let above = above_slash path end c.loop-end-test.true c.if-byte-eq47.true in
    let error = err_from_is_err_and c.from_residual.result c.from_residual.ensures.1 in
    let same : c.make_folder.result ≡ Err Failed = cc (error.1, error.2) in
    risen_later _ _ _ _ so_far.later
    (c.make_folder.ensures.failed (so_far.honest honest) (path_above (take end path) path above whole)
    (stands_in_made end path (take end path) _ (omega (arith, length-take end path)) above (so_far.made honest)) same) (omega arith)

pub loop-end-preserved : goal.loop-end-preserved
loop-end-preserved g c =
    let so_far = c.loop-end.invariant in
    let path = c.args.path.now in
    let end = c.loop-end.end in
    elim c.if-byte-eq47.branch [
      | then-byte-eq47+in_ok-make_folder w ↦ rw w.files-is (record {
        honest = λ honest. w.make_folder.ensures.honest (so_far.honest honest);
        moments = λ honest. same_joined _ _ _ (so_far.moments honest) (w.make_folder.ensures.moments (so_far.honest honest));
        folders = λ honest. above_joined path _ _ _ _ (above_slash path end c.loop-end-test.true w.if-byte-eq47.true)
            (so_far.folders honest) (w.make_folder.ensures.folders (so_far.honest honest));
        stay = λ honest. keeps_joined _ _ _ (so_far.stay honest) (w.make_folder.ensures.stay (so_far.honest honest));
        later = omega (arith, so_far.later, w.make_folder.ensures.later);
        unfailed = w.in_ok-make_folder.ensures.quiet ∙ so_far.unfailed;
        made = λ honest. one_made end path _ _ (so_far.made honest) (w.in_ok-make_folder.ensures.kept (so_far.honest honest)) (w.in_ok-make_folder.ensures.made (so_far.honest honest));
      })
      | else-byte-eq47 w ↦ rw w.files-is (record {
        honest = so_far.honest;
        moments = so_far.moments;
        folders = so_far.folders;
        stay = so_far.stay;
        later = so_far.later;
        unfailed = so_far.unfailed;
        made = λ honest. none_made end path _ (so_far.made honest) w.if-byte-eq47.false;
      })
    ]
