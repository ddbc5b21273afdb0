use Rattle.std.proofs.Common.{subst, inl, inr, ⊎_elim, List, refl, arith}
use Rattle.std.proofs.lemmas.Result.{err_from_is_err_and}
use Rattle.gix_ref_file.proofs.Histories.{adds_weaker, adds_joined, adds_nothing}
use Rattle.gix_ref_lock.specs.Moments.{IsMaking, made_by}
use Rattle.gix_ref_lock.specs.declared.act.Move.{Move}
use Rattle.gix_ref_lock.proofs.Progress.{Progress, begun, ended, apart_now, one_made, one_may}
use Rattle.gix_ref_lock.proofs.StepEnds.{not_made, all_made}
use Rattle.gix_ref_lock.specs.Needs.{log_paths}
use Rattle.gix_ref_way.proofs.Rooms.{only_now, onlys_joined}
use Rattle.gix_ref_lock.proofs.Needed.{logs_wider, next_beside, next_needs, wider}
use Rattle.gix_ref_lock.proofs.Kept.{honest_joined}
use Rattle.gix_ref_lock.proofs.steps.make_all.Goals as goal

pub moves-init : goal.moves-init
moves-init g c = record {
  kept = record { honest = λ honest. honest; later = omega arith; quiet = λ quiet. refl };
  moments = λ once honest. adds_nothing (g.F.Files.history c.args.files.now);
  folders = λ once honest. adds_nothing (g.F.Files.history c.args.files.now);
  made = λ once honest. begun (made_by c.args.step) c.args.moves.now (g.F.Files.history c.args.files.now).tree;
}

pub returns-in_err-make-clause-moments : goal.returns-in_err-make-clause-moments
returns-in_err-make-clause-moments g c = λ once honest.
    let old = g.F.Files.history c.args.files.now in
    let mid = g.F.Files.history c.moves.files in
    let new = g.F.Files.history c.make.new.files in
    let f = made_by c.args.step in
    let moves = c.args.moves.now in
    let first = c.in-Some.first.now in
    let others = c.in-Some.others.now in
    let so_far = subst (λ (rest : List Move). Progress f moves rest old.tree mid.tree) c.in-Some.ensures.cases.0 (c.moves.invariant.made once honest) in
    let apart = apart_now f moves first others old.tree mid.tree so_far once in
    adds_joined old mid new (c.moves.invariant.moments once honest)
    (adds_weaker mid new (c.make.ensures.moments apart (c.moves.invariant.kept.honest honest))
    (one_may f moves first others old.tree mid.tree so_far once (IsMaking c.args.step) (not_made c.args.step) (all_made c.args.step)))

pub moves-preserved : goal.moves-preserved
moves-preserved g c =
    let old = g.F.Files.history c.args.files.now in
    let mid = g.F.Files.history c.moves.files in
    let new = g.F.Files.history c.make.new.files in
    let f = made_by c.args.step in
    let moves = c.args.moves.now in
    let first = c.in-Some.first.now in
    let others = c.in-Some.others.now in
    record {
      kept = honest_joined g.F.Files c.args.files.now c.moves.files c.make.new.files c.moves.invariant.kept c.in_ok-make.ensures.keeps (λ quiet. (tt, tt));
      moments = λ once honest.
          let so_far = subst (λ (rest : List Move). Progress f moves rest old.tree mid.tree) c.in-Some.ensures.cases.0 (c.moves.invariant.made once honest) in
          let apart = apart_now f moves first others old.tree mid.tree so_far once in
          adds_joined old mid new (c.moves.invariant.moments once honest)
          (adds_weaker mid new (c.make.ensures.moments apart (c.moves.invariant.kept.honest honest))
          (one_may f moves first others old.tree mid.tree so_far once (IsMaking c.args.step) (not_made c.args.step) (all_made c.args.step)));
      folders = λ once honest.
          let so_far = subst (λ (rest : List Move). Progress f moves rest old.tree mid.tree) c.in-Some.ensures.cases.0 (c.moves.invariant.made once honest) in
          onlys_joined (log_paths moves) old mid new (c.moves.invariant.folders once honest)
          (adds_weaker mid new (c.make.ensures.folders (c.moves.invariant.kept.honest honest)) (logs_wider f moves first others old.tree mid.tree so_far));
      made = λ once honest.
          let so_far = subst (λ (rest : List Move). Progress f moves rest old.tree mid.tree) c.in-Some.ensures.cases.0 (c.moves.invariant.made once honest) in
          let apart = apart_now f moves first others old.tree mid.tree so_far once in
          one_made f moves first others old.tree mid.tree so_far once new.tree (c.in_ok-make.ensures.made apart (c.moves.invariant.kept.honest honest));
    }

pub returns-clause-made : goal.returns-clause-made
returns-clause-made g c = λ once honest.
    ended (made_by c.args.step) c.args.moves.now c.moves.rest.now (g.F.Files.history c.args.files.now).tree (g.F.Files.history c.moves.files).tree c.in_default.ensures.cases (c.moves.invariant.made once honest)

pub returns-in_err-make-clause-folders : goal.returns-in_err-make-clause-folders
returns-in_err-make-clause-folders g c = λ once honest.
    let old = g.F.Files.history c.args.files.now in
    let mid = g.F.Files.history c.moves.files in
    let new = g.F.Files.history c.make.new.files in
    let f = made_by c.args.step in
    let moves = c.args.moves.now in
    let first = c.in-Some.first.now in
    let others = c.in-Some.others.now in
    let so_far = subst (λ (rest : List Move). Progress f moves rest old.tree mid.tree) c.in-Some.ensures.cases.0 (c.moves.invariant.made once honest) in
    onlys_joined (log_paths moves) old mid new (c.moves.invariant.folders once honest)
    (adds_weaker mid new (c.make.ensures.folders (c.moves.invariant.kept.honest honest)) (logs_wider f moves first others old.tree mid.tree so_far))

pub returns-in_err-make-clause-failed : goal.returns-in_err-make-clause-failed
returns-in_err-make-clause-failed g c = λ once beside honest all.
    let old = g.F.Files.history c.args.files.now in
    let mid = g.F.Files.history c.moves.files in
    let f = made_by c.args.step in
    let moves = c.args.moves.now in
    let first = c.in-Some.first.now in
    let others = c.in-Some.others.now in
    let so_far = subst (λ (rest : List Move). Progress f moves rest old.tree mid.tree) c.in-Some.ensures.cases.0 (c.moves.invariant.made once honest) in
    let apart = apart_now f moves first others old.tree mid.tree so_far once in
    let needs = next_needs f moves first others old.tree mid.tree so_far c.args.step beside (only_now (log_paths moves) old mid (c.moves.invariant.folders once honest)) all in
    let fails = c.in_err-make.ensures.failed apart (next_beside f moves first others old.tree mid.tree so_far beside) (c.moves.invariant.kept.honest honest) needs in
    let count = g.F.Files.failures in
    let p = err_from_is_err_and c.from_residual.result c.from_residual.ensures.1 in
    rw (p.1, p.2) (⊎_elim inl (λ fault. inr (wider (count c.args.files.now) (count c.moves.files) (count c.make.new.files) (count c.make.new.files) c.moves.invariant.kept.later (omega arith) fault)) fails)

pub returns-in_err-make-clause-keeps : goal.returns-in_err-make-clause-keeps
returns-in_err-make-clause-keeps g c =
    let p = err_from_is_err_and c.from_residual.result c.from_residual.ensures.1 in
    rw (p.1, p.2) (honest_joined g.F.Files c.args.files.now c.moves.files c.make.new.files c.moves.invariant.kept c.in_err-make.ensures.keeps (λ short. (tt, short)))
