use Rattle.std.proofs.Common.{◌≡◌, ⊎_elim, refl, sym, ◌∙◌, subst, List, ◌∷◌, arith}
use Rattle.gix_ref_file.proofs.Histories.{adds_weaker, adds_joined, adds_nothing}
use Rattle.gix_ref_lock.specs.Locks.{OthersStay}
use Rattle.gix_ref_lock.specs.GivenBacks.{worse}
use Rattle.gix_ref_lock.proofs.GivenUp.{first_half, second_half}
use Rattle.gix_ref_lock.proofs.Kept.{kept_joined}
use Rattle.gix_ref_lock.proofs.Worse.{both_done, one_failed, none_failed}
use Rattle.gix_ref_lock.specs.Contents.{lock_path_of}
use Rattle.gix_ref_lock.specs.Moves.{LocksHeld, Once, lock_paths}
use Rattle.gix_ref_lock.specs.declared.act.Move.{Move}
use Rattle.gix_ref_lock.proofs.FileMoves.{now_of}
use Rattle.gix_ref_lock.proofs.LockPaths.{locks_joined, one_lock}
use Rattle.gix_ref_lock.proofs.Needed.{wider}
use Rattle.gix_ref_lock.proofs.Givings.{Giving, giving_begun, giving, one_given, giving_ended}
use Rattle.gix_ref_lock.proofs.Unlockings.{Unlocking, held_still, unlocking_begun, unlocking_on, unlocking_ended}
use Rattle.gix_ref_lock.proofs.commit.give_back_all.Goals as goal

pub moves-init : goal.moves-init
moves-init g c = record {
  kept = record { honest = λ honest. honest; later = omega arith; quiet = λ none. refl; folders = λ honest. adds_nothing (g.F.Files.history c.args.files.now) };
  locks = λ honest. adds_nothing (g.F.Files.history c.args.files.now);
  moments = λ once honest. adds_nothing (g.F.Files.history c.args.files.now);
  given = λ once honest. giving_begun c.args.moves.now (g.F.Files.history c.args.files.now).tree;
  failed = λ honest failed. cc;
  held = λ once honest held. (λ failed. cc, (once, held));
  unlocked = λ honest. unlocking_begun c.args.moves.now (g.F.Files.history c.args.files.now).tree;
}

pub moves-preserved : goal.moves-preserved
moves-preserved g c =
    let old = g.F.Files.history c.args.files.now in
    let mid = g.F.Files.history c.moves.files in
    let new = g.F.Files.history c.withdraw.new.files in
    let f = g.F.Files.failures in
    let moves = c.args.moves.now in
    let first = c.in-Some.first.now in
    let others = c.in-Some.others.now in
    let before = c.moves.outcome in
    let own = c.withdraw.result in
    let is : c.or_worse-outcome.result ≡ worse before own = c.or_worse-outcome.ensures in
    record {
      kept = kept_joined g.F.Files c.args.files.now c.moves.files c.withdraw.new.files c.moves.invariant.kept c.withdraw.ensures.keeps (λ none. none_failed before own (λ failed. none (is ∙ failed)));
      locks = λ honest. locks_joined old mid new (c.moves.invariant.locks honest)
          (adds_weaker mid new (c.withdraw.ensures.moments (c.moves.invariant.kept.honest honest)) (one_lock first.lock.place.items first.lock.path.items first.lock.beside mid.tree));
      moments = λ once honest.
          let so_far = subst (λ (rest : List Move). Giving before moves rest old.tree mid.tree) c.in-Some.ensures.cases.0 (c.moves.invariant.given once honest) in
          adds_joined old mid new (c.moves.invariant.moments once honest)
          (adds_weaker mid new (c.withdraw.ensures.moments (c.moves.invariant.kept.honest honest)) (giving before moves first others old.tree mid.tree so_far once));
      given = λ once honest.
          let so_far = subst (λ (rest : List Move). Giving before moves rest old.tree mid.tree) c.in-Some.ensures.cases.0 (c.moves.invariant.given once honest) in
          let stay = now_of (OthersStay (lock_path_of first) mid.tree) mid new (λ path apart. refl) (c.withdraw.ensures.moments (c.moves.invariant.kept.honest honest)) in
          one_given before moves first others old.tree mid.tree so_far once new.tree stay own c.or_worse-outcome.result (λ done. both_done before own (sym is ∙ done)) (c.withdraw.ensures.gone (c.moves.invariant.kept.honest honest));
      failed = λ honest failed.
          ⊎_elim (λ one. wider (f c.args.files.now) (f c.args.files.now) (f c.moves.files) (f c.withdraw.new.files) (omega arith) c.withdraw.ensures.keeps.later (c.moves.invariant.failed honest one))
          (λ one. wider (f c.args.files.now) (f c.moves.files) (f c.withdraw.new.files) (f c.withdraw.new.files) c.moves.invariant.kept.later (omega arith) (c.withdraw.ensures.failed (c.moves.invariant.kept.honest honest) one))
          (one_failed before own (sym is ∙ failed));
      held = λ once honest all.
          let then = c.moves.invariant.kept.honest honest in
          let so_far = c.moves.invariant.held once honest all in
          let split : c.moves.rest.now ≡ first ∷ others = c.in-Some.ensures.cases.0 in
          let apart = subst (λ (rest : List Move). Once (lock_paths rest)) split so_far.1.0 in
          let there = subst (λ (rest : List Move). LocksHeld rest mid.tree) split so_far.1.1 in
          let stay = now_of (OthersStay (lock_path_of first) mid.tree) mid new (λ path none. refl) (c.withdraw.ensures.moments then) in (
            λ failed. ⊎_elim (λ one. first_half (f c.args.files.now) (f c.moves.files) (f c.withdraw.new.files) (so_far.0 one) c.withdraw.ensures.keeps.later)
                (λ one. second_half (f c.args.files.now) (f c.moves.files) (f c.withdraw.new.files) c.moves.invariant.kept.later (c.withdraw.ensures.held then there.0 one))
                (one_failed before own (sym is ∙ failed)),
            (apart.1, held_still (lock_path_of first) others mid.tree new.tree stay apart.0 there.1),
          );
      unlocked = λ honest.
          let then = c.moves.invariant.kept.honest honest in
          let so_far = subst (λ (rest : List Move). Unlocking before moves rest old.tree mid.tree) c.in-Some.ensures.cases.0 (c.moves.invariant.unlocked honest) in
          let stay = now_of (OthersStay (lock_path_of first) mid.tree) mid new (λ path apart. refl) (c.withdraw.ensures.moments then) in
          unlocking_on before own c.or_worse-outcome.result moves first others old.tree mid.tree new.tree so_far stay (λ done. both_done before own (sym is ∙ done)) (c.withdraw.ensures.gone then);
    }

pub returns-clause-gone : goal.returns-clause-gone
returns-clause-gone g c = λ once honest.
    giving_ended c.moves.outcome c.args.moves.now c.moves.rest.now (g.F.Files.history c.args.files.now).tree (g.F.Files.history c.moves.files).tree c.in_default.ensures.cases (c.moves.invariant.given once honest)

pub returns-clause-rolled_back : goal.returns-clause-rolled_back
returns-clause-rolled_back g c = λ honest.
    unlocking_ended c.moves.outcome c.args.moves.now c.moves.rest.now (g.F.Files.history c.args.files.now).tree (g.F.Files.history c.moves.files).tree c.in_default.ensures.cases (c.moves.invariant.unlocked honest)

pub returns-clause-held : goal.returns-clause-held
returns-clause-held g c = λ once honest held. (c.moves.invariant.held once honest held).0
