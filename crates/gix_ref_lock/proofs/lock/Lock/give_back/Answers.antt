use Rattle.std.proofs.Common.{subst, List, ℕ, ◌≡◌, sym, true}
use Rattle.gix_ref_file.specs.Changes.{to_remove_file, is_file_at}
use Rattle.gix_ref_file.specs.History.{Makes}
use Rattle.gix_ref_file.proofs.Histories.{adds_weaker}
use Rattle.gix_ref_lock.proofs.LockLemmas.{removed_others, given_back, on_ok_both, must_rise}
use Rattle.gix_ref_way.proofs.FoldersStay.{while_removed}
use Rattle.gix_ref_lock.proofs.Kept.{quiet_of}
use Rattle.gix_ref_lock.proofs.lock.Lock.give_back.Goals as goal

pub returns-clause-moments : goal.returns-clause-moments
returns-clause-moments g c = λ honest.
    let old = g.F.Files.history c.args.files.now in
    let new = g.F.Files.history c.remove_file.new.self in
    let change = subst (λ (path : List ℕ). Makes (to_remove_file path) old new c.remove_file.result) c.deref.ensures.value (c.remove_file.ensures.change honest) in
    adds_weaker old new change.moments (λ x left. removed_others c.args.self.now.path.items old.tree x left)

pub returns-clause-gone : goal.returns-clause-gone
returns-clause-gone g c = λ honest.
    let old = g.F.Files.history c.args.files.now in
    let new = g.F.Files.history c.remove_file.new.self in
    let change = subst (λ (path : List ℕ). Makes (to_remove_file path) old new c.remove_file.result) c.deref.ensures.value (c.remove_file.ensures.change honest) in
    on_ok_both c.remove_file.result (λ may is. given_back c.args.self.now.path.items old.tree new.tree may is) change.allowed change.made

pub returns-clause-held : goal.returns-clause-held
returns-clause-held g c = λ honest is failed.
    let old = (g.F.Files.history c.args.files.now).tree in
    must_rise (is_file_at old c.deref.result.now) _ _ c.remove_file.result (subst (λ (path : List ℕ). is_file_at old path ≡ true) (sym c.deref.ensures.value) is) (c.remove_file.ensures.cause honest) failed

pub returns-clause-keeps : goal.returns-clause-keeps
returns-clause-keeps g c = record {
  honest = c.remove_file.ensures.honest;
  later = c.remove_file.ensures.later;
  quiet = quiet_of c.remove_file.result c.remove_file.ensures.unfailed c.remove_file.ensures.memory;
  folders = λ honest.
      let old = g.F.Files.history c.args.files.now in
      adds_weaker old (g.F.Files.history c.remove_file.new.self) (c.remove_file.ensures.change honest).moments (λ x left. while_removed c.deref.result.now old.tree x left);
}
