use Rattle.std.proofs.Common.{subst, List, ℕ, ◌≡◌, ◌&&◌, sym, true}
use Rattle.gix_ref_file.specs.Changes.{to_rename, is_file_at, may_hold_file}
use Rattle.gix_ref_file.specs.History.{Makes}
use Rattle.gix_ref_file.proofs.Histories.{adds_weaker}
use Rattle.gix_ref_lock.proofs.LockLemmas.{renamed_put, put_by, on_ok_both, must_rise}
use Rattle.gix_ref_way.proofs.FoldersStay.{while_renamed}
use Rattle.std.proofs.lemmas.Bool.{and_from}
use Rattle.gix_ref_lock.proofs.Kept.{quiet_of}
use Rattle.gix_ref_lock.proofs.lock.Lock.put.Goals as goal

pub returns-clause-moments : goal.returns-clause-moments
returns-clause-moments g c = λ honest.
    let old = g.F.Files.history c.args.files.now in
    let new = g.F.Files.history c.rename.new.self in
    let from = subst (λ (path : List ℕ). Makes (to_rename path c.deref-2.result.now) old new c.rename.result) c.deref.ensures.value (c.rename.ensures.change honest) in
    let change = subst (λ (path : List ℕ). Makes (to_rename c.args.self.now.path.items path) old new c.rename.result) c.deref-2.ensures.value from in
    adds_weaker old new change.moments (λ x left. renamed_put c.args.self.now.path.items c.args.self.now.place.items old.tree x left)

pub returns-clause-put : goal.returns-clause-put
returns-clause-put g c = λ honest.
    let old = g.F.Files.history c.args.files.now in
    let new = g.F.Files.history c.rename.new.self in
    let from = subst (λ (path : List ℕ). Makes (to_rename path c.deref-2.result.now) old new c.rename.result) c.deref.ensures.value (c.rename.ensures.change honest) in
    let change = subst (λ (path : List ℕ). Makes (to_rename c.args.self.now.path.items path) old new c.rename.result) c.deref-2.ensures.value from in
    on_ok_both c.rename.result (λ may is. put_by c.args.self.now.path.items c.args.self.now.place.items old.tree new.tree c.args.self.now.beside may is) change.allowed change.made

pub returns-clause-failed : goal.returns-clause-failed
returns-clause-failed g c = λ honest is may failed.
    let old = (g.F.Files.history c.args.files.now).tree in
    let from = subst (λ (path : List ℕ). is_file_at old path ≡ true) (sym c.deref.ensures.value) is in
    let to = subst (λ (path : List ℕ). may_hold_file old path ≡ true) (sym c.deref-2.ensures.value) may in
    must_rise (is_file_at old c.deref.result.now && may_hold_file old c.deref-2.result.now) _ _ c.rename.result (and_from (is_file_at old c.deref.result.now) (may_hold_file old c.deref-2.result.now) from to) (c.rename.ensures.cause honest) failed

pub returns-clause-keeps : goal.returns-clause-keeps
returns-clause-keeps g c = record {
  honest = c.rename.ensures.honest;
  later = c.rename.ensures.later;
  quiet = quiet_of c.rename.result c.rename.ensures.unfailed c.rename.ensures.memory;
  folders = λ honest.
      let old = g.F.Files.history c.args.files.now in
      adds_weaker old (g.F.Files.history c.rename.new.self) (c.rename.ensures.change honest).moments (λ x left. while_renamed c.deref.result.now c.deref-2.result.now old.tree x left);
}
