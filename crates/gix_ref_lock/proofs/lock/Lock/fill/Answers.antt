use Rattle.std.proofs.Common.{subst, List, ℕ, ◌≡◌, sym, true}
use Rattle.gix_ref_file.specs.Changes.{to_write, may_hold_file}
use Rattle.gix_ref_file.specs.History.{Makes}
use Rattle.gix_ref_file.proofs.Histories.{adds_weaker}
use Rattle.gix_ref_lock.proofs.LockLemmas.{written_others, filled_by, on_ok_both, must_rise, written_stays}
use Rattle.gix_ref_way.proofs.FoldersStay.{while_written}
use Rattle.gix_ref_file.proofs.Rooted.{file_room}
use Rattle.gix_ref_lock.proofs.Kept.{quiet_of}
use Rattle.gix_ref_lock.proofs.lock.Lock.fill.Goals as goal

pub returns-clause-moments : goal.returns-clause-moments
returns-clause-moments g c = λ honest.
    let old = g.F.Files.history c.args.files.now in
    let new = g.F.Files.history c.write.new.self in
    let change = subst (λ (path : List ℕ). Makes (to_write path c.args.bytes.now) old new c.write.result) c.deref.ensures.value (c.write.ensures.change honest) in
    adds_weaker old new change.moments (λ x left. written_others c.args.self.now.path.items c.args.bytes.now old.tree x left)

pub returns-clause-filled : goal.returns-clause-filled
returns-clause-filled g c = λ honest.
    let old = g.F.Files.history c.args.files.now in
    let new = g.F.Files.history c.write.new.self in
    let change = subst (λ (path : List ℕ). Makes (to_write path c.args.bytes.now) old new c.write.result) c.deref.ensures.value (c.write.ensures.change honest) in
    on_ok_both c.write.result (λ may is. filled_by c.args.self.now.path.items c.args.bytes.now old.tree new.tree may is) change.allowed change.made

pub returns-clause-failed : goal.returns-clause-failed
returns-clause-failed g c = λ honest is failed.
    let old = (g.F.Files.history c.args.files.now).tree in
    let may = file_room old c.args.self.now.path.items (g.met.F.Files.rooted c.args.files.now honest) is in
    must_rise (may_hold_file old c.deref.result.now) _ _ c.write.result (subst (λ (path : List ℕ). may_hold_file old path ≡ true) (sym c.deref.ensures.value) may) (c.write.ensures.cause honest) failed

pub returns-clause-stays : goal.returns-clause-stays
returns-clause-stays g c = λ honest is.
    let old = g.F.Files.history c.args.files.now in
    let new = g.F.Files.history c.write.new.self in
    let change = subst (λ (path : List ℕ). Makes (to_write path c.args.bytes.now) old new c.write.result) c.deref.ensures.value (c.write.ensures.change honest) in
    written_stays c.args.self.now.path.items c.args.bytes.now old new change.moments is

pub returns-clause-keeps : goal.returns-clause-keeps
returns-clause-keeps g c = record {
  honest = c.write.ensures.honest;
  later = c.write.ensures.later;
  quiet = quiet_of c.write.result c.write.ensures.unfailed c.write.ensures.memory;
  folders = λ honest.
      let old = g.F.Files.history c.args.files.now in
      adds_weaker old (g.F.Files.history c.write.new.self) (c.write.ensures.change honest).moments (λ x left. while_written c.deref.result.now c.args.bytes.now old.tree x left);
}
