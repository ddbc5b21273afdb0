use Rattle.std.proofs.Common.{◌≡◌, ◌∙◌, inr, refl, ap, subst, Err}
use Rattle.gix_ref_file.specs.History.{Adds}
use Rattle.history_model.specs.Commands.{Switch}
use Rattle.history_model.specs.Meaning.{after}
use Rattle.history_layout.specs.SwitchSteps.{HeadOnTheWay, NamesBranch}
use Rattle.history_repository.specs.Stands.{Stands}
use Rattle.history.proofs.BranchSwitched.{head_alone, may_switch_so, switch_passes, switch_serves}
use Rattle.history.proofs.MoveFaults.{met_fault}
use Rattle.history_repository.specs.Faults.{file_fault}
use Rattle.gix_ref_file.specs.declared.files.FileError.TheVariants.{Failed}
use Rattle.history_store.proofs.Honesty.{more_honesty}
use Rattle.history.proofs.switching.switch_head.Goals as goal

pub returns-in-Err-clause-alone : goal.returns-in-Err-clause-alone
returns-in-Err-clause-alone g c = record {
  kept = record { objects = refl; rows = refl; failed = refl };
  kind = c.switch.ensures.keeps.kind;
  names = more_honesty g.F.Files _ _ _ _ c.switch.ensures.keeps.part (λ told. let is : c.in-Err.error ≡ Failed = cc (told, c.in-Err.is) in ap Err (c.fault_of.ensures ∙ ap file_fault is));
}

pub returns-in-Ok-clause-alone : goal.returns-in-Ok-clause-alone
returns-in-Ok-clause-alone g c = record {
  kept = record { objects = refl; rows = refl; failed = refl };
  kind = c.switch.ensures.keeps.kind;
  names = more_honesty g.F.Files _ _ _ _ c.switch.ensures.keeps.part (λ told. absurd (cc (told, c.in-Ok.is)));
}

pub returns-in-Err-clause-moves : goal.returns-in-Err-clause-moves
returns-in-Err-clause-moves g c = λ r h none.
    let F = g.F.Files in
    let now = c.args.repository.now in
    let old = F.history now.names.store.files in
    let new = F.history c.switch.new.self.store.files in
    let left = record now { names = c.switch.new.self } in
    let may = may_switch_so F.is_honest F.history now r h c.deref.result.now c.deref-2.result.now c.args.name.items c.deref.ensures.value c.deref-2.ensures.value none in
    record {
      ends = met_fault _ (Stands F.is_honest F.history left (after r (Switch c.args.name.items))) c.in-Err.error c.fault_of.result c.fault_of.ensures
          (λ failed. inr ((c.switch.ensures.switches r may).failed (c.in-Err.is ∙ ap Err failed)));
      passes = switch_passes F.is_honest F.history now r h left c.args.name.items none refl
          (subst (λ n. Adds (HeadOnTheWay n old.tree) old new) c.deref-2.ensures.value ((c.switch.ensures.switches r may).moments));
      leaves = tt;
    }

pub returns-in-Ok-clause-moves : goal.returns-in-Ok-clause-moves
returns-in-Ok-clause-moves g c = λ r h none.
    let F = g.F.Files in
    let now = c.args.repository.now in
    let old = F.history now.names.store.files in
    let new = F.history c.switch.new.self.store.files in
    let left = record now { names = c.switch.new.self; branch = c.args.name } in
    let may = may_switch_so F.is_honest F.history now r h c.deref.result.now c.deref-2.result.now c.args.name.items c.deref.ensures.value c.deref-2.ensures.value none in
    record {
      ends = switch_serves F.is_honest F.history now r h left c.args.name.items none refl
          (c.switch.ensures.keeps.part.honest h.honest_names) c.switch.ensures.keeps.kind ((c.in-Ok.ensures.switches r may).records) refl refl
          (subst (λ n. NamesBranch n old.tree new.tree) c.deref-2.ensures.value ((c.in-Ok.ensures.switches r may).switched));
      passes = switch_passes F.is_honest F.history now r h left c.args.name.items none refl
          (subst (λ n. Adds (HeadOnTheWay n old.tree) old new) c.deref-2.ensures.value ((c.switch.ensures.switches r may).moments));
      leaves = head_alone c.deref-2.result.now old.tree new.tree ((c.in-Ok.ensures.switches r may).switched);
    }
