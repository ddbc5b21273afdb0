use Rattle.std.proofs.Common.{◌≡◌, ◌⊎◌, inl, inr, ◌∙◌, refl, ap, Err}
use Rattle.history_model.specs.Meaning.{after}
use Rattle.history_store.specs.Changing.{HoldNamesOf}
use Rattle.history.proofs.MoveFaults.{met_fault}
use Rattle.history.proofs.NamesChanged.{edits_passed, may_change, names_changed}
use Rattle.history_repository.specs.Faults.{file_fault}
use Rattle.gix_ref_file.specs.declared.files.FileError.TheVariants.{Failed}
use Rattle.history_store.proofs.Honesty.{more_honesty}
use Rattle.history.proofs.moves.change_names.Goals as goal

counted : {A B C : Type 0} → B ⊎ C → A ⊎ B ⊎ C
counted (inl risen) = inr (inl risen)
counted (inr may) = inr (inr may)

pub returns-in-Err-clause-alone : goal.returns-in-Err-clause-alone
returns-in-Err-clause-alone g c = record {
  kept = record { objects = refl; rows = refl; failed = refl };
  kind = c.change.ensures.keeps.kind;
  names = more_honesty g.F.Files _ _ _ _ c.change.ensures.keeps.part (λ told. let is : c.in-Err.error ≡ Failed = cc (told, c.in-Err.is) in ap Err (c.fault_of.ensures ∙ ap file_fault is));
}

pub returns-in-Ok-clause-alone : goal.returns-in-Ok-clause-alone
returns-in-Ok-clause-alone g c = record {
  kept = record { objects = refl; rows = refl; failed = refl };
  kind = c.change.ensures.keeps.kind;
  names = more_honesty g.F.Files _ _ _ _ c.change.ensures.keeps.part (λ told. absurd (cc (told, c.in-Ok.is)));
}

pub returns-in-Err-clause-edits : goal.returns-in-Err-clause-edits
returns-in-Err-clause-edits g c = λ r sent asked.
    let F = g.F.Files in
    let now = c.args.repository.now in
    let may = may_change F.is_honest F.history now r sent c.args.moved.now c.args.taken asked in
    record {
      ends = met_fault _ (HoldNamesOf F.is_honest F.history c.change.new.self (after r sent)) c.in-Err.error c.fault_of.result c.fault_of.ensures
          (λ failed. counted ((c.change.ensures.changes r may).failed (c.in-Err.is ∙ ap Err failed)));
      passes = edits_passed F.is_honest F.history now r sent c.args.moved.now c.args.taken asked (F.history c.change.new.self.store.files) ((c.change.ensures.changes r may).moments);
      made = tt;
    }

pub returns-in-Ok-clause-edits : goal.returns-in-Ok-clause-edits
returns-in-Ok-clause-edits g c = λ r sent asked.
    let F = g.F.Files in
    let now = c.args.repository.now in
    let may = may_change F.is_honest F.history now r sent c.args.moved.now c.args.taken asked in
    record {
      ends = names_changed F.is_honest F.history now r sent c.args.moved.now c.args.taken asked c.change.new.self
          (c.change.ensures.keeps.part.honest may.whole.honest) c.change.ensures.keeps.kind ((c.in-Ok.ensures.changes r may).changed) ((c.in-Ok.ensures.changes r may).records);
      passes = edits_passed F.is_honest F.history now r sent c.args.moved.now c.args.taken asked (F.history c.change.new.self.store.files) ((c.change.ensures.changes r may).moments);
      made = (c.in-Ok.ensures.changes r may).changed;
    }
