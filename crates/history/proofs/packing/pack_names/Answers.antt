use Rattle.std.proofs.Common.{◌≡◌, ◌⊎◌, inl, inr, ◌∙◌, refl, ap, Err}
use Rattle.history_layout.specs.PackSteps.{PacksNames}
use Rattle.history.proofs.MoveFaults.{met_fault}
use Rattle.history.proofs.PackLemmas.{may_pack}
use Rattle.history_repository.specs.Faults.{file_fault}
use Rattle.gix_ref_file.specs.declared.files.FileError.TheVariants.{Failed}
use Rattle.history_store.proofs.Honesty.{more_honesty}
use Rattle.history.proofs.packing.pack_names.Goals as goal

counted : {A B C : Type 0} → B ⊎ (C ⊎ C) → A ⊎ B ⊎ C
counted (inl risen) = inr (inl risen)
counted (inr (inl may)) = inr (inr may)
counted (inr (inr may)) = inr (inr may)

pub returns-in-Err-clause-alone : goal.returns-in-Err-clause-alone
returns-in-Err-clause-alone g c = record {
  kept = record { objects = refl; rows = refl; failed = refl };
  kind = c.pack_names.ensures.keeps.kind;
  names = more_honesty g.F.Files _ _ _ _ c.pack_names.ensures.keeps.part (λ told. let is : c.in-Err.error ≡ Failed = cc (told, c.in-Err.is) in ap Err (c.fault_of.ensures ∙ ap file_fault is));
}

pub returns-in-Ok-clause-alone : goal.returns-in-Ok-clause-alone
returns-in-Ok-clause-alone g c = record {
  kept = record { objects = refl; rows = refl; failed = refl };
  kind = c.pack_names.ensures.keeps.kind;
  names = more_honesty g.F.Files _ _ _ _ c.pack_names.ensures.keeps.part (λ told. absurd (cc (told, c.in-Ok.is)));
}

pub returns-in-Err-clause-packs : goal.returns-in-Err-clause-packs
returns-in-Err-clause-packs g c = λ r s are.
    let F = g.F.Files in
    let old = (F.history c.args.repository.now.names.store.files).tree in
    let new = (F.history c.pack_names.new.self.store.files).tree in
    let may = may_pack F.is_honest F.history c.args.repository.now r s c.args.packing.now c.deref.result.now c.deref.ensures.value are in
    record {
      ends = met_fault _ (PacksNames r old new) c.in-Err.error c.fault_of.result c.fault_of.ensures (λ failed. counted ((c.pack_names.ensures.packs r may).failed (c.in-Err.is ∙ ap Err failed)));
      passes = (c.pack_names.ensures.packs r may).moments;
    }

pub returns-in-Ok-clause-packs : goal.returns-in-Ok-clause-packs
returns-in-Ok-clause-packs g c = λ r s are.
    let may = may_pack g.F.Files.is_honest g.F.Files.history c.args.repository.now r s c.args.packing.now c.deref.result.now c.deref.ensures.value are in
    record { ends = (c.in-Ok.ensures.packs r may).packed; passes = (c.pack_names.ensures.packs r may).moments }

pub returns-in-Ok-clause-records : goal.returns-in-Ok-clause-records
returns-in-Ok-clause-records g c = λ r s are.
    c.in-Ok.ensures.records r (may_pack g.F.Files.is_honest g.F.Files.history c.args.repository.now r s c.args.packing.now c.deref.result.now c.deref.ensures.value are)
