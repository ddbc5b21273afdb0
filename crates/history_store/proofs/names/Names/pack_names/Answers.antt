use Rattle.std.proofs.Common.{ap, inl, inr, length, List, refl, sym, subst, ◌∙◌, ◌==◌}
use Rattle.std.proofs.lemmas.Result.{err_from_is_err_and}
use Rattle.gix_ref_file.proofs.Histories.{adds_nothing}
use Rattle.gix_ref_edit.specs.declared.change.RefEdit.{RefEdit}
use Rattle.history_layout.specs.PackSteps.{HasPacked, PacksNames, PacksOnTheWay}
use Rattle.history_store.specs.Packed.{records_of}
use Rattle.history_store.proofs.ChangeSteps.{after_it, always_ok}
use Rattle.history_store.proofs.Honesty.{more_honesty, same_honesty, then_honesty}
use Rattle.history_store.proofs.NamesPacked.{asks_so, no_edits, packed_already, packed_readable}
use Rattle.history_store.proofs.names.Names.pack_names.Goals as goal

pub returns-in_err-edits-clause-keeps : goal.returns-in_err-edits-clause-keeps
returns-in_err-edits-clause-keeps g c = record { kind = refl; part = same_honesty g.F.Files _ _ _ refl }

pub returns-in_err-edits-clause-packs : goal.returns-in_err-edits-clause-packs
returns-in_err-edits-clause-packs g c = λ r may.
    let p = err_from_is_err_and c.from_residual.result c.from_residual.ensures.1 in
    record {
      moments = adds_nothing (g.F.Files.history c.args.self.now.store.files);
      packed = rw p.1 tt;
      failed = λ failed. inr (inl (c.in_err-edits.ensures.failed (cc (failed, p.1, p.2))));
    }

pub returns-then-is_empty-clause-packs : goal.returns-then-is_empty-clause-packs
returns-then-is_empty-clause-packs g c = λ r may.
    let F = g.F.Files in
    let asks = asks_so F.is_honest F.history _ _ c.args.self.now r c.args.names.now c.in_ok-edits.edits.items may c.in_ok-edits.ensures.asks in
    let none = ap (λ (es : List RefEdit). length es == 0) (sym c.as_slice.ensures.value) ∙ sym c.is_empty.ensures ∙ c.if-is_empty.true in
    record {
      moments = adds_nothing (F.history c.args.self.now.store.files);
      packed = packed_already r _ _ (records_of c.args.names.now) c.in_ok-edits.edits.items _ asks.asks asks.stored (no_edits c.in_ok-edits.edits.items none);
      failed = λ failed. cc;
    }

pub returns-then-is_empty-clause-keeps : goal.returns-then-is_empty-clause-keeps
returns-then-is_empty-clause-keeps g c = record { kind = refl; part = same_honesty g.F.Files _ _ _ refl }

pub returns-then-is_empty-clause-records : goal.returns-then-is_empty-clause-records
returns-then-is_empty-clause-records g c = λ r may. may.whole.records

pub returns-in_err-pack-clause-keeps : goal.returns-in_err-pack-clause-keeps
returns-in_err-pack-clause-keeps g c =
    let p = err_from_is_err_and c.from_residual-in_err-pack.result c.from_residual-in_err-pack.ensures.1 in
    record {
      kind = c.pack.ensures.keeps.kind;
      part = more_honesty g.F.Files _ _ _ _ c.pack.ensures.keeps.part (λ told. cc (told, c.in_err-pack.was, p.1, p.2));
    }

pub returns-in_err-pack-clause-packs : goal.returns-in_err-pack-clause-packs
returns-in_err-pack-clause-packs g c = λ r may.
    let F = g.F.Files in
    let asks = asks_so F.is_honest F.history _ _ c.args.self.now r c.args.names.now c.in_ok-edits.edits.items may c.in_ok-edits.ensures.asks in
    let made = c.pack.ensures.packs r (records_of c.args.names.now) asks in
    let p = err_from_is_err_and c.from_residual-in_err-pack.result c.from_residual-in_err-pack.ensures.1 in
    record {
      moments = made.moments;
      packed = rw p.1 tt;
      failed = λ failed. made.failed (cc (failed, c.in_err-pack.was, p.1, p.2));
    }

pub returns-clause-keeps : goal.returns-clause-keeps
returns-clause-keeps g c = record {
  kind = c.read_anew.ensures.kind ∙ c.pack.ensures.keeps.kind;
  part = then_honesty g.F.Files _ _ _ _ _ c.pack.ensures.keeps.part (same_honesty g.F.Files _ _ _ c.read_anew.ensures.files) (λ told. absurd (cc (told, c.in_ok-pack.was)));
}

pub returns-clause-packs : goal.returns-clause-packs
returns-clause-packs g c = λ r may.
    let F = g.F.Files in
    let old = c.args.self.now in
    let new = c.read_anew.new.self in
    let asks = asks_so F.is_honest F.history _ _ old r c.args.names.now c.in_ok-edits.edits.items may c.in_ok-edits.ensures.asks in
    let made = c.in_ok-pack.ensures.packs r (records_of c.args.names.now) asks in
    let honest = subst F.is_honest (sym c.read_anew.ensures.files) (c.pack.ensures.keeps.part.honest may.whole.honest) in
    let kind = c.read_anew.ensures.kind ∙ c.pack.ensures.keeps.kind ∙ may.whole.kind in
    record {
      moments = after_it F.history (PacksOnTheWay r (F.history old.store.files).tree) old.store.files c.pack.new.self.store.files new.store.files c.read_anew.ensures.files made.moments;
      packed = always_ok c.read_anew.result (subst (λ f. PacksNames r (F.history old.store.files).tree (F.history f).tree) (sym c.read_anew.ensures.files) made.packed);
      failed = λ failed. inr (inl (c.read_anew.ensures.failed honest
          (packed_readable r new.kind (F.history new.store.files).tree kind (subst (λ f. HasPacked r (F.history f).tree) (sym c.read_anew.ensures.files) made.packed.packed)) failed));
    }

pub returns-clause-records : goal.returns-clause-records
returns-clause-records g c = λ r may. c.read_anew.ensures.keeps (subst g.F.Files.is_honest (sym c.read_anew.ensures.files) (c.pack.ensures.keeps.part.honest may.whole.honest))
