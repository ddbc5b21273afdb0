use Rattle.std.proofs.Common.{inl, refl, sym, subst, Vec, arith}
use Rattle.std.proofs.lemmas.Result.{IfOk-weaker, err_from_is_err_and}
use Rattle.std.specs.declared.alloc.Global.{Global}
use Rattle.gix_ref_file.proofs.Histories.{adds_nothing, adds_weaker}
use Rattle.gix_ref_edit.specs.declared.change.RefEdit.{RefEdit}
use Rattle.gix_ref_store.specs.Stores.{base_of}
use Rattle.gix_ref_transaction.specs.Modes.{objects_in}
use Rattle.gix_ref_transaction.specs.Preparing.{AreReady, asked_with}
use Rattle.gix_ref_transaction.specs.Resolving.{PackCause}
use Rattle.gix_ref_transaction.proofs.Alikes.{reads_alike}
use Rattle.gix_ref_transaction.proofs.Stores.{err_part, err_quiet, ok_part, ok_quiet}
use Rattle.gix_ref_transaction.proofs.Readies.{err_three, ready_counts, ready_no_records, ready_resolves, split_resolves}
use Rattle.gix_ref_transaction.proofs.transaction.prepare_with.Goals as goal

pub locked-requires : goal.locked-requires
locked-requires g c = c.in_ok-ready.ensures.ready

-- ---- the edits aren't ready
pub returns-in_err-ready-clause-keeps : goal.returns-in_err-ready-clause-keeps
returns-in_err-ready-clause-keeps g c =
    let history = g.F.Files.history c.args.store.now.files in
    record {
      honest = λ honest. honest;
      base = refl;
      options = refl;
      moments = λ honest. adds_nothing history;
      alike = λ honest. adds_nothing history;
      folders = λ honest. adds_nothing history;
      later = omega arith;
    }

pub returns-in_err-ready-clause-failed : goal.returns-in_err-ready-clause-failed
returns-in_err-ready-clause-failed g c =
    let a = asked_with g.F.Files.history c.args.store.now c.args.packed c.args.committer c.args.edits.items in
    let may = g.F.Files.reading_may_fail in
    let error = c.in_err-ready.field-0.0 in
    let why = PackCause g.F.Files g.O.Lookup (objects_in c.args.packed_refs) in
    let p = err_from_is_err_and c.from_residual.result c.from_residual.ensures.1 in
    rw (p.1, p.2) (record {
      memory = λ quiet. refl;
      failed = λ honest.
          let cause = c.in_err-ready.ensures.failed honest in
          record {
            causes = inl cause;
            counted = ready_counts a.lines.read a.base a.composes a.tree may a.edits (g.F.Files.failures c.args.store.now.files) error cause;
            records = λ can of. absurd (ready_no_records a.lines.read a.base a.composes a.tree may a.edits error cause of);
            rolled_back = inl (λ path there. there);
          };
      resolves = λ honest told. ready_resolves a.lines.read a.base a.composes a.tree may a.edits why error (c.in_err-ready.ensures.failed honest);
    })

-- ---- they are
pub returns-clause-keeps : goal.returns-clause-keeps
returns-clause-keeps g c =
    let kept = c.locked.ensures.keeps in
    let old = g.F.Files.history c.args.store.now.files in
    let new = g.F.Files.history c.locked.new.store.files in
    record {
      honest = kept.honest;
      base = kept.base;
      options = kept.options;
      moments = c.locked.ensures.moments;
      alike = λ honest. adds_weaker old new (c.locked.ensures.moments honest) (reads_alike (base_of c.args.store.now) old.tree);
      folders = λ honest. adds_weaker old new (c.locked.ensures.folders honest) (λ x only. (c.ready.new.edits.items, c.in_ok-ready.ensures.split honest, only));
      later = kept.later;
    }

pub returns-clause-unfailed : goal.returns-clause-unfailed
returns-clause-unfailed g c = ok_quiet _ c.locked.result c.locked.ensures.keeps.quiet

pub returns-clause-ready : goal.returns-clause-ready
returns-clause-ready g c =
    IfOk-weaker c.locked.result _ _ (λ t is. subst (λ (v : Vec RefEdit Global). AreReady (base_of c.args.store.now) c.args.store.now.options.precompose_unicode v.items) (sym is) c.in_ok-ready.ensures.ready) c.locked.ensures.edits

pub returns-clause-prepared : goal.returns-clause-prepared
returns-clause-prepared g c = λ honest. ok_part _ _ c.locked.result (c.locked.ensures.locked c.args.edits.items honest (c.in_ok-ready.ensures.split honest))

pub returns-clause-failed : goal.returns-clause-failed
returns-clause-failed g c =
    let a = asked_with g.F.Files.history c.args.store.now c.args.packed c.args.committer c.args.edits.items in
    let why = PackCause g.F.Files g.O.Lookup (objects_in c.args.packed_refs) in
    err_three _ _ _ _ _ _ c.locked.result
    (λ error quiet failed resolves. record {
      memory = quiet;
      failed = failed;
      resolves = λ honest told. split_resolves a.lines.read a.base a.composes a.tree g.F.Files.reading_may_fail a.edits why c.ready.new.edits.items error (c.in_ok-ready.ensures.split honest) (resolves honest told);
    })
    (err_quiet _ c.locked.result c.locked.ensures.keeps.quiet) (λ honest. err_part _ _ c.locked.result (c.locked.ensures.locked c.args.edits.items honest (c.in_ok-ready.ensures.split honest))) c.locked.ensures.resolves
