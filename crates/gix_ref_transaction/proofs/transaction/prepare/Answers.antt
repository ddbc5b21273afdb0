use Rattle.std.proofs.Common.{inl, inr, ap, refl, subst, arith}
use Rattle.std.specs.Prelude.{Err}
use Rattle.std.proofs.lemmas.Result.{IfErr-weaker, err_from_is_err_and}
use Rattle.gix_ref_file.specs.History.{Adds}
use Rattle.gix_ref_file.proofs.Histories.{adds_nothing}
use Rattle.gix_ref_store.specs.RefStates.{RefState, packed_text_in, ref_state}
use Rattle.gix_ref_store.specs.Stores.{base_of}
use Rattle.gix_ref_way.specs.Ways.{Bytes}
use Rattle.gix_ref_transaction.specs.Causes.{IfUnresolved}
use Rattle.gix_ref_transaction.specs.Modes.{objects_in}
use Rattle.gix_ref_transaction.specs.Preparing.{FailsToPrepare, FoldersFor, GivenCause, IsPrepared, asked_in}
use Rattle.gix_ref_transaction.specs.Parts.{parts}
use Rattle.gix_ref_transaction.specs.Resolving.{PackCause}
use Rattle.gix_ref_transaction.proofs.Plannings.{given_reads, lent_keeps}
use Rattle.gix_ref_transaction.proofs.Stores.{ok_five, ok_given}
use Rattle.gix_ref_transaction.proofs.Readies.{open_counts, open_fault, open_no_records, open_resolves}
use Rattle.gix_ref_transaction.proofs.transaction.prepare.Goals as goal

-- ---- packed records aren't opened
pub returns-in_err-records-clause-keeps : goal.returns-in_err-records-clause-keeps
returns-in_err-records-clause-keeps g c =
    let history = g.F.Files.history c.args.store.now.files in
    record {
      honest = λ honest. honest;
      base = refl;
      options = refl;
      moments = λ honest. adds_nothing history;
      alike = λ honest. adds_nothing history;
      folders = λ honest. adds_nothing history;
      later = omega arith;
    }

pub returns-in_err-records-clause-failed : goal.returns-in_err-records-clause-failed
returns-in_err-records-clause-failed g c =
    let tree = (g.F.Files.history c.args.store.now.files).tree in
    let b = base_of c.args.store.now in
    let why = PackCause g.F.Files g.O.Lookup (objects_in c.args.packed_refs) in
    let error = c.in_err-records.field-0.0 in
    let p = err_from_is_err_and c.from_residual.result c.from_residual.ensures.1 in
    rw (p.1, p.2) (record {
      memory = λ quiet. refl;
      failed = λ honest. record {
        causes = inl (open_fault b tree g.F.Files.reading_may_fail error (c.in_err-records.ensures.kept honest) (λ is. c.in_err-records.ensures.failed (ap Err is)));
        counted = open_counts (g.F.Files.failures c.args.store.now.files) error;
        records = λ can of. absurd (open_no_records error of);
        rolled_back = inl (λ path there. there);
      };
      resolves = λ honest told. open_resolves (ref_state b tree) why c.args.edits.items error;
    })

-- ---- they are: names read with them as they do in the store
pub returns-clause-keeps : goal.returns-clause-keeps
returns-clause-keeps g c =
    let history = g.F.Files.history in
    let kept = c.prepare_with.ensures.keeps in
    record {
      honest = kept.honest;
      base = kept.base;
      options = kept.options;
      moments = kept.moments;
      alike = kept.alike;
      folders = λ honest.
          let tree = (history c.args.store.now.files).tree in
          let b = base_of c.args.store.now in
          let reads = given_reads b tree c.in_ok-records.records c.as_ref.result c.as_ref.ensures.value (c.in_ok-records.ensures.kept honest) in
          subst (λ (read : Bytes → RefState). Adds (FoldersFor (asked_in c.args.store.now tree read c.args.committer c.args.edits.items) tree) (history c.args.store.now.files) (history c.prepare_with.new.store.files)) (λ i name. reads name i) (kept.folders honest);
      later = kept.later;
    }

pub returns-clause-prepared : goal.returns-clause-prepared
returns-clause-prepared g c =
    let history = g.F.Files.history in
    let tree = (history c.args.store.now.files).tree in
    let b = base_of c.args.store.now in
    let r = c.prepare_with.result in
    let does = c.prepare_with.ensures in
    ok_five r (λ t unfailed ready planned prepared packed. record {
      unfailed = unfailed;
      ready = ready;
      planned = planned;
      prepared = λ honest.
          let reads = given_reads b tree c.in_ok-records.records c.as_ref.result c.as_ref.ensures.value (c.in_ok-records.ensures.kept honest) in
          subst (λ (read : Bytes → RefState). IsPrepared (asked_in c.args.store.now tree read c.args.committer c.args.edits.items) (history c.prepare_with.new.store.files).tree (parts t)) (λ i name. reads name i) (prepared honest);
      packed = λ honest told. packed honest told (lent_keeps b.kind (packed_text_in b tree) c.in_ok-records.records c.as_ref.result c.as_ref.ensures.value (c.in_ok-records.ensures.kept honest));
    })
    does.unfailed does.ready does.planned (ok_given _ r does.prepared) does.packed

pub returns-clause-failed : goal.returns-clause-failed
returns-clause-failed g c =
    let history = g.F.Files.history in
    let f = g.F.Files.failures in
    let tree = (history c.args.store.now.files).tree in
    let b = base_of c.args.store.now in
    let why = PackCause g.F.Files g.O.Lookup (objects_in c.args.packed_refs) in
    IfErr-weaker c.prepare_with.result _ _ (λ error left. record {
      memory = left.memory;
      failed = λ honest.
          let reads = given_reads b tree c.in_ok-records.records c.as_ref.result c.as_ref.ensures.value (c.in_ok-records.ensures.kept honest) in
          let same = subst (λ (read : Bytes → RefState). FailsToPrepare GivenCause (asked_in c.args.store.now tree read c.args.committer c.args.edits.items) (f c.args.store.now.files) (f c.prepare_with.new.store.files) g.F.Files.reading_may_fail (history c.prepare_with.new.store.files).tree error)
          (λ i name. reads name i) (left.failed honest) in
          record { causes = inr same.causes; counted = same.counted; records = same.records; rolled_back = same.rolled_back };
      resolves = λ honest told.
          let reads = given_reads b tree c.in_ok-records.records c.as_ref.result c.as_ref.ensures.value (c.in_ok-records.ensures.kept honest) in
          subst (λ (read : Bytes → RefState). IfUnresolved read why c.args.edits.items error) (λ i name. reads name i) (left.resolves honest told);
    })
    c.prepare_with.ensures.failed
