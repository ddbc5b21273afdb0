use Rattle.std.proofs.Common.{[], ◌∙◌, ap, sym, filter, map, subst, Option}
use Rattle.std.specs.Prelude.{IfSome}
use Rattle.std.proofs.lemmas.List.{take_all}
use Rattle.gix_hash.specs.Id.{id_of}
use Rattle.gix_hash.specs.declared.object_id.ObjectId.TheVariants.{Sha1}
use Rattle.history_files.specs.Laws.{table_of}
use Rattle.history_model.specs.Answers.{differs_at}
use Rattle.history_repository.proofs.ReadingFaults.{fault_told}
use Rattle.history_queries.specs.Seen.{IsSeen}
use Rattle.history_queries.specs.declared.differing.Seen.{Seen}
use Rattle.history_queries.proofs.DifferingLemmas.{among, id_dropped, id_kept}
use Rattle.history_queries.proofs.differing.differing.Goals.{then-differs+in_ok-push, else-differs}
use Rattle.history_queries.proofs.differing.differing.Goals as goal

pub loop-id-init : goal.loop-id-init
loop-id-init g c = λ r s read hold. (ap (map id_of) c.new-differing.ensures.items, tt, c.in_ok-trees.ensures (table_of r))

pub returns-in_err-here : goal.returns-in_err-here
returns-in_err-here g c = λ r s read hold.
    let holds = hold _ (among c.args.ids.now c.loop-id.id-index (Sha1 []) c.loop-id-test.true) in
    let last = subst (λ (o : Option Seen). IfSome o (IsSeen r c.args.paths.now)) (sym c.take.ensures.value) (c.loop-id.invariant r s read hold).1 in
    fault_told g.F.Files.reading_may_fail _ c.from_residual-in_err-here.result _ c.from_residual-in_err-here.ensures.1 (c.in_err-here.ensures r c.args.paths.now s read holds last (c.loop-id.invariant r s read hold).2)

pub returns-in_err-differs : goal.returns-in_err-differs
returns-in_err-differs g c = λ r s read hold.
    let holds = hold _ (among c.args.ids.now c.loop-id.id-index (Sha1 []) c.loop-id-test.true) in
    let last = subst (λ (o : Option Seen). IfSome o (IsSeen r c.args.paths.now)) (sym c.take.ensures.value) (c.loop-id.invariant r s read hold).1 in
    let here = c.in_ok-here.ensures r c.args.paths.now s read holds last (c.loop-id.invariant r s read hold).2 in
    fault_told g.F.Files.reading_may_fail _ c.from_residual-in_err-differs.result _ c.from_residual-in_err-differs.ensures.1 (c.in_err-differs.ensures r s read here.0.1 here.1)

pub loop-id-preserved : goal.loop-id-preserved
loop-id-preserved g c = λ r s read hold.
    let ids = c.args.ids.now in
    let i = c.loop-id.id-index in
    let test = differs_at r (map (λ path. path.now) c.args.paths.now) in
    let holds = hold _ (among ids i (Sha1 []) c.loop-id-test.true) in
    let so_far = c.loop-id.invariant r s read hold in
    let here = c.in_ok-here.ensures r c.args.paths.now s read holds (subst (λ (o : Option Seen). IfSome o (IsSeen r c.args.paths.now)) (sym c.take.ensures.value) so_far.1) so_far.2 in
    let compared = c.in_ok-differs.ensures r s read here.0.1 here.1 in
    let differs = compared.0.differs ∙ ap test here.0.0 in (
      elim c.if-differs.branch [
        | then-differs+in_ok-push w ↦
            id_kept test ids i (Sha1 []) c.loop-id-test.true c.loop-id.differing.items c.if-differs.differing.items (sym differs ∙ w.if-differs.true) (ap (λ v. v.items) w.differing-is ∙ w.in_ok-push.ensures.items) so_far.0
        | else-differs w ↦
            id_dropped test ids i (Sha1 []) c.loop-id-test.true c.if-differs.differing.items (sym differs ∙ w.if-differs.false) (ap (λ v. map id_of v.items) w.differing-is ∙ so_far.0)
      ],
      compared.0.before,
      compared.1,
    )

pub returns : goal.returns
returns g c = λ r s read hold.
    (c.loop-id.invariant r s read hold).0 ∙ ap (λ some. filter (differs_at r (map (λ path. path.now) c.args.paths.now)) (map id_of some)) (take_all c.loop-id.id-index c.args.ids.now c.loop-id-test.false)
