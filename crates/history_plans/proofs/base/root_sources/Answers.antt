use Rattle.std.proofs.Common.{◌∙◌, List, None, Option, ap, map, option_map, subst, sym}
use Rattle.std.specs.List.{AllByRecursion}
use Rattle.std.proofs.lemmas.List.{take_all}
use Rattle.history_plans.specs.Bases.{IsHeldSource, IsRootedSource}
use Rattle.history_repository.specs.Meant.{peeled_id}
use Rattle.history_repository.specs.declared.stored.PeeledCommit.{PeeledCommit}
use Rattle.history_repository.proofs.ReadingFaults.{fault_told}
use Rattle.history_plans.proofs.BaseLemmas.{all_at, all_more, mapped_added}
use Rattle.history_plans.proofs.base.root_sources.Goals as goal

pub loop-source-init : goal.loop-source-init
loop-source-init g c = λ r h held known.
    ((ap (map (option_map peeled_id)) c.new-roots.ensures.items, subst (λ (roots : List (Option PeeledCommit)). AllByRecursion (IsRootedSource r) roots) (sym c.new-roots.ensures.items) tt), known)

pub loop-source-preserved : goal.loop-source-preserved
loop-source-preserved g c = λ r h held known.
    let so_far = c.loop-source.invariant r h held known in
    let own = all_at (IsHeldSource r) c.args.sources.now c.loop-source.source-index None c.loop-source-test.true held in
    let read = c.in_ok-root_source.ensures r h own so_far.1 in (
      (
        mapped_added (option_map peeled_id) (option_map peeled_id) c.args.sources.now c.loop-source.source-index None c.in_ok-root_source.field-0 c.loop-source.roots.items c.push.new.self.items c.loop-source-test.true
            read.0.0 so_far.0.0 c.in_ok-push.ensures.items,
        all_more (IsRootedSource r) c.loop-source.roots.items c.push.new.self.items c.in_ok-root_source.field-0 so_far.0.1 read.0.1 c.in_ok-push.ensures.items,
      ),
      read.1,
    )

pub returns-in_err-root_source : goal.returns-in_err-root_source
returns-in_err-root_source g c = λ r h held known.
    let own = all_at (IsHeldSource r) c.args.sources.now c.loop-source.source-index None c.loop-source-test.true held in
    fault_told g.F.Files.reading_may_fail _ c.from_residual.result _ c.from_residual.ensures.1 (c.in_err-root_source.ensures r h own (c.loop-source.invariant r h held known).1)

pub returns : goal.returns
returns g c = λ r h held known.
    let so_far = c.loop-source.invariant r h held known in
    ((so_far.0.0 ∙ ap (map (option_map peeled_id)) (take_all c.loop-source.source-index c.args.sources.now c.loop-source-test.false), so_far.0.1), so_far.1)
