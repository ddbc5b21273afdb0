use Rattle.std.proofs.Common.{◌≡◌, sym, ap, subst, Bool, List}
use Rattle.std.specs.Prelude.{reverse}
use Rattle.std.proofs.lemmas.Result.{err_from_is_err_and}
use Rattle.gix_hash.specs.Id.{id_of}
use Rattle.gix_traverse_tree.specs.Opened.{IsAtEnd, IsGood, WalksIn, WhereTrue, ids_of}
use Rattle.gix_traverse_tree.specs.Trees.{failed, TreeFault}
use Rattle.gix_traverse_tree.specs.declared.depthfirst.Open.{Open}
use Rattle.gix_traverse_tree.proofs.Called.{memory_or}
use Rattle.gix_traverse_tree.proofs.Walking.{Walking, walking_start, walking_end, walking_unfound, walking_next, walking_less}
use Rattle.gix_traverse_tree.proofs.depthfirst.walk.Goals as goal

pub returns-in_err-enter-clause-stopped : goal.returns-in_err-enter-clause-stopped
returns-in_err-enter-clause-stopped g c =
    let H = g.F.Lookup.is_honest c.args.objects.now in
    let M = g.F.Lookup.may_fail c.args.objects.now in
    let table = g.F.Lookup.table c.args.objects.now in
    let root = id_of c.args.root in
    let p = err_from_is_err_and c.from_residual.result c.from_residual.ensures.1 in
    rw (p.1, p.2) (memory_or (λ error. TreeFault H M table (ids_of (reverse c.new-trees.result.items)) root error × (c.enter.new.delegate ≡ c.args.delegate.now)) (λ error. WalksIn g.V.Visit.goes H M table root c.args.delegate.now c.enter.new.delegate (λ end. end ≡ failed error)) c.in_err-enter.field-0.0
    (λ error h.
    let fault = subst (λ (ts : List Open). TreeFault H M table (ids_of (reverse ts)) root error) c.new-trees.ensures.items h.0 in
    subst (λ s. WalksIn g.V.Visit.goes H M table root c.args.delegate.now s (λ end. end ≡ failed error)) (sym h.1) (walking_unfound g.V.Visit.goes H M table (g.F.Lookup.ids c.args.objects.now) root c.args.delegate.now error fault))
    c.in_err-enter.ensures.refused)

pub steps-init : goal.steps-init
steps-init g c =
    walking_start g.V.Visit.goes (g.F.Lookup.is_honest c.args.objects.now) (g.F.Lookup.may_fail c.args.objects.now) (g.F.Lookup.table c.args.objects.now) (g.F.Lookup.ids c.args.objects.now) (id_of c.args.root) c.args.delegate.now c.enter.new.delegate (reverse c.new-trees.result.items) (reverse c.enter.new.trees.items) (ap reverse c.new-trees.ensures.items) c.in_ok-enter.ensures.opened

pub returns-in_err-more-clause-stopped : goal.returns-in_err-more-clause-stopped
returns-in_err-more-clause-stopped g c =
    let H = g.F.Lookup.is_honest c.args.objects.now in
    let M = g.F.Lookup.may_fail c.args.objects.now in
    let table = g.F.Lookup.table c.args.objects.now in
    let ids = g.F.Lookup.ids c.args.objects.now in
    let root = id_of c.args.root in
    let trees = reverse c.steps.trees.items in
    let so = subst (λ (b : Bool). WhereTrue b (Walking g.V.Visit.goes H M table ids root c.args.delegate.now c.steps.delegate trees) (WalksIn g.V.Visit.goes H M table root c.args.delegate.now c.steps.delegate IsGood)) c.steps-test.true c.steps.invariant in
    let p = err_from_is_err_and c.from_residual-in_err-more.result c.from_residual-in_err-more.ensures.1 in
    rw (p.1, p.2) (memory_or (λ error. IsAtEnd g.V.Visit.goes H M table c.steps.delegate trees c.take_step.new.delegate (λ end. end ≡ failed error)) (λ error. WalksIn g.V.Visit.goes H M table root c.args.delegate.now c.take_step.new.delegate (λ end. end ≡ failed error)) c.in_err-more.field-0.0
    (λ error h. walking_end g.V.Visit.goes H M table ids root c.args.delegate.now c.steps.delegate c.take_step.new.delegate trees (λ end. end ≡ failed error) so h)
    c.in_err-more.ensures.stopped)

pub steps-smaller : goal.steps-smaller
steps-smaller g c =
    walking_less g.V.Visit.goes (g.F.Lookup.is_honest c.args.objects.now) (g.F.Lookup.may_fail c.args.objects.now) (g.F.Lookup.table c.args.objects.now) (g.F.Lookup.ids c.args.objects.now) (id_of c.args.root) c.args.delegate.now c.steps.delegate c.take_step.new.delegate (reverse c.steps.trees.items) (reverse c.take_step.new.trees.items) c.steps.more c.in_ok-more.more c.steps-test.true c.steps.invariant c.in_ok-more.ensures.more

pub steps-preserved : goal.steps-preserved
steps-preserved g c =
    walking_next g.V.Visit.goes (g.F.Lookup.is_honest c.args.objects.now) (g.F.Lookup.may_fail c.args.objects.now) (g.F.Lookup.table c.args.objects.now) (g.F.Lookup.ids c.args.objects.now) (id_of c.args.root) c.args.delegate.now c.steps.delegate c.take_step.new.delegate (reverse c.steps.trees.items) (reverse c.take_step.new.trees.items) c.steps.more c.in_ok-more.more c.steps-test.true c.steps.invariant c.in_ok-more.ensures.more

pub returns-clause-whole : goal.returns-clause-whole
returns-clause-whole g c =
    let H = g.F.Lookup.is_honest c.args.objects.now in
    let M = g.F.Lookup.may_fail c.args.objects.now in
    let table = g.F.Lookup.table c.args.objects.now in
    let root = id_of c.args.root in
    subst (λ (b : Bool). WhereTrue b (Walking g.V.Visit.goes H M table (g.F.Lookup.ids c.args.objects.now) root c.args.delegate.now c.steps.delegate (reverse c.steps.trees.items)) (WalksIn g.V.Visit.goes H M table root c.args.delegate.now c.steps.delegate IsGood)) c.steps-test.false c.steps.invariant
