use Rattle.std.proofs.Common.{◌≡◌, ◌∙◌, sym, ap, subst, refl, inl, ℕ, List, ◌∷◌, length, arith}
use Rattle.std.specs.Prelude.{reverse}
use Rattle.std.proofs.lemmas.List.{nil_from_length, length-reverse}
use Rattle.std.proofs.lemmas.Result.{err_from_is_err_and}
use Rattle.gix_hash.specs.Id.{id_of}
use Rattle.gix_traverse_tree.specs.Opened.{ShowsNext, HasNoNext, IsAtEnd, IsResumed, ids_of}
use Rattle.gix_traverse_tree.specs.Trees.{failed, TreeFault}
use Rattle.gix_traverse_tree.specs.declared.depthfirst.Open.{Open}
use Rattle.gix_traverse_tree.proofs.Called.{memory_or}
use Rattle.gix_traverse_tree.proofs.Opening.{reverse_push, go_left, go_past, go_below, end_nothing, end_ended, stop_next, stop_below}
use Rattle.gix_traverse_tree.proofs.depthfirst.take_step.Goals as goal

pub returns-in_default-clause-more : goal.returns-in_default-clause-more
returns-in_default-clause-more g c =
    let items = c.args.trees.now.items in
    let none : length items ≡ 0 = let h = c.in_default.ensures.cases.0 in let k = c.args.trees.now.ok in omega arith in
    end_nothing g.V.Visit.goes (g.F.Lookup.is_honest c.args.objects.now) (g.F.Lookup.may_fail c.args.objects.now) (g.F.Lookup.table c.args.objects.now) (g.F.Lookup.ids c.args.objects.now) (reverse items) c.args.delegate.now (ap reverse (nil_from_length items none))

pub returns-in_err-show_next-clause-stopped : goal.returns-in_err-show_next-clause-stopped
returns-in_err-show_next-clause-stopped g c =
    let items = c.args.trees.now.items in
    let tree = c.in-Some.tree in
    let rest = c.pop.new.self.items in
    let e : reverse items ≡ tree ∷ reverse rest = ap reverse c.in-Some.ensures.items ∙ reverse_push rest tree in
    let H = g.F.Lookup.is_honest c.args.objects.now in
    let M = g.F.Lookup.may_fail c.args.objects.now in
    let table = g.F.Lookup.table c.args.objects.now in
    let p = err_from_is_err_and c.from_residual.result c.from_residual.ensures.1 in
    rw (p.1, p.2) (memory_or (HasNoNext c.args.delegate.now tree c.show_next.new.delegate) (λ error. IsAtEnd g.V.Visit.goes H M table c.args.delegate.now (reverse items) c.show_next.new.delegate (λ end. end ≡ failed error)) c.in_err-show_next.field-0.0
    (λ error h. stop_next g.V.Visit.goes H M table (g.F.Lookup.ids c.args.objects.now) tree (reverse rest) (reverse items) c.args.delegate.now c.show_next.new.delegate error e h)
    c.in_err-show_next.ensures.refused)

pub returns-in_err-resume-in-Left-clause-stopped : goal.returns-in_err-resume-in-Left-clause-stopped
returns-in_err-resume-in-Left-clause-stopped g c =
    let p = err_from_is_err_and c.from_residual-in_err-resume-in-Left.result c.from_residual-in_err-resume-in-Left.ensures.1 in
    rw (p.1, p.2) (inl refl)

pub returns-in_err-push-in-Past-clause-stopped : goal.returns-in_err-push-in-Past-clause-stopped
returns-in_err-push-in-Past-clause-stopped g c =
    let p = err_from_is_err_and c.from_residual-in_err-push-in-Past.result c.from_residual-in_err-push-in-Past.ensures.1 in
    rw (p.1, p.2) (inl refl)

pub returns-in_err-push-in-Below-clause-stopped : goal.returns-in_err-push-in-Below-clause-stopped
returns-in_err-push-in-Below-clause-stopped g c =
    let p = err_from_is_err_and c.from_residual-in_err-push-in-Below.result c.from_residual-in_err-push-in-Below.ensures.1 in
    rw (p.1, p.2) (inl refl)

pub returns-in_err-enter-in-Below-clause-stopped : goal.returns-in_err-enter-in-Below-clause-stopped
returns-in_err-enter-in-Below-clause-stopped g c =
    let items = c.args.trees.now.items in
    let tree = c.in-Some.tree in
    let after = c.show_next.new.tree in
    let rest = c.pop.new.self.items in
    let e : reverse items ≡ tree ∷ reverse rest = ap reverse c.in-Some.ensures.items ∙ reverse_push rest tree in
    let middle = c.push-in-Below.new.self.items in
    let m : reverse middle ≡ after ∷ reverse rest = ap reverse c.in_ok-push-in-Below.ensures.items ∙ reverse_push rest after in
    let shows = subst (λ s. ShowsNext g.V.Visit.goes c.args.delegate.now tree c.show_next.new.delegate after s) c.in-Below.is c.in_ok-show_next.ensures.shown in
    let H = g.F.Lookup.is_honest c.args.objects.now in
    let M = g.F.Lookup.may_fail c.args.objects.now in
    let table = g.F.Lookup.table c.args.objects.now in
    let p = err_from_is_err_and c.from_residual-in_err-enter-in-Below.result c.from_residual-in_err-enter-in-Below.ensures.1 in
    rw (p.1, p.2) (memory_or (λ error. TreeFault H M table (ids_of (reverse middle)) (id_of c.in-Below.id) error × (c.enter.new.delegate ≡ c.show_next.new.delegate)) (λ error. IsAtEnd g.V.Visit.goes H M table c.args.delegate.now (reverse items) c.enter.new.delegate (λ end. end ≡ failed error)) c.in_err-enter-in-Below.field-0.0
    (λ error h. stop_below g.V.Visit.goes H M table (g.F.Lookup.ids c.args.objects.now) tree after (reverse rest) (reverse items) (reverse middle) c.in-Below.id c.args.delegate.now c.show_next.new.delegate c.enter.new.delegate error e m c.in_ok-show_next.ensures.kept shows h)
    c.in_err-enter-in-Below.ensures.refused)

pub returns-in_ok-resume-in-Left-clause-more : goal.returns-in_ok-resume-in-Left-clause-more
returns-in_ok-resume-in-Left-clause-more g c =
    let items = c.args.trees.now.items in
    let tree = c.in-Some.tree in
    let rest = c.pop.new.self.items in
    let e : reverse items ≡ tree ∷ reverse rest = ap reverse c.in-Some.ensures.items ∙ reverse_push rest tree in
    let shows = subst (λ s. ShowsNext g.V.Visit.goes c.args.delegate.now tree c.show_next.new.delegate c.show_next.new.tree s) c.in-Left.is c.in_ok-show_next.ensures.shown in
    let count : length c.as_slice.result.now ≡ length (reverse rest) = ap (λ (ts : List Open). length ts) c.as_slice.ensures.value ∙ sym (length-reverse rest) in
    let resumed = subst (λ (k : ℕ). IsResumed g.V.Visit.goes c.show_next.new.delegate k c.resume.new.delegate) count c.in_ok-resume-in-Left.ensures in
    let resumed2 = subst (λ s. IsResumed g.V.Visit.goes s (length (reverse rest)) c.resume.new.delegate) shows.1 resumed in
    go_left g.V.Visit.goes (g.F.Lookup.is_honest c.args.objects.now) (g.F.Lookup.may_fail c.args.objects.now) (g.F.Lookup.table c.args.objects.now) (g.F.Lookup.ids c.args.objects.now) tree (reverse rest) (reverse items) c.args.delegate.now c.resume.new.delegate e shows.0 resumed2

pub returns-in_ok-push-in-Past-clause-more : goal.returns-in_ok-push-in-Past-clause-more
returns-in_ok-push-in-Past-clause-more g c =
    let items = c.args.trees.now.items in
    let tree = c.in-Some.tree in
    let after = c.show_next.new.tree in
    let rest = c.pop.new.self.items in
    let e : reverse items ≡ tree ∷ reverse rest = ap reverse c.in-Some.ensures.items ∙ reverse_push rest tree in
    let f : reverse c.push.new.self.items ≡ after ∷ reverse rest = ap reverse c.in_ok-push-in-Past.ensures.items ∙ reverse_push rest after in
    let shows = subst (λ s. ShowsNext g.V.Visit.goes c.args.delegate.now tree c.show_next.new.delegate after s) c.in-Past.is c.in_ok-show_next.ensures.shown in
    go_past g.V.Visit.goes (g.F.Lookup.is_honest c.args.objects.now) (g.F.Lookup.may_fail c.args.objects.now) (g.F.Lookup.table c.args.objects.now) (g.F.Lookup.ids c.args.objects.now) tree after (reverse rest) (reverse items) (reverse c.push.new.self.items) c.args.delegate.now c.show_next.new.delegate e f c.in_ok-show_next.ensures.kept shows

pub returns-in_ok-enter-in-Below-clause-more : goal.returns-in_ok-enter-in-Below-clause-more
returns-in_ok-enter-in-Below-clause-more g c =
    let items = c.args.trees.now.items in
    let tree = c.in-Some.tree in
    let after = c.show_next.new.tree in
    let rest = c.pop.new.self.items in
    let e : reverse items ≡ tree ∷ reverse rest = ap reverse c.in-Some.ensures.items ∙ reverse_push rest tree in
    let middle = c.push-in-Below.new.self.items in
    let m : reverse middle ≡ after ∷ reverse rest = ap reverse c.in_ok-push-in-Below.ensures.items ∙ reverse_push rest after in
    let shows = subst (λ s. ShowsNext g.V.Visit.goes c.args.delegate.now tree c.show_next.new.delegate after s) c.in-Below.is c.in_ok-show_next.ensures.shown in
    go_below g.V.Visit.goes (g.F.Lookup.is_honest c.args.objects.now) (g.F.Lookup.may_fail c.args.objects.now) (g.F.Lookup.table c.args.objects.now) (g.F.Lookup.ids c.args.objects.now) tree after (reverse rest) (reverse items) (reverse middle) (reverse c.enter.new.trees.items) c.in-Below.id c.args.delegate.now c.show_next.new.delegate c.enter.new.delegate e m c.in_ok-show_next.ensures.kept shows c.in_ok-enter-in-Below.ensures.opened

pub returns-in-Ended-clause-more : goal.returns-in-Ended-clause-more
returns-in-Ended-clause-more g c =
    let items = c.args.trees.now.items in
    let tree = c.in-Some.tree in
    let after = c.show_next.new.tree in
    let rest = c.pop.new.self.items in
    let e : reverse items ≡ tree ∷ reverse rest = ap reverse c.in-Some.ensures.items ∙ reverse_push rest tree in
    let shows = subst (λ s. ShowsNext g.V.Visit.goes c.args.delegate.now tree c.show_next.new.delegate after s) c.in-Ended.is c.in_ok-show_next.ensures.shown in
    end_ended g.V.Visit.goes (g.F.Lookup.is_honest c.args.objects.now) (g.F.Lookup.may_fail c.args.objects.now) (g.F.Lookup.table c.args.objects.now) (g.F.Lookup.ids c.args.objects.now) tree after (reverse rest) (reverse items) c.args.delegate.now c.show_next.new.delegate e shows
