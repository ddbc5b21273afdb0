use Rattle.std.proofs.Common.{◌≡◌, ◌+◌, ◌∙◌, sym, ap, subst, List, [], ◌∷◌, ◌++◌, map, take, get_or, Bool, true, false, cond, pos, append-nil}
use Rattle.std.specs.List.{list_any}
use Rattle.std.specs.Ordering.{eq_by_cmp}
use Rattle.std.specs.Prelude.{filter}
use Rattle.std.proofs.lemmas.Option.{slice_get-get_or}
use Rattle.gix_traverse_commit_known.specs.declared.nodes.Number.{Number}
use Rattle.gix_traverse_graph.specs.Order.{At}
use Rattle.gix_traverse_commit_known.specs.Waiting.{pending_cmp, pendings}
use Rattle.gix_traverse_commit_known.specs.declared.waiting.Pending.{Pending}
use Rattle.gix_traverse_commit_known.proofs.Chosen.{take_all}
use Rattle.gix_traverse_commit_known.proofs.Pending.{pass_push}
use Rattle.gix_traverse_commit_known.proofs.Simply.{take_push}
use Rattle.gix_traverse_commit_known.proofs.WaitingLemmas.{waits_in}
use Rattle.gix_traverse_commit_known.proofs.waiting.Waiting.take_all.Goals as goal
use Rattle.gix_traverse_commit_known.proofs.waiting.Waiting.take_all.Goals.{then-contains_key+in_ok-push, else-contains_key}

abbrev none : Number
none = record { 0 = 0 }

pub order-preserved : goal.order-preserved
order-preserved c =
    let i = c.order.pending-index in
    let items : List Pending = c.args.self.now.order.items in
    let p : Pending → Bool = λ (t : Pending). list_any (eq_by_cmp pending_cmp t) (pendings c.args.self.now) in
    let f : Pending → Number = λ (t : Pending). t.number in
    let lent : List Pending = c.deref-pending-items.result.now in
    let pending : Pending = get_or lent i (record { time = pos 0; number = none }) in
    let here : At items i pending = subst (λ (ts : List Pending). At ts i pending) c.deref-pending-items.ensures.value (slice_get-get_or lent i (record { time = pos 0; number = none }) c.order-test.true) in
    let step : map f (filter p (take (i + 1) items)) ≡ map f (filter p (take i items)) ++ cond (p pending) (pending.number ∷ []) [] = ap (λ (ts : List Pending). map f (filter p ts)) (take_push items i pending here) ∙ pass_push f p (take i items) pending in
    let told : (b : Bool) → c.contains_key.result ≡ b → map f (filter p (take (i + 1) items)) ≡ map f (filter p (take i items)) ++ cond b (pending.number ∷ []) [] = λ b e. step ∙ ap (λ (b : Bool). map f (filter p (take i items)) ++ cond b (pending.number ∷ []) []) (sym (waits_in c.args.self.now pending) ∙ sym c.contains_key.ensures ∙ e) in
    elim c.if-contains_key.branch [
      | then-contains_key+in_ok-push w ↦ ap (λ v. v.items) w.numbers-is ∙ w.in_ok-push.ensures.items ∙ ap (λ (zs : List Number). zs ++ pending.number ∷ []) c.order.invariant ∙ sym (told true w.if-contains_key.true)
      | else-contains_key w ↦ ap (λ v. v.items) w.numbers-is ∙ c.order.invariant ∙ sym (told false w.if-contains_key.false ∙ append-nil (map f (filter p (take i items))))
    ]

pub returns-clause-queued : goal.returns-clause-queued
returns-clause-queued c = c.order.invariant ∙ ap (λ (ts : List Pending). map (λ (t : Pending). t.number) (filter (λ (t : Pending). list_any (eq_by_cmp pending_cmp t) (pendings c.args.self.now)) ts))
    (ap (take c.order.pending-index) (sym c.deref-pending-items.ensures.value) ∙ take_all c.deref-pending-items.result.now c.order.pending-index c.order-test.false ∙ c.deref-pending-items.ensures.value)
