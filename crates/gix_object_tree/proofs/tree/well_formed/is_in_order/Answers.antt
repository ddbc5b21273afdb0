use Rattle.std.proofs.Common.{◌≡◌, ◌∙◌, sym, subst, ◌+◌, ◌-◌, ◌<◌, length, map, get_or, take, refl, arith}
use Rattle.std.proofs.lemmas.Bool.{false≢true}
use Rattle.std.proofs.lemmas.List.{take_all}
use Rattle.gix_object_tree.specs.Entry.{item_of}
use Rattle.gix_object_tree.specs.WellFormed.{ComesBefore, IsInOrder}
use Rattle.gix_object_tree.proofs.Searched.{item_at, map_length}
use Rattle.gix_object_tree.proofs.Twins.{order_more, same_item}
use Rattle.gix_object_tree.proofs.tree.well_formed.is_in_order.Goals as goal

pub returns-then-not-comes_before : goal.returns-then-not-comes_before
returns-then-not-comes_before g c =
    let item = g.T.AsEntry.item in
    let entries = c.args.entries.now in
    let items = map item entries in
    let x = c.index-entries-at.result in
    let y = c.index-entries-at-in-loop-at.result in
    let at = c.loop-at.at in
    let from = c.loop-at.auto.at in
    let within : at < length entries = omega arith in
    let long = map_length item entries in
    let last = same_item items (at - 1) (item y) (item x) (omega arith) ∙ item_at item entries (at - 1) x (omega arith) c.index-entries-at.is ∙ sym c.as_entry.ensures in
    let one = item_at item entries at y within c.index-entries-at-in-loop-at.is ∙ sym c.as_entry-in-loop-at.ensures in (
      λ yes. absurd (false≢true yes),
      λ ordered. absurd (false≢true (sym c.if-not-comes_before.true ∙ c.comes_before.ensures.1
          (subst (λ a. ComesBefore a (item_of c.as_entry-in-loop-at.result)) last (subst (λ b. ComesBefore (get_or items (at - 1) (item y)) b) one (ordered (at - 1) at (item y) (omega arith) (omega arith)))))),
    )

pub loop-at-preserved : goal.loop-at-preserved
loop-at-preserved g c =
    let item = g.T.AsEntry.item in
    let entries = c.args.entries.now in
    let items = map item entries in
    let x = c.index-entries-at.result in
    let y = c.index-entries-at-in-loop-at.result in
    let at = c.loop-at.at in
    let from = c.loop-at.auto.at in
    let within : at < length entries = omega arith in
    let long = map_length item entries in
    let back : at ≡ at - 1 + 1 = omega arith in
    let next : at - 1 + 2 ≡ at + 1 = omega arith in
    let last = item_at item entries (at - 1) x (omega arith) c.index-entries-at.is in
    let one = item_at item entries at y within c.index-entries-at-in-loop-at.is in
    let less = subst (λ a. ComesBefore a (item y)) c.as_entry.ensures (subst (λ b. ComesBefore (item_of c.as_entry.result) b) c.as_entry-in-loop-at.ensures (c.comes_before.ensures.0 c.if-not-comes_before.false)) in
    subst (λ n. IsInOrder (take n items)) next
    (order_more items (at - 1) (item x) (item y) (omega arith) last (subst (λ n. get_or items n (item y) ≡ item y) back one) (subst (λ n. IsInOrder (take n items)) back c.loop-at.invariant) less)

pub returns : goal.returns
returns g c =
    let item = g.T.AsEntry.item in
    let entries = c.args.entries.now in
    let long = map_length item entries in
    let all = subst IsInOrder (take_all c.loop-at.at (map item entries) (omega arith)) c.loop-at.invariant in
    (λ _. all, λ _. refl)
