use Rattle.std.proofs.Common.{◌≡◌, ◌∙◌, ap, sym, subst, true, false, ◌<◌, length, map, refl, arith}
use Rattle.std.specs.List.{All}
use Rattle.std.proofs.lemmas.Bool.{false≢true}
use Rattle.std.proofs.lemmas.List.{take_all}
use Rattle.gix_object_tree.specs.Entry.{Item}
use Rattle.gix_object_tree.specs.Order.{is_tree}
use Rattle.gix_object_tree.specs.WellFormed.{IsNamed}
use Rattle.gix_object_tree.proofs.Searched.{item_at, map_length, none_of, some_of, element}
use Rattle.gix_object_tree.proofs.Twins.{HasNoTwins, all_more, once_by, twins_not}
use Rattle.gix_object_tree.proofs.tree.well_formed.has_names_once.Goals as goal
use Rattle.gix_object_tree.proofs.tree.well_formed.has_names_once.Goals.{else-is_tree-via-then-is_tree+else-is_some, else-is_tree-via-else-is_tree}

pub returns-then-is_some : goal.returns-then-is_some
returns-then-is_some g c = λ ordered.
    let item = g.T.AsEntry.item in
    let entries = c.args.entries.now in
    let items = map item entries in
    let x = c.entry-item.result in
    let at = c.loop-entry.entry-index in
    let within : at < length entries = omega arith in
    let long = map_length item entries in
    let is = item_at item entries at x within c.entry-item.is ∙ sym c.as_entry-entry.ensures in
    let found = some_of c.bisect.result (sym c.is_some.ensures ∙ c.if-is_some.true) c.bisect.ensures.within c.bisect.ensures.found in
    let other = element item entries found.0 found.1 in
    let named = subst (λ y. IsNamed c.as_bytes.result.now false (item y)) (other.1 other.0) (found.2 other.0) in
    let there = sym (other.2 (item x)) in
    let of_tree = ap is_tree is ∙ sym c.is_tree.ensures ∙ c.if-is_tree.true in
    let of_none = ap is_tree (sym there) ∙ named.1 in
    let names = ap (λ (i : Item). i.name) is ∙ sym c.as_bytes.ensures ∙ sym named.0 ∙ ap (λ (i : Item). i.name) there in (
      λ yes. absurd (false≢true yes),
      λ once. absurd (twins_not items at found.0 (item x) (omega arith) (omega (arith, found.1)) once of_tree of_none names),
    )

pub loop-entry-preserved : goal.loop-entry-preserved
loop-entry-preserved g c = λ ordered.
    let item = g.T.AsEntry.item in
    let entries = c.args.entries.now in
    let items = map item entries in
    let x = c.entry-item.result in
    let at = c.loop-entry.entry-index in
    let within : at < length entries = omega arith in
    let long = map_length item entries in
    let entry = c.as_entry-entry.ensures in
    let alone : is_tree (item x) ≡ true → All (λ (other : Item). ¬ IsNamed (item x).name false other) items =
    elim c.else-is_tree.branch [
      | else-is_tree-via-then-is_tree+else-is_some w ↦ λ _.
          subst (λ name. All (λ (other : Item). ¬ IsNamed name false other) items) (w.as_bytes.ensures ∙ ap (λ (i : Item). i.name) entry)
          (none_of w.bisect.result (sym w.is_some.ensures ∙ w.if-is_some.false) (w.bisect.ensures.missing ordered))
      | else-is_tree-via-else-is_tree w ↦ λ yes. absurd (false≢true (sym w.if-is_tree.false ∙ c.is_tree.ensures ∙ ap is_tree entry ∙ yes))
    ] in
    all_more (λ (tree : Item). is_tree tree ≡ true → All (λ (other : Item). ¬ IsNamed tree.name false other) items) items at (item x) (omega arith)
    (item_at item entries at x within c.entry-item.is) (c.loop-entry.invariant ordered) alone

pub returns : goal.returns
returns g c = λ ordered.
    let item = g.T.AsEntry.item in
    let entries = c.args.entries.now in
    let items = map item entries in
    let long = map_length item entries in
    let twins = subst (HasNoTwins items) (take_all c.loop-entry.entry-index items (omega arith)) (c.loop-entry.invariant ordered) in
    (λ _. once_by items ordered twins, λ _. refl)
