use Rattle.std.proofs.Common.{◌≡◌, ◌∙◌, ◌<◌, ◌-◌, List, Some, None, false, ap, sym, subst, arith, length}
use Rattle.std.specs.List.{IsDistinct}
use Rattle.std.specs.Map.{lookup, keys_of, values_of}
use Rattle.std.specs.Ordering.{eq_by_cmp}
use Rattle.std.proofs.lemmas.Map.Keys.{IsDistinct-from_sorted}
use Rattle.gix_hash.specs.Id.{id_of}
use Rattle.gix_object_nodes.specs.declared.node.Slot.{Slot}
use Rattle.gix_object_nodes.specs.Files.{Bytes}
use Rattle.gix_object_nodes.specs.Nodes.{slots_of, slot_in, child_of, child_or}
use Rattle.gix_object_nodes.proofs.Slots.{key_cmp, is_named, node_at}
use Rattle.gix_object_nodes.proofs.WrittenEntries.{not_null, null_by_test}
use Rattle.gix_object_editor.proofs.Filled.{AreOf, NoFile, NoFiles, all_of, none_below, no_file_null, no_file_child, found_entry, found_child}
use Rattle.gix_object_editor.proofs.tree.editor.filled.+has_file.Goals.{in-Some-child, in-None-child}
use Rattle.gix_object_editor.proofs.tree.editor.filled.+has_file.Goals as goal
use Rattle.std.proofs.lemmas.Bool.{not-true, not-false}

pub loop-slot-init : goal.loop-slot-init
loop-slot-init t c =
    let nodes = c.args.nodes.now in
    let at = c.args.at.0 in
    let entries = c.index-nodes-at.result.slots.entries in
    let apart : IsDistinct (eq_by_cmp key_cmp) (keys_of entries) = IsDistinct-from_sorted key_cmp (keys_of entries) c.values-slot-items.ensures.ordered in
    let e : c.into_iter-slot-iterator.result ≡ values_of entries = c.into_iter-slot-iterator.ensures.into_iter_gives ∙ c.values-slot-items.ensures.rest in
    let same : (m : Bytes) → slots_of nodes at m ≡ lookup (is_named m) entries = λ m.
    node_at nodes at c.index-nodes-at.result m c.requires.within ∙ ap (λ n. slot_in n m) (sym c.index-nodes-at.is) in
    record {
      next = tt;
      finite = tt;
      of = subst (λ (ss : List Slot). AreOf (slots_of nodes at) ss) (sym e) (all_of entries (slots_of nodes at) apart (λ m s found. same m ∙ found));
      none = λ all. none_below (slots_of nodes) at entries same (subst (λ (ss : List Slot). NoFiles (slots_of nodes) ss) e all);
    }

pub has_file-filled-requires : goal.has_file-filled-requires
has_file-filled-requires t c =
    let nodes = c.args.nodes.now in
    let here = subst (λ (ss : List Slot). AreOf (slots_of nodes c.args.at.0) ss) c.in-Some.ensures.steps c.loop-slot.invariant.of in
    let e : child_of (slots_of nodes c.args.at.0 here.0.0) ≡ Some c.in-Some-child.child.0 = ap child_of here.0.1 ∙ ap (λ o. child_or o (λ k. Some k) None) c.in-Some-child.is in
    let up = c.requires.forest.forward c.args.at.0 here.0.0 c.in-Some-child.child.0 e in
    let within = c.requires.forest.within c.args.at.0 here.0.0 c.in-Some-child.child.0 e in
    let less : length nodes - c.in-Some-child.child.0 < t = omega (arith, c.decreases) in
    (less, (c.requires.forest, within))

pub returns-then-filled-clause-found : goal.returns-then-filled-clause-found
returns-then-filled-clause-found t c = λ _ trees filled.
    let nodes = c.args.nodes.now in
    let here = subst (λ (ss : List Slot). AreOf (slots_of nodes c.args.at.0) ss) c.in-Some.ensures.steps c.loop-slot.invariant.of in
    elim c.match-slot.branch [
      | in-Some-child w ↦
          found_child trees (slots_of nodes) c.args.at.0 here.0.0 c.in-Some.slot.now w.in-Some-child.child.0 here.0.1
          (ap (λ o. child_or o (λ k. Some k) None) w.in-Some-child.is) (w.has_file-filled.ensures.found (sym w.filled-is ∙ c.if-filled.true) trees filled)
      | in-None-child w ↦
          let null : w.is_null.result ≡ false = not-true w.is_null.result (sym w.filled-is ∙ c.if-filled.true) in
          found_entry trees (slots_of nodes) c.args.at.0 here.0.0 c.in-Some.slot.now here.0.1 w.in-None-child.is
          (filled c.args.at.0 here.0.0 c.in-Some.slot.now here.0.1 w.in-None-child.is (not_null (id_of c.in-Some.slot.now.oid) w.is_null.result w.is_null.ensures null))
    ]

pub loop-slot-preserved : goal.loop-slot-preserved
loop-slot-preserved t c =
    let nodes = c.args.nodes.now in
    let here = subst (λ (ss : List Slot). AreOf (slots_of nodes c.args.at.0) ss) c.in-Some.ensures.steps c.loop-slot.invariant.of in
    let none : NoFile (slots_of nodes) c.in-Some.slot.now = elim c.match-slot.branch [
      | in-Some-child w ↦
          no_file_child (slots_of nodes) c.in-Some.slot.now w.in-Some-child.child.0 (ap (λ o. child_or o (λ k. Some k) None) w.in-Some-child.is)
          (w.has_file-filled.ensures.none (sym w.filled-is ∙ c.if-filled.false))
      | in-None-child w ↦
          no_file_null (slots_of nodes) c.in-Some.slot.now w.in-None-child.is
          (null_by_test (id_of c.in-Some.slot.now.oid) w.is_null.result w.is_null.ensures (not-false w.is_null.result (sym w.filled-is ∙ c.if-filled.false)))
    ] in
    record {
      next = tt;
      finite = tt;
      of = here.1;
      none = λ left. c.loop-slot.invariant.none (subst (λ (ss : List Slot). NoFiles (slots_of nodes) ss) (sym c.in-Some.ensures.steps) (none, left));
    }

pub returns-clause-none : goal.returns-clause-none
returns-clause-none t c = λ _.
    c.loop-slot.invariant.none (subst (λ (ss : List Slot). NoFiles (slots_of c.args.nodes.now) ss) (sym c.in-None.ensures.steps.0) tt)
