use Rattle.std.proofs.Common.{inl, inr, ℕ, ◌≡◌, ◌∙◌, ◌||◌, ◌==◌, true, false, None, Some, ap, sym, subst, length, get_or, map}
use Rattle.std.specs.Map.{keys_of, values_of}
use Rattle.std.specs.Ordering.{eq_by_cmp}
use Rattle.std.specs.List.{IsDistinct}
use Rattle.std.proofs.lemmas.List.{length-set}
use Rattle.std.proofs.lemmas.Map.Keys.{IsDistinct-from_sorted}
use Rattle.gix_object_nodes.specs.declared.node.Slot.{Slot}
use Rattle.std.proofs.Common.{List}
use Rattle.gix_object_nodes.specs.Nodes.{child_or, child_of}
use Rattle.gix_object_nodes.specs.Marks.{changed_in, child_if, slot_if}
use Rattle.gix_object_nodes.proofs.Due.{child_through, entry_if, keys_kept, values_kept, lookup_kept}
use Rattle.gix_object_nodes.proofs.Slots.{key_cmp, is_named}
use Rattle.gix_object_nodes.proofs.ReachedTrees.{AreWithin, has_child, all_within, marked, was_or_is, is_marked, still_marked}
use Rattle.gix_object_nodes.proofs.write.reached.mark_children.Goals as goal

pub loop-slot-init : goal.loop-slot-init
loop-slot-init c =
    let shows = changed_in c.args.nodes.now in
    let entries = c.args.node.now.slots.entries in
    let apart : IsDistinct (eq_by_cmp key_cmp) (keys_of entries) = IsDistinct-from_sorted key_cmp (keys_of entries) c.values-slot-items.ensures.ordered in
    let e : c.into_iter-slot-iterator.result ≡ values_of entries = c.into_iter-slot-iterator.ensures.into_iter_gives ∙ c.values-slot-items.ensures.rest in
    record {
      next = tt;
      finite = tt;
      opened = subst (λ (ss : List Slot). AreWithin (length c.args.nodes.now) ss) (sym e) (all_within (length c.args.nodes.now) entries apart c.requires.opened);
      within = subst (λ (ss : List Slot). AreWithin (length c.args.marks.now) ss) (sym e) (all_within (length c.args.marks.now) entries apart c.requires.within);
      marks = λ j. ap (λ (ss : List Slot). get_or c.args.marks.now j false || has_child j (map (slot_if shows) ss)) e;
    }

pub changed_child-requires : goal.changed_child-requires
changed_child-requires c =
    let all = subst (λ (ss : List Slot). AreWithin (length c.args.nodes.now) ss) c.in-Some.ensures.steps c.loop-slot.invariant.opened in
    all.0

pub bounds-marks-child : goal.bounds-marks-child
bounds-marks-child c =
    let shows = changed_in c.args.nodes.now in
    let all = subst (λ (ss : List Slot). AreWithin (length c.loop-slot.marks) ss) c.in-Some.ensures.steps c.loop-slot.invariant.within in
    let is = child_through shows c.in-Some.slot.now.child c.in-Some-changed_child.child (sym c.changed_child.ensures ∙ c.in-Some-changed_child.is) in
    all.0 c.in-Some-changed_child.child.0 (ap (λ o. child_or o (λ k. Some k) None) is)

pub loop-slot-preserved-in-Some-changed_child : goal.loop-slot-preserved-in-Some-changed_child
loop-slot-preserved-in-Some-changed_child c =
    let shows = changed_in c.args.nodes.now in
    let marks = c.loop-slot.marks in
    let child = c.in-Some-changed_child.child in
    let let_in = sym c.changed_child.ensures ∙ c.in-Some-changed_child.is in
    let is = ap (λ o. child_or o (λ k. Some k) None) (child_through shows c.in-Some.slot.now.child child let_in) in
    let some = subst (λ (ss : List Slot). AreWithin (length c.args.nodes.now) ss) c.in-Some.ensures.steps c.loop-slot.invariant.opened in
    let all = subst (λ (ss : List Slot). AreWithin (length marks) ss) c.in-Some.ensures.steps c.loop-slot.invariant.within in
    record {
      next = tt;
      finite = tt;
      opened = some.1;
      within = subst (λ n. AreWithin n c.next.new.self) (sym (length-set marks child.0 true)) all.1;
      marks = λ j.
          marked marks j child.0 (child_if shows c.in-Some.slot.now.child) (has_child j (map (slot_if shows) c.next.new.self)) (ap (λ o. child_or o (λ k. Some k) None) let_in) (all.0 child.0 is)
          ∙ ap (λ (ss : List Slot). get_or marks j false || has_child j (map (slot_if shows) ss)) (sym c.in-Some.ensures.steps) ∙ c.loop-slot.invariant.marks j;
    }

pub loop-slot-preserved : goal.loop-slot-preserved
loop-slot-preserved c =
    let shows = changed_in c.args.nodes.now in
    let marks = c.loop-slot.marks in
    let some = subst (λ (ss : List Slot). AreWithin (length c.args.nodes.now) ss) c.in-Some.ensures.steps c.loop-slot.invariant.opened in
    let all = subst (λ (ss : List Slot). AreWithin (length marks) ss) c.in-Some.ensures.steps c.loop-slot.invariant.within in
    record {
      next = tt;
      finite = tt;
      opened = some.1;
      within = all.1;
      marks = λ j.
          ap (λ o. get_or marks j false || (child_or o (λ k. k == j) false || has_child j (map (slot_if shows) c.next.new.self))) (sym c.in_default.is ∙ c.changed_child.ensures)
          ∙ ap (λ (ss : List Slot). get_or marks j false || has_child j (map (slot_if shows) ss)) (sym c.in-Some.ensures.steps) ∙ c.loop-slot.invariant.marks j;
    }

pub returns : goal.returns
returns c =
    let shows = changed_in c.args.nodes.now in
    let entries = c.args.node.now.slots.entries in
    let apart : IsDistinct (eq_by_cmp key_cmp) (keys_of entries) = IsDistinct-from_sorted key_cmp (keys_of entries) c.values-slot-items.ensures.ordered in
    let still : IsDistinct (eq_by_cmp key_cmp) (keys_of (map (entry_if shows) entries)) = subst (IsDistinct (eq_by_cmp key_cmp)) (sym (keys_kept shows entries)) apart in
    let e : (j : ℕ) → (get_or c.loop-slot.marks j false || false) ≡ (get_or c.args.marks.now j false || has_child j (values_of (map (entry_if shows) entries))) = λ j.
    ap (λ (ss : List Slot). get_or c.loop-slot.marks j false || has_child j (map (slot_if shows) ss)) (sym c.in-None.ensures.steps.0) ∙ c.loop-slot.invariant.marks j
    ∙ ap (λ (ss : List Slot). get_or c.args.marks.now j false || has_child j ss) (sym (values_kept shows entries)) in
    record {
      kept = λ j is. still_marked (get_or c.args.marks.now j false) (get_or c.loop-slot.marks j false) (has_child j (values_of (map (entry_if shows) entries))) (e j) is;
      children = λ m k is. is_marked (get_or c.args.marks.now k false) (get_or c.loop-slot.marks k false) k m (map (entry_if shows) entries) (e k) (ap child_of (lookup_kept shows (is_named m) entries) ∙ is);
      others = λ j is. elim (was_or_is (get_or c.args.marks.now j false) (get_or c.loop-slot.marks j false) j (map (entry_if shows) entries) still (e j) is) [
        | inl was ↦ inl was
        | inr late ↦ inr (late.0, ap child_of (sym (lookup_kept shows (is_named late.0) entries)) ∙ late.1)
      ];
    }
