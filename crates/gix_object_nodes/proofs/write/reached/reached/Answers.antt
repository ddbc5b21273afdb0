use Rattle.std.proofs.Common.{ℕ, ◌≡◌, ◌∙◌, ◌<◌, ◌+◌, Bool, List, Vec, Some, true, false, ap, sym, subst, arith, length, get_or, rules, inl, inr}
use Rattle.std.specs.declared.alloc.Global.{Global}
use Rattle.std.proofs.lemmas.List.{length-set}
use Rattle.gix_object_nodes.specs.Nodes.{slots_of, slot_in, child_of}
use Rattle.gix_object_nodes.specs.Files.{through}
use Rattle.gix_object_nodes.specs.Marks.{marks_of, changed_in, slot_if, slots_if, due_in}
use Rattle.gix_object_nodes.proofs.Due.{due_forest, due_row}
use Rattle.gix_object_nodes.proofs.Slots.{given_back, node_at}
use Rattle.gix_object_nodes.proofs.ReachedTrees.{AreMarked, root_marked, marked_more, unmarked_more, all_marked, is_set}
use Rattle.gix_object_nodes.proofs.write.reached.reached.Goals.{then-index, else-index}
use Rattle.gix_object_nodes.proofs.write.reached.reached.Goals as goal

pub loop-i-init : goal.loop-i-init
loop-i-init c =
    let marks = c.in_ok-marks.marks.items in
    let n : length marks ≡ length c.args.nodes.now = omega (arith, c.in_ok-marks.ensures.len, c.in_ok-marks.marks.ok.0) in
    let some : c.args.from.0 < length marks = omega (arith, c.requires.within) in
    record {
      len = length-set marks c.args.from.0 true ∙ n;
      marked = root_marked (due_in c.args.nodes.now c.args.from.0) (length c.args.nodes.now) c.args.from.0 marks (c.in_ok-marks.ensures.items_if_clones_equal (search rules)) some;
    }

pub mark_children-requires : goal.mark_children-requires
mark_children-requires c = record {
  opened = λ m k is.
      let e = ap child_of (node_at c.args.nodes.now c.loop-i.i c.index-nodes-i.result m c.loop-i-test.true ∙ ap (λ n. slot_in n m) (sym c.index-nodes-i.is)) ∙ is in
      c.requires.forest.within c.loop-i.i m k e;
  within = λ m k is.
      let e = ap child_of (node_at c.args.nodes.now c.loop-i.i c.index-nodes-i.result m c.loop-i-test.true ∙ ap (λ n. slot_in n m) (sym c.index-nodes-i.is)) ∙ is in
      let lt : k < length c.args.nodes.now = c.requires.forest.within c.loop-i.i m k e in
      omega (arith, ap length c.as_mut_slice.ensures.value, c.loop-i.invariant.len);
}

pub loop-i-preserved : goal.loop-i-preserved
loop-i-preserved c =
    let nodes = c.args.nodes.now in
    let i = c.loop-i.i in
    let within : i < length c.loop-i.marks.items = omega (arith, c.loop-i.invariant.len, c.loop-i-test.true) in
    let read : get_or c.loop-i.marks.items i false ≡ c.index.result.now = is_set c.loop-i.marks.items i c.index.result.now within c.index.ensures in
    let from = c.args.from.0 in
    let slots = due_in nodes from in
    let forest = due_forest (slots_of nodes) (marks_of nodes) from (length nodes) c.requires.forest in
    let row : get_or c.loop-i.marks.items i false ≡ true → (m : List ℕ) → slots_if (changed_in nodes) (slot_in c.index-nodes-i.result) m ≡ slots i m = λ is m.
    ap (λ o. through o (λ s. Some (slot_if (changed_in nodes) s))) (sym (node_at nodes i c.index-nodes-i.result m c.loop-i-test.true ∙ ap (λ n. slot_in n m) (sym c.index-nodes-i.is)))
    ∙ sym (due_row (slots_of nodes) (marks_of nodes) from (length nodes) c.requires.forest i (c.loop-i.invariant.marked.below i is) m) in
    elim c.if-index.branch [
      | then-index w ↦
          let new = w.mark_children.new.marks in
          let n : c.loop-i.marks.len ≡ length new = omega (arith, w.mark_children.auto.marks, w.as_mut_slice.ensures.len) in
          let items : c.if-index.marks.items ≡ new = ap (λ (v : Vec Bool Global). v.items) w.marks-is ∙ given_back c.loop-i.marks.len new _ n in
          let same = w.as_mut_slice.ensures.value in
          record {
            len = ap length items ∙ w.mark_children.auto.marks ∙ ap length same ∙ c.loop-i.invariant.len;
            marked = subst (λ ms. AreMarked slots from ms (i + 1)) (sym items)
                (marked_more slots from (length nodes) forest c.loop-i.marks.items new i c.loop-i.invariant.marked (read ∙ w.if-index.true)
                (λ j is. w.mark_children.ensures.kept j (ap (λ ms. get_or ms j false) same ∙ is))
                (λ m k is. w.mark_children.ensures.children m k (ap child_of (row (read ∙ w.if-index.true) m) ∙ is))
                (λ j is. elim (w.mark_children.ensures.others j is) [
                  | inl was ↦ inl (ap (λ ms. get_or ms j false) (sym same) ∙ was)
                  | inr late ↦ inr (late.0, ap child_of (sym (row (read ∙ w.if-index.true) late.0)) ∙ late.1)
                ]));
          }
      | else-index w ↦ record {
        len = ap (λ (v : Vec Bool Global). length v.items) w.marks-is ∙ c.loop-i.invariant.len;
        marked = subst (λ ms. AreMarked slots from ms (i + 1)) (sym (ap (λ (v : Vec Bool Global). v.items) w.marks-is))
            (unmarked_more slots from (length nodes) forest c.loop-i.marks.items i c.loop-i.invariant.marked (read ∙ w.if-index.false));
      }
    ]

pub returns : goal.returns
returns c =
    let nodes = c.args.nodes.now in
    let e : c.loop-i.i ≡ length nodes = omega (arith, c.loop-i-test.false, c.loop-i.auto.i-end) in
    let from = c.args.from.0 in
    let slots = due_in nodes from in
    let forest = due_forest (slots_of nodes) (marks_of nodes) from (length nodes) c.requires.forest in
    let so = subst (λ n. AreMarked slots from c.loop-i.marks.items n) e c.loop-i.invariant.marked in
    record {
      len = c.loop-i.invariant.len;
      leads = λ base w j. (so.sound base w j, all_marked slots from (length nodes) forest base w c.loop-i.marks.items so j);
    }
