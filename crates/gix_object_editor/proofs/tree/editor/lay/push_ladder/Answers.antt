use Rattle.std.proofs.Common.{false, refl, get_or, ◌≤◌, add-one, inl, inr, ℕ, suc, ◌≡◌, ◌∙◌, ◌<◌, ◌+◌, ◌++◌, ◌∷◌, [], List, Some, None, ap, sym, arith, length, rules, true, if◌then◌else◌}
use Rattle.std.specs.Prelude.{is_ok}
use Rattle.std.specs.Borrow.{Bor}
use Rattle.std.proofs.lemmas.List.{get_or-map}
use Rattle.gix_object_nodes.specs.declared.node.Node.{Node}
use Rattle.gix_object_nodes.specs.declared.node.Slot.{Slot}
use Rattle.gix_object_nodes.specs.Files.{Bytes}
use Rattle.gix_object_nodes.specs.Nodes.{slots_of, slot_in, child_of, child_or, leaf_in}
use Rattle.gix_hash.specs.Id.{id_of}
use Rattle.gix_object_editor.specs.Entries.{made_leaf}
use Rattle.gix_object_editor.proofs.Kept.{only_there, ap_leaf}
use Rattle.std.proofs.lemmas.Bool.{cases_lt, cases_order}
use Rattle.gix_object_nodes.specs.Marks.{marks_of, mark_below, rung_parent}
use Rattle.gix_object_nodes.proofs.NodeMarks.{marks_front, mark_end}
use Rattle.gix_object_nodes.proofs.Slots.{at_end, front_kept, length_push, none_past}
use Rattle.gix_object_editor.proofs.Walked.{names, names_length}
use Rattle.gix_object_editor.proofs.Ladder.{one_rung_more}
use Rattle.gix_object_editor.proofs.tree.editor.lay.push_ladder.Goals.{then-i-names, else-i-names}
use Rattle.gix_object_editor.proofs.tree.editor.lay.push_ladder.Goals as goal

pub loop-i-preserved : goal.loop-i-preserved
loop-i-preserved c =
    let old = c.args.nodes.now.items in
    let before = c.loop-i.nodes.items in
    let node : Node = c.in_ok-tree_of_one_entry.field-0 in
    let ok : is_ok c.push.result ≡ true = search rules in
    let pushed : c.push.new.self.items ≡ before ++ node ∷ [] = c.push.ensures.items ∙ ap (λ b. if b then before ++ node ∷ [] else before) ok in
    let n : length before ≡ length old + c.loop-i.i = c.loop-i.invariant.len in
    let lt : c.loop-i.i < length c.args.names.now = omega arith in
    let long : length (names c.args.names.now) ≡ length c.args.names.now = names_length c.args.names.now in
    let front : (j : ℕ) (m : Bytes) → j < length before → slots_of c.push.new.self.items j m ≡ slots_of before j m = λ j m less.
    ap (λ ns. slots_of ns j m) pushed ∙ front_kept before (node ∷ []) j m less in
    let new : (m : Bytes) → slots_of c.push.new.self.items (length before) m ≡ slot_in node m = λ m.
    ap (λ ns. slots_of ns (length before) m) pushed ∙ at_end before node m in
    record {
      len = omega (arith, ap length pushed, length_push before node);
      front = λ j m less. let more : j < length before = omega arith in front j m more ∙ c.loop-i.invariant.front j m less;
      leaves = λ j m u le is. elim (cases_order j (length before)) [
        | inr (inl less) ↦ c.loop-i.invariant.leaves j m u le (sym (front j m less) ∙ is)
        | inl here ↦
            let stands : slot_in node m ≡ Some u = sym (new m) ∙ ap (λ k. slots_of c.push.new.self.items k m) (sym here) ∙ is in
            let alone = only_there (slot_in node) _ m c.if-i-names.rung u c.in_ok-tree_of_one_entry.ensures.here c.in_ok-tree_of_one_entry.ensures.others stands in
            let found : get_or (names c.args.names.now) c.loop-i.i m ≡ m = get_or-map (λ (x : Bor (List ℕ)). x.now) c.args.names.now c.loop-i.i _ m lt ∙ sym alone.0 in (
              (c.loop-i.i, omega (arith, long, lt), found),
              ap_leaf c.if-i-names.rung u alone.1 (leaf_in c.args.slot) (made_leaf (id_of c.args.slot.oid).kind) (elim c.if-i-names.branch [
                | then-i-names w ↦ inr (ap leaf_in w.rung-is ∙ w.folder-rung.ensures.leaf)
                | else-i-names w ↦ inl (ap leaf_in w.rung-is)
              ]),
            )
        | inr (inr above) ↦
            let past : length c.push.new.self.items ≤ j = omega (arith, above, ap length pushed, length_push before node) in
            let gone : slots_of c.push.new.self.items j m ≡ None = none_past c.push.new.self.items j m past in
            absurd (cc (sym gone ∙ is))
      ];
      above = omega (arith, c.len-in-loop-i.ensures, n) ∙ ap (rung_parent c.args.at.0 (length old)) (sym (add-one c.loop-i.i));
      marks = λ j less. let more : j < length before = omega (arith, less, n) in ap (λ ns. marks_of ns j) pushed ∙ marks_front before (node ∷ []) j more ∙ c.loop-i.invariant.marks j less;
      changed = λ k less. elim (cases_lt k c.loop-i.i) [
        | inl earlier ↦
            let more : length old + k < length before = omega (arith, earlier, n) in
            ap (λ ns. marks_of ns (length old + k)) pushed ∙ marks_front before (node ∷ []) (length old + k) more ∙ c.loop-i.invariant.changed k earlier
        | inr late ↦
            let is : k ≡ c.loop-i.i = omega (arith, late, less) in
            let at_end_of : length old + k ≡ length before = omega (arith, is, n) in
            ap (marks_of c.push.new.self.items) at_end_of ∙ ap (λ ns. marks_of ns (length before)) pushed ∙ mark_end before node ∙ c.in_ok-tree_of_one_entry.ensures.mark
            ∙ ap (λ p. mark_below p c.args.changed) (c.loop-i.invariant.above ∙ ap (rung_parent c.args.at.0 (length old)) (sym is))
      ];
      rungs = one_rung_more (names c.args.names.now) (slots_of before) (slots_of c.push.new.self.items) (length old) (length before) c.loop-i.i c.args.slot c.if-i-names.rung n front
          (new _ ∙ ap (slot_in node) (get_or-map (λ (x : Bor (List ℕ)). x.now) c.args.names.now c.loop-i.i _ [] lt) ∙ c.in_ok-tree_of_one_entry.ensures.here)
          (λ m apart. new m ∙ c.in_ok-tree_of_one_entry.ensures.others m (λ same. apart (same ∙ sym (get_or-map (λ (x : Bor (List ℕ)). x.now) c.args.names.now c.loop-i.i _ [] lt))))
          (λ inner. elim c.if-i-names.branch [
            | then-i-names w ↦
                let next : w.len.result + 1 ≡ suc (length before) = omega arith in
                ap (λ (r : Slot). child_of (Some r)) w.rung-is ∙ ap (λ o. child_or o (λ d. Some d) None) w.folder-rung.ensures.linked ∙ ap (λ k. Some k) next
            | else-i-names w ↦ absurd (omega (arith, w.if-i-names.false))
          ])
          (λ inner. elim c.if-i-names.branch [
            | then-i-names w ↦ ap leaf_in w.rung-is ∙ w.folder-rung.ensures.leaf
            | else-i-names w ↦ absurd (omega (arith, w.if-i-names.false))
          ])
          (λ end. elim c.if-i-names.branch [
            | then-i-names w ↦ absurd (omega (arith, w.if-i-names.true))
            | else-i-names w ↦ w.rung-is
          ])
          c.loop-i.invariant.rungs;
    }

pub loop-i-init : goal.loop-i-init
loop-i-init c = record {
  len = omega arith;
  front = λ i m lt. refl;
  leaves = λ i m s le is. let gone : slots_of c.args.nodes.now.items i m ≡ None = none_past c.args.nodes.now.items i m le in absurd (cc (sym gone ∙ is));
  above = refl;
  marks = λ i lt. refl;
  changed = λ k lt. absurd (omega (arith, lt));
  rungs = λ k lt. absurd (omega (arith, lt));
}

pub returns-clause-front : goal.returns-clause-front
returns-clause-front c = record { longer = omega (arith, c.loop-i.invariant.len); slots = c.loop-i.invariant.front; marks = c.loop-i.invariant.marks }

pub returns-clause-ladder : goal.returns-clause-ladder
returns-clause-ladder c = record {
  len = omega (arith, c.loop-i.invariant.len);
  rungs = λ k lt. c.loop-i.invariant.rungs k (omega (arith, lt));
  leaves = c.loop-i.invariant.leaves;
  marked = λ k lt. c.loop-i.invariant.changed k (omega (arith, lt));
}

pub returns-in_err-push-clause-front : goal.returns-in_err-push-clause-front
returns-in_err-push-clause-front c =
    let before = c.loop-i.nodes.items in
    let node : Node = c.in_ok-tree_of_one_entry.field-0 in
    let failed : is_ok c.push.result ≡ false = search rules in
    let same : c.push.new.self.items ≡ before = c.push.ensures.items ∙ ap (λ b. if b then before ++ node ∷ [] else before) failed in
    record {
      longer = omega (arith, ap length same, c.loop-i.invariant.len);
      slots = λ i m lt. ap (λ ns. slots_of ns i m) same ∙ c.loop-i.invariant.front i m lt;
      marks = λ i lt. ap (λ ns. marks_of ns i) same ∙ c.loop-i.invariant.marks i lt;
    }

pub returns-in_err-tree_of_one_entry-clause-front : goal.returns-in_err-tree_of_one_entry-clause-front
returns-in_err-tree_of_one_entry-clause-front c = record { longer = omega (arith, c.loop-i.invariant.len); slots = c.loop-i.invariant.front; marks = c.loop-i.invariant.marks }
