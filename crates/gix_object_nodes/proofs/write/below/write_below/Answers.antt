use Rattle.std.proofs.Common.{ℕ, Some, ◌≤◌, suc, ◌≡◌, ◌∙◌, ◌<◌, ◌-◌, [], true, false, ap, sym, subst, refl, arith, length, map, List, Option, ◌+◌}
use Rattle.std.proofs.lemmas.List.{length-set}
use Rattle.std.proofs.lemmas.Result.{err_from_is_err_and}
use Rattle.gix_hash.specs.declared.object_id.ObjectId.{ObjectId}
use Rattle.gix_object_tree.specs.Entry.{own_item}
use Rattle.gix_object_nodes.specs.Files.{Bytes, Path}
use Rattle.gix_object_nodes.specs.Nodes.{slots_of, slot_in, child_of, Way}
use Rattle.gix_object_nodes.specs.Writing.{ids_of, IsReached, IsTreeOf}
use Rattle.gix_object_nodes.specs.Below.{IsHandedOutFrom}
use Rattle.gix_object_nodes.specs.Marks.{marks_of, changed_in, slots_if, due_in}
use Rattle.gix_object_nodes.proofs.Due.{due_forest}
use Rattle.gix_object_nodes.proofs.Slots.{node_at}
use Rattle.gix_object_nodes.proofs.ReachedTrees.{is_set}
use Rattle.gix_object_nodes.proofs.HandedSteps.{tree_at, due_all, fails_by, step, skipped, none_yet}
use Rattle.gix_object_nodes.proofs.write.below.write_below.Goals as goal

pub nodes-init : goal.nodes-init
nodes-init g c = record {
  callable = c.requires.callable;
  len = omega (arith, c.in_ok-ids.ensures.len, c.in_ok-ids.ids.ok.0);
  some = c.requires.within;
  within = omega arith;
  written = λ base w. ([], refl, none_yet (due_in c.args.nodes.now c.args.from.0) base (length c.args.nodes.now) (ids_of c.in_ok-ids.ids.items));
}

pub tree_of-requires : goal.tree_of-requires
tree_of-requires g c =
    let nodes = c.args.nodes.now in
    let at = c.nodes.at - 1 in
    let within : at < length nodes = omega (arith, c.nodes.invariant.within, c.nodes.invariant.some) in
    let lt : (m : Bytes) (k : ℕ) → child_of (slot_in c.index-nodes-at.result m) ≡ Some k → k < length nodes = λ m k is.
    c.requires.forest.within at m k (ap child_of (node_at nodes at c.index-nodes-at.result m within ∙ ap (λ n. slot_in n m) (sym c.index-nodes-at.is)) ∙ is) in
    record {
      opened = lt;
      within = λ m k is. let less : k < length nodes = lt m k is in omega (arith, less, ap length c.as_slice.ensures.value, c.nodes.invariant.len);
    }

pub returns-in_err-ids-2-clause-refused : goal.returns-in_err-ids-2-clause-refused
returns-in_err-ids-2-clause-refused g c = λ base w.
    let p = err_from_is_err_and c.from_residual-in_err-ids-2.result c.from_residual-in_err-ids-2.ensures.1 in
    let nodes = c.args.nodes.now in
    let slots = due_in nodes c.args.from.0 in
    let forest = due_forest (slots_of nodes) (marks_of nodes) c.args.from.0 (length nodes) c.requires.forest in
    let oids = c.nodes.ids.items in
    let i = c.nodes.at - 1 in
    let next : c.nodes.at ≡ suc i = omega (arith, c.nodes.invariant.some) in
    let within : i < length nodes = omega (arith, c.nodes.invariant.within, c.nodes.invariant.some) in
    let marks = c.in_ok-reached.reached.items in
    let long : i < length marks = omega (arith, c.in_ok-reached.ensures.len) in
    let reached : IsReached slots base i = (c.in_ok-reached.ensures.leads base w i).0 (is_set marks i c.index.result.now long c.index.ensures ∙ c.if-index.true) in
    let so = c.nodes.invariant.written base w in
    let above : c.args.from.0 ≤ i = omega (arith, c.nodes.invariant.some) in
    let tree : IsTreeOf (ids_of oids) (slots i) (map own_item c.in_ok-tree.tree.entries.items) =
    tree_at (ids_of oids) nodes c.args.from.0 c.requires.forest i above c.index-nodes-at.result (map own_item c.in_ok-tree.tree.entries.items) within c.index-nodes-at.is
    (subst (λ (xs : List (Option ObjectId)). IsTreeOf (ids_of xs) (slots_if (changed_in nodes) (slot_in c.index-nodes-at.result)) (map own_item c.in_ok-tree.tree.entries.items)) c.as_slice.ensures.value c.in_ok-tree.ensures) in
    rw (p.1, p.2) (fails_by g.F.FnMut nodes c.args.from.0 base forest oids i (omega (arith, next, c.nodes-test.true)) c.args.out.now c.nodes.out c.hand_out.new.out so.0 so.1
    (subst (λ n. IsHandedOutFrom slots base (length nodes) (ids_of oids) so.0 n) next so.2) reached c.in_ok-tree.tree tree c.in_err-ids-2.field-0.0 c.in_err-ids-2.ensures.answered)

pub returns-in_err-reached-clause-refused : goal.returns-in_err-reached-clause-refused
returns-in_err-reached-clause-refused g c = λ base w.
    let p = err_from_is_err_and c.from_residual.result c.from_residual.ensures.1 in
    rw (p.1, p.2) ([], record { calls_made = refl; in_order = tt; due = λ k d lt. absurd (omega arith) })

pub returns-in_err-ids-clause-refused : goal.returns-in_err-ids-clause-refused
returns-in_err-ids-clause-refused g c = λ base w.
    let p = err_from_is_err_and c.from_residual-in_err-ids.result c.from_residual-in_err-ids.ensures.1 in
    rw (p.1, p.2) ([], record { calls_made = refl; in_order = tt; due = λ k d lt. absurd (omega arith) })

pub returns-in_err-tree-clause-refused : goal.returns-in_err-tree-clause-refused
returns-in_err-tree-clause-refused g c = λ base w.
    let p = err_from_is_err_and c.from_residual-in_err-tree.result c.from_residual-in_err-tree.ensures.1 in
    let so = c.nodes.invariant.written base w in
    rw (p.1, p.2) (
      so.0,
      record {
        calls_made = so.1;
        in_order = so.2.in_order;
        due = due_all c.args.nodes.now c.args.from.0 base (ids_of c.nodes.ids.items) so.0 c.nodes.at (omega (arith, c.nodes.invariant.some)) so.2;
      },
    )

pub nodes-preserved-then-index : goal.nodes-preserved-then-index
nodes-preserved-then-index g c =
    let nodes = c.args.nodes.now in
    let slots = due_in nodes c.args.from.0 in
    let forest = due_forest (slots_of nodes) (marks_of nodes) c.args.from.0 (length nodes) c.requires.forest in
    let oids = c.nodes.ids.items in
    let i = c.nodes.at - 1 in
    let next : c.nodes.at ≡ suc i = omega (arith, c.nodes.invariant.some) in
    let within : i < length nodes = omega (arith, c.nodes.invariant.within, c.nodes.invariant.some) in
    let marks = c.in_ok-reached.reached.items in
    let long : i < length marks = omega (arith, c.in_ok-reached.ensures.len) in
    let set = is_set marks i c.index.result.now long c.index.ensures ∙ c.if-index.true in
    let written = c.nodes.invariant.written in
    let above : c.args.from.0 ≤ i = omega (arith, c.nodes.invariant.some) in
    let tree : IsTreeOf (ids_of oids) (slots i) (map own_item c.in_ok-tree.tree.entries.items) =
    tree_at (ids_of oids) nodes c.args.from.0 c.requires.forest i above c.index-nodes-at.result (map own_item c.in_ok-tree.tree.entries.items) within c.index-nodes-at.is
    (subst (λ (xs : List (Option ObjectId)). IsTreeOf (ids_of xs) (slots_if (changed_in nodes) (slot_in c.index-nodes-at.result)) (map own_item c.in_ok-tree.tree.entries.items)) c.as_slice.ensures.value c.in_ok-tree.ensures) in
    record {
      callable = c.in_ok-ids-2.ensures.callable;
      len = length-set oids i c.in_ok-ids-2.field-0 ∙ c.nodes.invariant.len;
      some = omega (arith, c.nodes-test.true);
      within = omega (arith, within);
      written = λ base w.
          step g.F.FnMut slots base (length nodes) forest oids i c.nodes.invariant.len within c.args.out.now c.nodes.out c.hand_out.new.out (written base w).0 (written base w).1
          (subst (λ n. IsHandedOutFrom slots base (length nodes) (ids_of oids) (written base w).0 n) next (written base w).2) ((c.in_ok-reached.ensures.leads base w i).0 set)
          c.in_ok-tree.tree tree c.in_ok-ids-2.field-0 c.in_ok-ids-2.ensures.answered;
    }

pub nodes-preserved : goal.nodes-preserved
nodes-preserved g c =
    let nodes = c.args.nodes.now in
    let slots = due_in nodes c.args.from.0 in
    let forest = due_forest (slots_of nodes) (marks_of nodes) c.args.from.0 (length nodes) c.requires.forest in
    let oids = c.nodes.ids.items in
    let i = c.nodes.at - 1 in
    let next : c.nodes.at ≡ suc i = omega (arith, c.nodes.invariant.some) in
    let within : i < length nodes = omega (arith, c.nodes.invariant.within, c.nodes.invariant.some) in
    let marks = c.in_ok-reached.reached.items in
    let long : i < length marks = omega (arith, c.in_ok-reached.ensures.len) in
    let off : (base : Path) → Way slots base c.args.from.0 → IsReached slots base i → ⊥ = λ base w r.
    let yes : true ≡ false = sym ((c.in_ok-reached.ensures.leads base w i).1 r) ∙ is_set marks i c.index.result.now long c.index.ensures ∙ c.if-index.false in
    absurd (cc yes) in
    let written = c.nodes.invariant.written in
    record {
      callable = c.nodes.invariant.callable;
      len = c.nodes.invariant.len;
      some = omega (arith, c.nodes-test.true);
      within = omega (arith, within);
      written = λ base w. (
        (written base w).0,
        (written base w).1,
        skipped slots base (length nodes) forest (ids_of oids) (written base w).0 i (ids_of oids) (λ k ne. refl)
            (subst (λ n. IsHandedOutFrom slots base (length nodes) (ids_of oids) (written base w).0 n) next (written base w).2) (off base w),
      );
    }

pub returns-clause-written : goal.returns-clause-written
returns-clause-written g c = λ base w.
    let so = c.nodes.invariant.written base w in
    let end : c.nodes.at ≡ c.args.from.0 + 1 = omega (arith, c.nodes.invariant.some, c.nodes-test.false) in
    (so.0, so.1, subst (λ n. IsHandedOutFrom (due_in c.args.nodes.now c.args.from.0) base (length c.args.nodes.now) (ids_of c.nodes.ids.items) so.0 n) end so.2)
