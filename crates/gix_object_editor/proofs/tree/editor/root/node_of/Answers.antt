use Rattle.std.proofs.Common.{◌∙◌, ◌<◌, ap, sym, refl, arith, length, None, subst}
use Rattle.gix_object_tree.specs.Entry.{own_item}
use Rattle.gix_object_tree.specs.declared.tree.entry.Entry.{Entry}
use Rattle.std.proofs.Common.{List, map}
use Rattle.gix_object_nodes.specs.declared.node.Slot.{Slot}
use Rattle.gix_object_nodes.specs.Nodes.{slot_in}
use Rattle.gix_object_tree.specs.WellFormed.{IsWellFormed}
use Rattle.gix_object_editor.proofs.Loaded.{absent_before, stands_more}
use Rattle.gix_object_editor.proofs.tree.editor.root.node_of.Goals as goal

pub loop-i-preserved : goal.loop-i-preserved
loop-i-preserved c =
    let entries = c.as_slice-entries.result.now in
    let e = c.index-entries-i.result in
    let s : Slot = record { mode = e.mode; oid = e.oid; child = None } in
    let lt : c.loop-i.i < length entries = omega arith in
    let whole = subst (λ (xs : List Entry). IsWellFormed (map own_item xs)) (sym c.as_slice-entries.ensures.value) c.requires in
    let absent = absent_before own_item entries c.loop-i.i e (slot_in c.loop-i.node (own_item e).name) lt c.index-entries-i.is (c.loop-i.invariant (own_item e).name) whole in
    stands_more own_item entries c.loop-i.i e (slot_in c.loop-i.node) (slot_in c.put.new.self) s lt c.index-entries-i.is c.loop-i.invariant absent
    (ap (slot_in c.put.new.self) (sym c.as_bytes.ensures) ∙ c.in_ok-put.ensures.here) refl refl
    (λ m ne. c.in_ok-put.ensures.others m (λ same. ne (same ∙ c.as_bytes.ensures)))
