use Rattle.std.proofs.Common.{◌≡◌, ◌∙◌, ◌<◌, ap, sym, refl, arith, length, None}
use Rattle.gix_object_tree.specs.Entry.{item_of}
use Rattle.gix_object_tree.specs.ModeText.{mode_of}
use Rattle.gix_hash.specs.Id.{Id}
use Rattle.gix_object_nodes.specs.declared.node.Slot.{Slot}
use Rattle.gix_object_nodes.specs.Files.{Leaf, leaf_of}
use Rattle.gix_object_nodes.specs.Nodes.{slot_in, leaf_in}
use Rattle.gix_object_editor.proofs.Loaded.{absent_before, stands_more}
use Rattle.gix_object_editor.proofs.tree.editor.load.node_of.Goals as goal

pub loop-i-preserved : goal.loop-i-preserved
loop-i-preserved c =
    let e = c.index-entries-i.result in
    let s : Slot = record { mode = e.mode; oid = c.from.result; child = None } in
    let lt : c.loop-i.i < length c.args.entries.now = omega arith in
    let absent = absent_before item_of c.args.entries.now c.loop-i.i e (slot_in c.loop-i.node (item_of e).name) lt c.index-entries-i.is (c.loop-i.invariant (item_of e).name) c.requires in
    let leaf : leaf_in s ≡ leaf_of (item_of e) = ap (λ (id : Id). let l : Leaf = record { mode = mode_of e.mode; id = id } in l) c.from.ensures in
    stands_more item_of c.args.entries.now c.loop-i.i e (slot_in c.loop-i.node) (slot_in c.put.new.self) s lt c.index-entries-i.is c.loop-i.invariant absent
    (ap (slot_in c.put.new.self) (sym c.as_bytes.ensures) ∙ c.in_ok-put.ensures.here) leaf refl
    (λ m ne. c.in_ok-put.ensures.others m (λ same. ne (same ∙ c.as_bytes.ensures)))
