use Rattle.std.proofs.Common.{Some, ◌≤◌, ◌⊎◌, ℕ, ◌≡◌, ◌<◌, ◌+◌, length, map}
use Rattle.gix_object_nodes.specs.Files.{Bytes}
use Rattle.gix_object_nodes.specs.Nodes.{slots_of, leaf_in}
use Rattle.gix_object_editor.specs.Laid.{IsRung}
use Rattle.std.specs.List.{Contains}
use Rattle.gix_hash.specs.Id.{id_of}
use Rattle.gix_object_nodes.specs.declared.node.Slot.{Slot}
use Rattle.gix_object_editor.specs.Entries.{made_leaf}
use Rattle.gix_object_nodes.specs.Marks.{marks_of, mark_below, rung_parent}
use Rattle.gix_object_editor.proofs.tree.editor.lay.push_ladder.Given as goal

-- the names so far have a node each
abbrev pub invariant-loop-i : goal.invariant-loop-i
invariant-loop-i l = record {
  len : length l.nodes.items ≡ length l.initial.nodes.items + l.i;
  front : (i : ℕ) (m : Bytes) → i < length l.initial.nodes.items → slots_of l.nodes.items i m ≡ slots_of l.initial.nodes.items i m;
  leaves : (i : ℕ) (m : Bytes) (s : Slot) → length l.initial.nodes.items ≤ i → slots_of l.nodes.items i m ≡ Some s
      → Contains (map (λ n. n.now) l.names) m × ((leaf_in s ≡ leaf_in l.slot) ⊎ (leaf_in s ≡ made_leaf (id_of l.slot.oid).kind));
  above : l.above.0 ≡ rung_parent l.fn.at.0 (length l.initial.nodes.items) l.i;
  marks : (i : ℕ) → i < length l.initial.nodes.items → marks_of l.nodes.items i ≡ marks_of l.initial.nodes.items i;
  changed : (k : ℕ) → k < l.i → marks_of l.nodes.items (length l.initial.nodes.items + k) ≡ mark_below (rung_parent l.fn.at.0 (length l.initial.nodes.items) k) l.changed;
  rungs : (k : ℕ) → k < l.i → IsRung (slots_of l.nodes.items) (length l.initial.nodes.items) (map (λ n. n.now) l.names) l.slot k;
}
