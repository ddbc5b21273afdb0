use Rattle.std.proofs.Common.{map, take}
use Rattle.gix_object_tree.specs.Entry.{item_of}
use Rattle.gix_object_nodes.specs.Files.{Bytes, named}
use Rattle.gix_object_nodes.specs.Nodes.{slot_in, StandsFor}
use Rattle.gix_object_editor.proofs.tree.editor.load.node_of.Given as goal

-- the entries so far are in the node
abbrev pub invariant-loop-i : goal.invariant-loop-i
invariant-loop-i l = (m : Bytes) → StandsFor (slot_in l.node m) (named m (map item_of (take l.i l.entries)))
