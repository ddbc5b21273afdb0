use Rattle.std.proofs.Common.{◌≡◌, ◌<◌, ◌-◌, length, map, drop}
use Rattle.gix_object_nodes.specs.Nodes.{slots_of, entry_at}
use Rattle.gix_object_editor.proofs.tree.editor.entry.entry_from.Given as goal

-- the names so far lead down, and the rest to the entry
abbrev pub invariant-names : goal.invariant-names
invariant-names l = record {
  within : l.at.0 < length l.nodes;
  left : l.depth < length l.path;
  rest : entry_at (slots_of l.nodes) l.fn.from.0 (map (λ n. n.now) l.path) ≡ entry_at (slots_of l.nodes) l.at.0 (map (λ n. n.now) (drop l.depth l.path));
}

abbrev pub decreases-names : goal.decreases-names
decreases-names l = length l.path - l.depth
