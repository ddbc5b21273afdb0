use Rattle.std.proofs.Common.{length, ◌-◌, ◌<◌, ◌≤◌, ◌+◌, ◌++◌, ◌⊎◌, ◌≡◌, map, drop}
use Rattle.gix_object_nodes.specs.Files.{Path, Trees}
use Rattle.gix_object_editor.specs.Stored.{HasStored}
use Rattle.gix_object_editor.specs.Asked.{front_of, unopened_into, AsksUpTo}
use Rattle.gix_object_editor.specs.Grown.{Grows}
use Rattle.gix_object_nodes.specs.Nodes.{slots_of, Way, onto, LeadsTo}
use Rattle.gix_object_editor.proofs.tree.editor.forest.walk.Given as goal

-- the names so far lead down, through trees that were opened
abbrev pub invariant-names : goal.invariant-names
invariant-names g l = record {
  within : l.at.0 < length l.nodes.items;
  below : l.fn.from.0 ≤ l.at.0;
  left : l.depth < length l.path;
  grows : Grows (g.S.Lookup.is_honest l.store) (g.S.Lookup.table l.store) l.initial.nodes.items l.nodes.items;
  leads : (way : Path) → Way (slots_of l.initial.nodes.items) way l.fn.from.0 → LeadsTo (slots_of l.nodes.items) (onto way (map (λ n. n.now) l.path)) l.at.0 (map (λ n. n.now) (drop l.depth l.path));
  last : (length l.nodes.items ≡ length l.initial.nodes.items) ⊎ (l.at.0 + 1 ≡ length l.nodes.items);
  counted : l.lookups ≤ l.initial.lookups + l.depth;
  asked : g.S.Lookup.is_honest l.store → (trees : Trees) → HasStored (g.S.Lookup.table l.store) trees → (more : Path)
      → AsksUpTo (g.S.Lookup.table l.store) (unopened_into trees (slots_of l.initial.nodes.items) l.fn.from.0 (front_of (map (λ n. n.now) l.path) ++ more))
      (unopened_into trees (slots_of l.nodes.items) l.at.0 (front_of (map (λ n. n.now) (drop l.depth l.path)) ++ more)) l.initial.lookups l.lookups;
}

abbrev pub decreases-names : goal.decreases-names
decreases-names g l = length l.path - l.depth
