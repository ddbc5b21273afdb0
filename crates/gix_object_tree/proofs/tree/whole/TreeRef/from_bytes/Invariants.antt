use Rattle.std.proofs.Common.{map, length}
use Rattle.gix_object_tree.specs.Entry.{item_of, SpellsEntries}
use Rattle.gix_object_tree.proofs.tree.whole.TreeRef.from_bytes.Given as goal

abbrev pub invariant-entries : goal.invariant-entries
invariant-entries l = SpellsEntries l.hash_kind l.content (map item_of l.entries.items) l.rest

abbrev pub decreases-entries : goal.decreases-entries
decreases-entries l = length l.rest
