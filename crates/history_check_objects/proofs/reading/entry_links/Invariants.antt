use Rattle.std.proofs.Common.{◌≡◌, map, take}
use Rattle.gix_object_tree.specs.Entry.{item_of}
use Rattle.history_check_objects.specs.Links.{link_by_item}
use Rattle.history_check_objects.specs.Surveying.{links_of}
use Rattle.history_check_objects.proofs.reading.entry_links.Given as goal

-- the links of the entries so far
abbrev pub invariant-loop-entry : goal.invariant-loop-entry
invariant-loop-entry l = links_of l.links.items ≡ map link_by_item (map item_of (take l.entry-index l.entries))
