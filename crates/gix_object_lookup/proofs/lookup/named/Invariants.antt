use Rattle.std.proofs.Common.{◌≡◌, List, length}
use Rattle.gix_object_tree.specs.Entry.{Item, SpellsEntries}
use Rattle.gix_object_tree.specs.Reading.{place_of}
use Rattle.gix_object_lookup.specs.Path.{LackName}
use Rattle.gix_object_lookup.proofs.lookup.named.Given as goal

abbrev pub invariant-entries : goal.invariant-entries
invariant-entries l =
    (done : List Item) × SpellsEntries (place_of l.fn.tree).kind (place_of l.fn.tree).input done (place_of l.tree).input
    × ((place_of l.tree).kind ≡ (place_of l.fn.tree).kind) × LackName l.name done

abbrev pub decreases-entries : goal.decreases-entries
decreases-entries l = length (place_of l.tree).input
