-- No entry of a name among those that a content spells.
use Rattle.std.proofs.Common.{◌≡◌, subst, ℕ, List, []}
use Rattle.std.specs.Prelude.{None}
use Rattle.gix_object_tree.specs.Entry.{Item, SpellsEntries}
use Rattle.gix_object_tree.specs.Reading.{Place}
use Rattle.gix_object_lookup.specs.Path.{FindsFirst, LackName}

-- all entries were read, and none has the name
pub found_none : (tree : Place) (name : List ℕ) (done : List Item) (rest : List ℕ)
    → SpellsEntries tree.kind tree.input done rest → LackName name done → rest ≡ []
    → FindsFirst tree name None
found_none tree name done rest read plain end =
    (done, subst (SpellsEntries tree.kind tree.input done) end read, plain)
