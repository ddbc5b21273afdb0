-- What an iterator over `packed-refs` has yet to give.
use Rattle.std.specs.Prelude.{false, List}
use Rattle.gix_ref_format.specs.Lines.{lines}
use Rattle.gix_ref_format.specs.Packed.{Item, items}
use Rattle.gix_ref_format.specs.declared.packed.iter.Iter.{Iter}

abbrev pub items_left : Iter → List Item
items_left it = items it.kind it.line_number false (lines it.rest.now)
