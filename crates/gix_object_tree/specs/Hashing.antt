-- What an entry feeds a hasher: its mode's number and whether a zero precedes it, its name, and its
-- id's bytes in one write.
use Rattle.std.specs.Prelude.{◌≡◌, [], ◌∷◌, ◌++◌, IsTrue}
use Rattle.std.proofs.Common.{ap}
use Rattle.std.specs.Hash as fed
use Rattle.gix_hash.specs.Id.{raw_bytes}
use Rattle.gix_object_tree.specs.Entry.{Item}
use Rattle.gix_object_tree.specs.OrderLaws.{item_eq}
use Rattle.gix_object_tree.specs.SameItem.{one_item}

abbrev pub item_input : Item → fed.HashWrites
item_input item =
    fed.u16 item.mode.value ++ fed.bool item.mode.padded ++ fed.slice fed.u8 item.name
    ++ (raw_bytes item.id ∷ [])

-- equal entries are fed alike
pub same_input : (a b : Item) → IsTrue (item_eq a b) → item_input a ≡ item_input b
same_input a b h = ap item_input (one_item a b h)
