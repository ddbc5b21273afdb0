use Rattle.gix_object_tree.specs.Entry.{item_of, own_item}
use Rattle.gix_object_tree.specs.Hashing.{same_input}
use Rattle.gix_object_tree.proofs.laws.equal_entries_are_fed_alike.Goals as goal

pub returns : goal.returns
returns c = same_input (own_item c.args._entry.now) (item_of c.args._other.now)
