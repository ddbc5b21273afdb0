use Rattle.gix_object_tree.specs.SameItem.{one_item, item_itself}
use Rattle.gix_object_tree.specs.Entry.{own_item}
use Rattle.gix_object_tree.proofs.laws.equal_entries_are_one.Goals as goal

pub returns : goal.returns
returns c = (one_item (own_item c.args._entry.now) (own_item c.args._other.now), item_itself (own_item c.args._entry.now) (own_item c.args._other.now))
