use Rattle.std.proofs.Common.{subst, map}
use Rattle.std.specs.List.{All}
use Rattle.gix_object_tree.specs.Entry.{item_of}
use Rattle.gix_object_tree.specs.Writing.{IsToldAgain}
use Rattle.gix_object_tree.proofs.TreeLaws.{tree_back}
use Rattle.gix_object_tree.proofs.laws.written_tree_is_read_back.Goals as goal

pub returns : goal.returns
returns c =
    let told = subst (λ entries. All IsToldAgain (map item_of entries)) c.as_slice.ensures.value c.entries_are_told_again.ensures in
    tree_back c.args._hash_kind (map item_of c.args.tree.now.entries.items) told
