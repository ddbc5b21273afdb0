use Rattle.gix_object_tree.specs.Entry.{own_item}
use Rattle.gix_object_lookup.proofs.Followed.{IsAlong}
use Rattle.gix_object_lookup.proofs.lookup.follow.Given as goal

abbrev pub invariant-loop-name : goal.invariant-loop-name
invariant-loop-name g l =
    IsAlong (g.T.Lookup.is_honest l.objects) (g.T.Lookup.table l.objects) (own_item l.fn.entry) l.path l.name-index (own_item l.entry)
