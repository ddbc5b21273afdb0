use Rattle.std.specs.Prelude.{reverse}
use Rattle.gix_hash.specs.Id.{id_of}
use Rattle.gix_traverse_tree.specs.Opened.{weight, IsGood, WalksIn, WhereTrue}
use Rattle.gix_traverse_tree.proofs.Walking.{Walking, steps_left}
use Rattle.gix_traverse_tree.proofs.depthfirst.walk.Given as goal

abbrev pub invariant-steps : goal.invariant-steps
invariant-steps g l =
    WhereTrue l.more (Walking g.V.Visit.goes (g.F.Lookup.is_honest l.objects) (g.F.Lookup.may_fail l.objects) (g.F.Lookup.table l.objects) (g.F.Lookup.ids l.objects) (id_of l.fn.root) l.fn.delegate l.delegate (reverse l.trees.items))
    (WalksIn g.V.Visit.goes (g.F.Lookup.is_honest l.objects) (g.F.Lookup.may_fail l.objects) (g.F.Lookup.table l.objects) (id_of l.fn.root) l.fn.delegate l.delegate IsGood)

abbrev pub decreases-steps : goal.decreases-steps
decreases-steps g l = steps_left l.more (weight (g.F.Lookup.ids l.objects) (reverse l.trees.items))
