use Rattle.std.proofs.Common.{◌≡◌, ◌++◌, map, length}
use Rattle.gix_ref_edit.specs.Splits as spec
use Rattle.gix_ref_edit.proofs.splits.hops.Given as goal

abbrev pub invariant-loop-edit : goal.invariant-loop-edit
invariant-loop-edit g l =
    let read = g.F.FindTarget.targets l.finder in
    (g.F.FindTarget.is_honest l.finder → l.found.items ++ spec.hops read l.rest ≡ spec.hops read l.edits)
    × (g.F.FindTarget.is_honest l.finder
    → l.marks.items ++ map (spec.leads_on read) l.rest ≡ l.fn.marks.items ++ map (spec.leads_on read) l.edits)

abbrev pub decreases-loop-edit : goal.decreases-loop-edit
decreases-loop-edit g l = length l.rest
