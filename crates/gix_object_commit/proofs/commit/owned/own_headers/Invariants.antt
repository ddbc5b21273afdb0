use Rattle.std.proofs.Common.{map, take}
use Rattle.std.specs.List.{AllZip}
use Rattle.gix_object_commit.specs.Owned.{IsHeaderOf}
use Rattle.gix_object_commit.specs.LineViews.{field_of}
use Rattle.gix_object_commit.proofs.commit.owned.own_headers.Given as goal

abbrev pub invariant-loop-header : goal.invariant-loop-header
invariant-loop-header l = AllZip IsHeaderOf (map field_of (take l.header-index l.headers)) l.copies.items
