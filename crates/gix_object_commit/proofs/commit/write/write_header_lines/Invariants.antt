use Rattle.std.proofs.Common.{take, map, Ok}
use Rattle.gix_object_commit.specs.LineViews.{field_of}
use Rattle.gix_object_commit.specs.Writing.{field_piece}
use Rattle.gix_object_lines.specs.Pieces.{WritesPieces}
use Rattle.gix_object_commit.proofs.commit.write.write_header_lines.Given as goal

abbrev pub invariant-loop-header : goal.invariant-loop-header
invariant-loop-header g l = WritesPieces {U = Unit {0}} (g.W.Write.contents l.fn.out) (g.W.Write.contents l.out) (map field_piece (map field_of (take l.header-index l.headers))) (Ok tt)
