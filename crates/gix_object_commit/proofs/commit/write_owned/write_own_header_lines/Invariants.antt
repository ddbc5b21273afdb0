use Rattle.std.proofs.Common.{take, map, Ok}
use Rattle.gix_object_commit.specs.OwnedText.{own_field}
use Rattle.gix_object_commit.specs.Writing.{field_piece}
use Rattle.gix_object_lines.specs.Pieces.{WritesPieces}
use Rattle.gix_object_commit.proofs.commit.write_owned.write_own_header_lines.Given as goal

abbrev pub invariant-loop-header : goal.invariant-loop-header
invariant-loop-header g l = WritesPieces {U = Unit {0}} (g.W.Write.contents l.fn.out) (g.W.Write.contents l.out) (map field_piece (map own_field (take l.header-index l.headers))) (Ok tt)
