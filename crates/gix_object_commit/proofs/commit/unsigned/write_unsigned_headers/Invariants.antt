use Rattle.std.proofs.Common.{take, Ok}
use Rattle.gix_object_lines.specs.Pieces.{WritesPieces}
use Rattle.gix_object_commit.proofs.UnsignedLines.{unsigned_lines}
use Rattle.gix_object_commit.proofs.commit.unsigned.write_unsigned_headers.Given as goal

abbrev pub invariant-loop-header : goal.invariant-loop-header
invariant-loop-header g l = WritesPieces {U = Unit {0}} (g.W.Write.contents l.fn.out) (g.W.Write.contents l.out) (unsigned_lines (take l.header-index l.headers)) (Ok tt)
