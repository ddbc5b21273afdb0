use Rattle.std.proofs.Common.{◌≡◌, ◌+◌, length, take, map}
use Rattle.gix_object_commit.specs.LineViews.{field_of}
use Rattle.gix_object_commit.specs.Writing.{field_piece}
use Rattle.gix_object_lines.specs.Pieces.{pieces_text}
use Rattle.gix_object_commit.proofs.commit.write.add_header_lines.Given as goal

abbrev pub invariant-loop-header : goal.invariant-loop-header
invariant-loop-header l = l.total ≡ l.before + length (pieces_text (map field_piece (map field_of (take l.header-index l.headers))))
