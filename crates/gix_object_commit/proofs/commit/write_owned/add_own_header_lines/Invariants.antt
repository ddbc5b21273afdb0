use Rattle.std.proofs.Common.{◌≡◌, ◌+◌, length, take, map}
use Rattle.gix_object_commit.specs.OwnedText.{own_field}
use Rattle.gix_object_commit.specs.Writing.{field_piece}
use Rattle.gix_object_lines.specs.Pieces.{pieces_text}
use Rattle.gix_object_commit.proofs.commit.write_owned.add_own_header_lines.Given as goal

abbrev pub invariant-loop-header : goal.invariant-loop-header
invariant-loop-header l = l.total ≡ l.before + length (pieces_text (map field_piece (map own_field (take l.header-index l.headers))))
