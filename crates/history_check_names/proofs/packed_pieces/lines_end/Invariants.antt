use Rattle.std.proofs.Common.{◌-◌}
use Rattle.gix_ref_file.specs.Tree.{bytes_at}
use Rattle.history_model.specs.Places.{packed_place}
use Rattle.history_check_names.proofs.LongLines.{IsSearchedTo}
use Rattle.history_check_names.proofs.packed_pieces.lines_end.Given as goal

-- some line ends within each piece so far
abbrev pub invariant-pieces : goal.invariant-pieces
invariant-pieces g l = IsSearchedTo (g.F.Files.is_honest l.fn.files) (bytes_at (g.F.Files.history l.fn.files).tree packed_place) l.len l.at l.in_header

abbrev pub decreases-pieces : goal.decreases-pieces
decreases-pieces g l = l.len - l.at
