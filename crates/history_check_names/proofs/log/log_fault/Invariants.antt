use Rattle.std.proofs.Common.{◌-◌}
use Rattle.gix_ref_file.specs.Tree.{bytes_at}
use Rattle.history_check_names.proofs.LogPieces.{IsReadTo}
use Rattle.history_check_names.proofs.log.log_fault.Given as goal

-- the lines so far spell moves
abbrev pub invariant-pieces : goal.invariant-pieces
invariant-pieces g l = IsReadTo (g.F.Files.is_honest l.fn.files) l.kind (bytes_at (g.F.Files.history l.fn.files).tree l.path) l.len l.at l.lines

abbrev pub decreases-pieces : goal.decreases-pieces
decreases-pieces g l = l.len - l.at
