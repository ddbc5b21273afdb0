use Rattle.std.proofs.Common.{length}
use Rattle.history_check_names.proofs.LogPieces.{LinesTaken}
use Rattle.history_check_names.proofs.log.test_piece.Given as goal

-- the lines so far spell moves
abbrev pub invariant-lines : goal.invariant-lines
invariant-lines l = LinesTaken l.kind l.piece l.rest l.before l.number

abbrev pub decreases-lines : goal.decreases-lines
decreases-lines l = length l.rest
