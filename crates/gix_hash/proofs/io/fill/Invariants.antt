use Rattle.std.proofs.Common.{◌≤◌, ◌-◌, length, take}
use Rattle.std.specs.Io.KnownBytes.{Consumes}
use Rattle.gix_hash.proofs.io.fill.Given as goal

abbrev pub invariant-reads : goal.invariant-reads
invariant-reads g l = (l.filled ≤ length l.piece) × Consumes (g.R.Read.remaining l.fn.read) (g.R.Read.remaining l.read) (take l.filled l.piece)

abbrev pub decreases-reads : goal.decreases-reads
decreases-reads g l = length l.piece - l.filled
