use Rattle.std.proofs.Common.{◌≤◌, ◌-◌, length, take}
use Rattle.std.specs.Io.KnownBytes.{Appends}
use Rattle.gix_hash.proofs.write.write_bytes.Given as goal

abbrev pub invariant-writes : goal.invariant-writes
invariant-writes g l = (l.count ≤ length l.bytes) × Appends (g.W.Write.contents l.fn.out) (g.W.Write.contents l.out) (take l.count l.bytes)

abbrev pub decreases-writes : goal.decreases-writes
decreases-writes g l = length l.bytes - l.count
