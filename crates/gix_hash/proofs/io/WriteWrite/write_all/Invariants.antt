use Rattle.std.proofs.Common.{◌≤◌, ◌-◌, length, take}
use Rattle.std.specs.Io.KnownBytes.{Appends}
use Rattle.gix_hash.specs.Fed.{FedMore}
use Rattle.gix_hash.proofs.io.WriteWrite.write_all.Given as goal

abbrev pub invariant-writes : goal.invariant-writes
invariant-writes g l = (l.count ≤ length l.buf) × Appends (g.T.Write.contents l.fn.self.inner) (g.T.Write.contents l.self.inner) (take l.count l.buf)
    × FedMore l.fn.self.hash l.self.hash (take l.count l.buf)

abbrev pub decreases-writes : goal.decreases-writes
decreases-writes g l = length l.buf - l.count
