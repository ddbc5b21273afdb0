use Rattle.std.proofs.Common.{◌≡◌}
use Rattle.std.specs.Io.KnownBytes.{Keeps}
use Rattle.gix_hash.proofs.io.write_some.Given as goal

abbrev pub invariant-tries : goal.invariant-tries
invariant-tries g l = Keeps (g.T.Write.contents l.fn.writer.inner) (g.T.Write.contents l.writer.inner) × (l.writer.hash ≡ l.fn.writer.hash)
