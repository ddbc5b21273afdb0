use Rattle.std.specs.Io.KnownBytes.{Keeps}
use Rattle.gix_hash.proofs.io.read_some.Given as goal

abbrev pub invariant-tries : goal.invariant-tries
invariant-tries g l = Keeps (g.R.Read.remaining l.fn.read) (g.R.Read.remaining l.read)
