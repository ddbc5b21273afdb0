use Rattle.std.specs.Io.KnownBytes.{Keeps}
use Rattle.gix_object_write.proofs.stream.read_some.Given as goal

abbrev pub invariant-tries : goal.invariant-tries
invariant-tries g l = Keeps (g.R.Read.remaining l.fn.from) (g.R.Read.remaining l.from)
