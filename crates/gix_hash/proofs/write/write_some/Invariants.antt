use Rattle.std.specs.Io.KnownBytes.{Keeps}
use Rattle.gix_hash.proofs.write.write_some.Given as goal

abbrev pub invariant-tries : goal.invariant-tries
invariant-tries g l = Keeps (g.W.Write.contents l.fn.out) (g.W.Write.contents l.out)
