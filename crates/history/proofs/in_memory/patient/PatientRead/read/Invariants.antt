-- The buffer keeps its length, and an interrupted reading consumes nothing.
use Rattle.std.proofs.Common.{◌≡◌, length}
use Rattle.std.specs.Io.KnownBytes.{Keeps}
use Rattle.history.proofs.in_memory.patient.PatientRead.read.Given as goal

abbrev pub invariant-loop : goal.invariant-loop
invariant-loop g l = (length l.buf ≡ length l.initial.buf) × Keeps (g.T.Read.remaining l.initial.self.inner) (g.T.Read.remaining l.self.inner)
