-- The faults of hashing a stream.
use Rattle.std.specs.Prelude.{⊤}
use Rattle.gix_hash.specs.declared.io.Error.{Error}
use Rattle.gix_hash.specs.declared.io.Error.TheVariants.{Io, Interrupted}

-- the fault is the interruption
abbrev pub IsInterrupted : Error → Type 0
IsInterrupted (Io error) = ⊥
IsInterrupted Interrupted = ⊤

-- the fault is the reader's, or of opening a file
abbrev pub IsIo : Error → Type 0
IsIo (Io error) = ⊤
IsIo Interrupted = ⊥
