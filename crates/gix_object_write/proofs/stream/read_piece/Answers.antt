use Rattle.std.proofs.Common.{refl}
use Rattle.std.proofs.KnownBytes.{Consumes-nil, Consumes-kept}
use Rattle.gix_object_write.proofs.stream.read_piece.Goals as goal

pub returns-in-Err-clause-none : goal.returns-in-Err-clause-none
returns-in-Err-clause-none g c = (refl, Consumes-kept _ _ _ _ (Consumes-nil _) c.in-Err.ensures.bytes)
