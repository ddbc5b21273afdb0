use Rattle.std.proofs.Common.{take}
use Rattle.std.specs.List.{flat_map}
use Rattle.gix_hash.specs.Fed.{HasFed}
use Rattle.gix_hash.proofs.laws.digests.digest_of_pieces.Given as goal

abbrev pub invariant-pieces : goal.invariant-pieces
invariant-pieces l = HasFed l.hasher l.fn.kind (flat_map (λ piece. piece.now) (take l.piece-index l.pieces))
