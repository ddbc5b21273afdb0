use Rattle.std.proofs.Common.{◌≡◌, ℕ, List, length, replicate, false}
use Rattle.gix_hash.specs.Fed.{FedMore}
use Rattle.gix_hash.specs.Pieces.{ReadsPieces, IsLeft}
use Rattle.gix_hash.proofs.io.bytes_with_hasher.Given as goal

abbrev pub invariant-pieces : goal.invariant-pieces
invariant-pieces g l = (length l.buffer ≡ 65535) × (k : ℕ) × (bytes : List ℕ)
    × ReadsPieces g.R.Read.remaining g.P.Progress.told g.I.Interrupt.answered l.fn.read l.read l.fn.progress l.progress
    l.fn.should_interrupt l.should_interrupt l.num_bytes_from_start k (replicate k false) bytes
    × IsLeft l.num_bytes_from_start k l.bytes_left × FedMore l.fn.hasher l.hasher bytes

abbrev pub decreases-pieces : goal.decreases-pieces
decreases-pieces g l = l.bytes_left
