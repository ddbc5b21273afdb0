-- Reading a stream in pieces: every piece but the last has 65,535 bytes.
use Rattle.std.specs.Prelude.{ℕ, zero, suc, ◌≡◌, ◌+◌, ◌-◌, ◌*◌, ◌<◌, ◌≤◌, List, [], ◌∷◌, length, replicate, min, Bool, false, Option}
use Rattle.std.specs.List.{FoldsTo}
use Rattle.std.specs.Io.KnownBytes.{Consumes}

-- the lengths of the first k pieces of n bytes
abbrev pub piece_lengths : ℕ → ℕ → List ℕ
piece_lengths n zero = []
piece_lengths n (suc k) = min 65535 n ∷ piece_lengths (n - 65535) k

-- how many bytes the first k pieces of n bytes have
abbrev pub bytes_in_pieces : ℕ → ℕ → ℕ
bytes_in_pieces n k = min n (65535 * k)

-- the progress was given the length of each of the first k pieces of n bytes, and the interruption
-- was polled after each, with these answers
pub record TellsPieces {P I : Type 0} (told : P → ℕ → P → Type 0) (answered : I → Bool → I → Type 0)
    (progress progress_after : P) (interrupt interrupt_after : I) (n k : ℕ)
    (answers : List Bool) : Type 0 where
  pub progressed : FoldsTo told progress (piece_lengths n k) progress_after
  pub asked : FoldsTo answered interrupt answers interrupt_after

-- a reader gave the first k pieces of n bytes, which are these bytes, and each was reported to the
-- progress, with a poll of the interruption after it
pub record ReadsPieces {R P I : Type 0} (remaining : R → Option (List ℕ))
    (told : P → ℕ → P → Type 0) (answered : I → Bool → I → Type 0)
    (reader reader_after : R) (progress progress_after : P) (interrupt interrupt_after : I)
    (n k : ℕ) (answers : List Bool) (bytes : List ℕ) : Type 0 where
  pub count : length bytes ≡ bytes_in_pieces n k
  pub read : Consumes (remaining reader) (remaining reader_after) bytes
  pub tells : TellsPieces told answered progress progress_after interrupt interrupt_after n k
      answers

-- a reader gave fewer than n bytes
abbrev pub GivesFewer : Option (List ℕ) → Option (List ℕ) → ℕ → Type 0
GivesFewer old new n = (bytes : List ℕ) × (length bytes < n) × Consumes old new bytes

-- a reader gave the first k pieces of n bytes, and some of the next piece but not all: these bytes.
-- The whole pieces were reported to the progress, with a poll of the interruption after each, and
-- each answer was no
pub record StopsAfterPieces {R P I : Type 0} (remaining : R → Option (List ℕ))
    (told : P → ℕ → P → Type 0) (answered : I → Bool → I → Type 0)
    (reader reader_after : R) (progress progress_after : P) (interrupt interrupt_after : I)
    (n k : ℕ) (bytes : List ℕ) : Type 0 where
  pub whole : bytes_in_pieces n k ≤ length bytes
  pub missing : length bytes < bytes_in_pieces n (suc k)
  pub read : Consumes (remaining reader) (remaining reader_after) bytes
  pub tells : TellsPieces told answered progress progress_after interrupt interrupt_after n k
      (replicate k false)

-- k pieces, and not fewer, have all n bytes
pub record IsPieceCount (n k : ℕ) : Type 0 where
  pub all : n ≤ 65535 * k
  pub needed : 65535 * k < n + 65535

-- k + 1 pieces, the last of which begins before the end of n bytes
abbrev pub HasPiece : ℕ → ℕ → Type 0
HasPiece n k = 65535 * k < n

-- so many of n bytes are left after k pieces, the last of which begins before their end
pub record IsLeft (n k left : ℕ) : Type 0 where
  pub rest : left ≡ n - 65535 * k
  pub needed : 65535 * k < n + 65535
