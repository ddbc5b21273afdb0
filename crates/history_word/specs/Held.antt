-- The part of an array that is held, and lines in it.
use Rattle.std.specs.Prelude.{◌≡◌, ℕ, ◌-◌, ◌<◌, ◌≤◌, List, length, take, drop, slice_index, IsFalse}
use Rattle.history_model.specs.Bytes.{has_byte}
use Rattle.history_model.specs.Spelling.{max_line}

-- how many bytes a buffer has room for
abbrev pub room : ℕ
room = 8_192

-- the bytes from start to end
unfoldable pub held : ℕ → ℕ → List ℕ → List ℕ
held start end bytes = take (end - start) (drop start bytes)

-- the bytes have no line feed
abbrev pub IsUnbroken : List ℕ → Type 0
IsUnbroken bytes = IsFalse (has_byte 10 bytes)

-- the bytes begin with a line of n bytes, within the limit
pub record IsLineOf (n : ℕ) (bytes : List ℕ) : Type 0 where
  pub short : n ≤ max_line
  pub within : n < length bytes
  pub ends : slice_index bytes n ≡ 10
  pub whole : IsUnbroken (take n bytes)
