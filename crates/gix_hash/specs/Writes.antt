-- What a write that failed leaves.
use Rattle.std.specs.Prelude.{ℕ, ◌<◌, List, length, take, Option}
use Rattle.std.specs.Io.KnownBytes.{Appends}

-- the first of the bytes were written, fewer than all
abbrev pub AppendsFewer : Option (List ℕ) → Option (List ℕ) → List ℕ → Type 0
AppendsFewer old new bytes =
    (count : ℕ) × (count < length bytes) × Appends old new (take count bytes)
