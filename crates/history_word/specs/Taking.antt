-- What a call takes from a source through a buffer.
use Rattle.std.specs.Prelude.{◌≡◌, ◌⊎◌, ℕ, ◌+◌, ◌-◌, ◌^◌, ◌≤◌, ◌<◌, min, Option, List, ◌++◌, length}
use Rattle.std.specs.Io.KnownBytes.{Consumes}
use Rattle.history_word.specs.declared.buffer.Buffer.{Buffer}
use Rattle.history_word.specs.Buffer.{unread, readings_made, work}

-- each reading made between two buffers gave a byte of these, except the last that a `u64` counts
abbrev pub Gave : Buffer → Buffer → ℕ → List ℕ → Type 0
Gave b c made more =
    (made ≤ length more)
    ⊎ ((readings_made b < 2 ^ 64 - 1) × (2 ^ 64 - 1 ≤ readings_made c) × (made ≤ length more + 1))

-- From source s and buffer b to source t and buffer c, exactly these bytes were taken.
pub record Took {S : Type 0} (left : S → Option (List ℕ)) (readings : S → ℕ) (s : S) (b : Buffer)
    (t : S) (c : Buffer) (taken : List ℕ) : Type 0 where
  -- what the source gave meanwhile
  pub more : List ℕ
  pub came : Consumes (left s) (left t) more
  pub same : unread b ++ more ≡ taken ++ unread c
  pub less_work : work c + length taken ≤ work b
  -- how many counted readings were made meanwhile
  pub made : ℕ
  pub made_through : readings_made c ≡ readings_made b + made
  pub counted : min (readings s + made) (2 ^ 64 - 1) ≤ readings t
  pub gave : Gave b c made more

-- From source s and buffer b to source t and buffer c, these bytes came, and no more.
pub record Came {S : Type 0} (left : S → Option (List ℕ)) (readings : S → ℕ) (s : S) (b : Buffer)
    (t : S) (c : Buffer) (bytes : List ℕ) : Type 0 where
  pub more : List ℕ
  pub came : Consumes (left s) (left t) more
  pub same : unread b ++ more ≡ bytes
  pub made : ℕ
  pub made_through : readings_made c ≡ readings_made b + made
  pub counted : min (readings s + made) (2 ^ 64 - 1) ≤ readings t
  pub gave : Gave b c made more

-- If what was taken was in the buffer already, the source wasn't called. Otherwise nothing is said
-- of how often it was.
abbrev pub AsksForMore : {S : Type 0} → S → Buffer → S → List ℕ → Type 0
AsksForMore s b t taken = length taken ≤ length (unread b) → t ≡ s

-- the last reading that a `u64` counts was made through the buffer, and each before it gave a byte
abbrev pub IsLast : Buffer → Type 0
IsLast c = readings_made c ≡ 2 ^ 64 - 1
