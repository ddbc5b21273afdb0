-- Decimal numbers as Git writes them: digits without a leading zero. The texts themselves are std's
-- `decimal`.
use Rattle.std.specs.Prelude.{ℕ, ◌^◌, ◌<◌, ◌≢◌, List, decimal}

-- the text spells no number below 2 ^ 64
abbrev pub IsNoUnsigned : List ℕ → Type 0
IsNoUnsigned text = (n : ℕ) → n < 2 ^ 64 → text ≢ decimal n
