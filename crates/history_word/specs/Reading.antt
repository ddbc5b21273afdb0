-- What a reader of a part of a command returns.
use Rattle.std.specs.Prelude.{◌≡◌, ℕ, Bool, true, ◌⊎◌, Option, List, Result, Ok, Err}
use Rattle.std.specs.Io.KnownBytes.{IsAtEnd}
use Rattle.history_model.specs.declared.Cause.{Cause}
use Rattle.history_model.specs.declared.Cause.TheVariants.{Truncated}
use Rattle.history_word.specs.declared.buffer.Buffer.{Buffer}
use Rattle.history_word.specs.declared.reader.Stop.{Stop}
use Rattle.history_word.specs.declared.reader.Stop.TheVariants as stop
use Rattle.history_word.specs.Taking.{Took, Came, IsLast}

-- Refused: all that has come is bad for this cause, and the source is at its end if it is cut
-- short. Broken: the source has failed, and what has come is cut short; or the last reading was
-- made.
abbrev pub Stops : {S : Type 0} → (S → Option (List ℕ)) → (S → Bool) → (S → ℕ) → S → Buffer → S
    → Buffer → (List ℕ → Cause → Type 0) → Stop → Type 0
Stops left has_failed readings s b t c Bad (stop.Refused cause) =
    (bytes : List ℕ) × Came left readings s b t c bytes × Bad bytes cause
    × (cause ≡ Truncated → IsAtEnd (left t))
Stops left has_failed readings s b t c Bad stop.Broken =
    (bytes : List ℕ) × Came left readings s b t c bytes
    × (((has_failed t ≡ true) × Bad bytes Truncated) ⊎ IsLast c)

-- A reader took exactly the bytes of its value, or says why not.
abbrev pub Reads : {S V : Type 0} → (S → Option (List ℕ)) → (S → Bool) → (S → ℕ) → S → Buffer → S
    → Buffer → (V → List ℕ → Type 0) → (List ℕ → Cause → Type 0) → Result V Stop → Type 0
Reads left has_failed readings s b t c Spells Bad (Ok value) =
    (taken : List ℕ) × Took left readings s b t c taken × Spells value taken
Reads left has_failed readings s b t c Spells Bad (Err stop) =
    Stops left has_failed readings s b t c Bad stop
