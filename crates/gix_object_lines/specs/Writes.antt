-- What writing a value leaves.
use Rattle.std.specs.Prelude.{ℕ, ◌≡◌, List, Option, None, Some, Result, Ok, Err}
use Rattle.std.specs.Option.{option_map}
use Rattle.std.specs.Io.KnownBytes.{Appends}
use Rattle.gix_hash.specs.Writes.{AppendsFewer}
use Rattle.gix_object_lines.specs.declared.write.Error.{Error}
use Rattle.gix_object_lines.specs.declared.write.Error.TheVariants.{Writer, Header, TagName, Filename}

-- a part of a value that the format never writes: the parts before it, and why it is refused
pub record Refusal : Type 0 where
  pub before : List ℕ
  pub cause : Error

-- what of a value is to be written: all, or the parts before the refused one
abbrev pub writable : List ℕ → Option Refusal → List ℕ
writable text None = text
writable text (Some refusal) = refusal.before

abbrev pub cause_of : Option Refusal → Option Error
cause_of refusal = option_map (λ r. r.cause) refusal

-- the value was refused for this cause, and all that is to be written was
abbrev pub IsRefused : Option (List ℕ) → Option (List ℕ) → List ℕ → Option Refusal → Error → Type 0
IsRefused old new text refusal cause =
    (cause_of refusal ≡ Some cause) × Appends old new (writable text refusal)

-- what was written, by the call's result
abbrev pub Writes : {U : Type 0} → Option (List ℕ) → Option (List ℕ) → List ℕ → Option Refusal
    → Result U Error → Type 0
Writes old new text refusal (Ok _) = (cause_of refusal ≡ None) × Appends old new text
Writes old new text refusal (Err (Writer error)) = AppendsFewer old new (writable text refusal)
Writes old new text refusal (Err (Header error)) = IsRefused old new text refusal (Header error)
Writes old new text refusal (Err (TagName error)) = IsRefused old new text refusal (TagName error)
Writes old new text refusal (Err (Filename error)) = IsRefused old new text refusal (Filename error)
