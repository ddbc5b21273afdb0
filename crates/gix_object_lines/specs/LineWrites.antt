-- What writing a line leaves.
use Rattle.std.specs.Prelude.{ℕ, List, Option, Result, Ok, Err}
use Rattle.std.specs.Io.KnownBytes.{Appends, Keeps}
use Rattle.gix_hash.specs.Writes.{AppendsFewer}
use Rattle.gix_object_lines.specs.declared.write.Error.{Error}
use Rattle.gix_object_lines.specs.declared.write.Error.TheVariants.{Writer, Header, TagName, Filename}
use Rattle.gix_object_lines.specs.declared.encode.Error.TheVariants.{NewlineInHeaderValue, EmptyValue, Unspellable}

-- All of the text was written; or a beginning of it, since the writer failed; or nothing, since the
-- value has no text.
abbrev pub WritesLine : {U : Type 0} → Type 0 → Option (List ℕ) → Option (List ℕ) → List ℕ
    → Result U Error → Type 0
WritesLine IsSpellable old new text (Ok _) = IsSpellable × Appends old new text
WritesLine IsSpellable old new text (Err (Writer error)) = IsSpellable × AppendsFewer old new text
WritesLine IsSpellable old new text (Err (Header NewlineInHeaderValue)) = ⊥
WritesLine IsSpellable old new text (Err (Header EmptyValue)) = ⊥
WritesLine IsSpellable old new text (Err (Header Unspellable)) = (¬ IsSpellable) × Keeps old new
WritesLine IsSpellable old new text (Err (TagName error)) = ⊥
WritesLine IsSpellable old new text (Err (Filename error)) = ⊥
