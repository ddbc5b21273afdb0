-- What an action writes if it is done.
use Rattle.std.specs.Prelude.{◌≡◌, Bool, true, Option, Result, Ok, Err, codes}
use Rattle.std.specs.Io.KnownBytes.{Appends}
use Rattle.gix_hash.specs.Writes.{AppendsFewer}
use Rattle.history_model.specs.Bytes.{Bytes, line}
use Rattle.history_actions.specs.declared.failure.Failure.{Failure}
use Rattle.history_actions.specs.declared.failure.Failure.TheVariants.{NotEmpty, Unopened, File, Memory, Read, Write, Ended}

abbrev pub created : Bytes
created = line (codes "created")

abbrev pub whole : Bytes
whole = line (codes "whole")

abbrev pub recovered : Bytes
recovered = line (codes "recovered")

-- The writer has taken this if the action is done, a beginning of it if the writer failed, and else
-- nothing.
abbrev pub Says : {W T : Type 0} → (W → Option Bytes) → (W → Bool) → W → W → Bytes
    → Result T Failure → Type 0
Says contents has_failed old new text (Ok done) = Appends (contents old) (contents new) text
Says contents has_failed old new text (Err Write) =
    (has_failed new ≡ true) × AppendsFewer (contents old) (contents new) text
Says contents has_failed old new text (Err (NotEmpty path)) = new ≡ old
Says contents has_failed old new text (Err (Unopened cause)) = new ≡ old
Says contents has_failed old new text (Err File) = new ≡ old
Says contents has_failed old new text (Err Memory) = new ≡ old
Says contents has_failed old new text (Err Read) = new ≡ old
Says contents has_failed old new text (Err (Ended end)) = new ≡ old
