-- What is kept of a field.
use Rattle.std.specs.Prelude.{◌≡◌, ℕ, ◌+◌, ◌<◌, ◌≤◌, length, take}
use Rattle.history_model.specs.Bytes.{Bytes}
use Rattle.history_model.specs.Forms.{max_title}
use Rattle.history_word.specs.declared.command.Field.{Field}
use Rattle.history_word.specs.declared.command.Field.TheVariants.{Whole, TooLong}

-- how many bytes are kept of a field over its limit: enough to judge a title
abbrev pub max_kept : ℕ
max_kept = max_title + 1

-- Of a field of this size, of which this front has come, all is kept, or the first bytes if it is
-- over its limit.
abbrev pub KeepsFront : ℕ → ℕ → Field → Bytes → Type 0
KeepsFront limit size (Whole kept) front = (size ≤ limit) × (kept.items ≡ front)
KeepsFront limit size (TooLong kept) front = (limit < size) × (kept.items ≡ take max_kept front)

-- the same of a whole field
abbrev pub Keeps : ℕ → Field → Bytes → Type 0
Keeps limit field bytes = KeepsFront limit (length bytes) field bytes
