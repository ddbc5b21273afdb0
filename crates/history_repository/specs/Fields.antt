-- What is kept of a field.
use Rattle.history_model.specs.Bytes.{Bytes}
use Rattle.history_word.specs.declared.command.Field.{Field}
use Rattle.history_word.specs.declared.command.Field.TheVariants.{Whole, TooLong}

abbrev pub kept_bytes : Field → Bytes
kept_bytes (Whole bytes) = bytes.items
kept_bytes (TooLong bytes) = bytes.items
