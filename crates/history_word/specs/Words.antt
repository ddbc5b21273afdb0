-- The words that a cursor has left.
use Rattle.std.specs.Prelude.{List}
use Rattle.std.specs.Option.{option_copied}
use Rattle.history_model.specs.Bytes.{Bytes}
use Rattle.history_word.specs.Lines.{words_left}
use Rattle.history_word.specs.declared.words.Words.{Words}

abbrev pub left : Words → List Bytes
left words = words_left (option_copied words.rest)
