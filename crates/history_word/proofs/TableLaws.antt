-- What the table of lines says of the commands that are offered, and of all; and lemmas for a
-- reader that follows the table.
use Rattle.std.proofs.Common.{◌≡◌, Bool, true, false, ◌&&◌, refl, subst}
use Rattle.history_model.specs.Spelling.{has_spelling}
use Rattle.history_model.specs.Stage.{opens}
use Rattle.history_model.specs.Grammar.{is_command}
use Rattle.history_model.specs.laws.Grammars.{RestBeginsOrHasCause}
use Rattle.history_word.specs.TableRuns.{all_lines, TableTellsStops}
use Rattle.history_word.proofs.TableRests as rests
use Rattle.history_word.proofs.TableStops as stops
pub use Rattle.history_word.proofs.TableLines.{words_are_headings, expect_told, expect_reads, target_reads, heading_told, heading_reads, number_decimal, decimal_number}
pub use Rattle.history_word.proofs.TableRunLemmas.{LineStep, line_step, line_goes, field_step, field_goes, run_append, parts_fit}
pub use Rattle.history_word.proofs.TableReaches.{run_on, step_on, step_of}
pub use Rattle.history_word.proofs.TableRests.{line_words, line_words_of, heading_words, some_words, text_on}

pub table_tells_stops : TableTellsStops opens
table_tells_stops = stops.table_tells_stops opens refl

pub offered_begins_or_has_cause : RestBeginsOrHasCause is_command
offered_begins_or_has_cause = rests.rest_begins_or_has_cause opens refl

and_all : (b : Bool) → (b && true) ≡ b
and_all true = refl
and_all false = refl

pub rest_begins_or_has_cause : RestBeginsOrHasCause has_spelling
rest_begins_or_has_cause = subst RestBeginsOrHasCause (λ i command. and_all (has_spelling command) i) (rests.rest_begins_or_has_cause all_lines refl)
