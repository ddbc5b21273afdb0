-- The words of the grammar, of the commands that are offered.
use Rattle.std.specs.Prelude.{List}
use Rattle.history_model.specs.Bytes.{Bytes}
use Rattle.history_model.specs.Grammar.{LineStandsOf, LineFitsOf, StopsByOf, is_command}
use Rattle.history_model.specs.Spelling.{Part}
use Rattle.history_model.specs.declared.Cause.{Cause}

abbrev pub LineStands : List Part → Type 0
LineStands = LineStandsOf is_command

abbrev pub LineFits : List Part → Bytes → Type 0
LineFits = LineFitsOf is_command

abbrev pub StopsBy : List Part → Bytes → Cause → Type 0
StopsBy = StopsByOf is_command
