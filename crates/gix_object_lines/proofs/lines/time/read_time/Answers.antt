use Rattle.std.proofs.Common.{◌≡◌, ap, Some, None, Option, List, ℕ}
use Rattle.std.specs.Prelude.{MatchOption}
use Rattle.gix_object_lines.specs.Time.{SpellsTime}
use Rattle.gix_object_lines.specs.declared.lines.time.Time.{Time}
use Rattle.gix_object_lines.proofs.TimeLemmas.{time_once}
use Rattle.gix_object_lines.proofs.lines.time.read_time.Goals as goal

found : (text : List ℕ) (r : Option Time) → MatchOption r ((time : Time) → ¬ SpellsTime text time) (SpellsTime text) → (time : Time) → SpellsTime text time → r ≡ Some time
found text None h time spells = absurd (h time spells)
found text (Some other) h time spells = ap Some (time_once text other time h spells)

pub returns-clause-every : goal.returns-clause-every
returns-clause-every c time spells = let some = found c.args.text.now c.parse.result c.parse.ensures time spells in cc (some, c.ok_or.ensures.value)
