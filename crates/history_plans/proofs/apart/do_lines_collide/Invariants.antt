use Rattle.std.proofs.Common.{◌≡◌, false, take}
use Rattle.std.specs.List.{list_any}
use Rattle.history_plans.specs.Apart.{names_in, reaches}
use Rattle.history_plans.proofs.apart.do_lines_collide.Given as goal

-- none of the lines so far is below another
abbrev pub invariant-loop-line : goal.invariant-loop-line
invariant-loop-line l = list_any (reaches (names_in l.all.keys) (names_in l.made.keys)) (take l.line-index l.lines) ≡ false
