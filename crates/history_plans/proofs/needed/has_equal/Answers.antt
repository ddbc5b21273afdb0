use Rattle.std.proofs.Common.{sym}
use Rattle.history_plans.proofs.needed.has_equal.Goals as goal

pub returns-in-Some-get : goal.returns-in-Some-get
returns-in-Some-get c = λ equal.
    let other = c.in-Some-get.other.now in
    let found = c.in-Some-get.ensures.lookup.3 in
    (other, (c.in-Some.place.now, found.0, sym (found.1 other)), c.are_equal.ensures equal)
