use Rattle.std.proofs.Common.{◌≡◌, ◌-◌, length}
use Rattle.gix_object_commit.specs.HeaderViews.{fields_in, values_left}
use Rattle.gix_object_commit.proofs.extra_headers.FindAllIterator.next.Given as goal

abbrev pub invariant-loop-header : goal.invariant-loop-header
invariant-loop-header l = values_left l.self ≡ values_left l.fn.self

abbrev pub decreases-loop-header : goal.decreases-loop-header
decreases-loop-header l = length (fields_in l.self.headers) - l.self.place
