use Rattle.std.proofs.Common.{◌≡◌, ◌-◌, length, drop}
use Rattle.std.specs.List.{position_from}
use Rattle.gix_object_commit.specs.Headers.{is_named}
use Rattle.gix_object_commit.specs.HeaderViews.{headers_of}
use Rattle.gix_object_commit.proofs.extra_headers.ExtraHeaders.find_pos.Given as goal

abbrev pub invariant-loop-header : goal.invariant-loop-header
invariant-loop-header l = position_from (is_named l.fn.name) l.place (drop l.place (headers_of l.fn.self)) ≡ position_from (is_named l.fn.name) 0 (headers_of l.fn.self)

abbrev pub decreases-loop-header : goal.decreases-loop-header
decreases-loop-header l = length (headers_of l.fn.self) - l.place
