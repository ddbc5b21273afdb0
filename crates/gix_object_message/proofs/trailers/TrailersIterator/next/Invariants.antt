use Rattle.std.proofs.Common.{◌≡◌, length}
use Rattle.gix_object_message.specs.Views.{trailers_left}
use Rattle.gix_object_message.proofs.trailers.TrailersIterator.next.Given as goal

abbrev pub invariant-loop-line : goal.invariant-loop-line
invariant-loop-line l = trailers_left l.self ≡ trailers_left l.fn.self

abbrev pub decreases-loop-line : goal.decreases-loop-line
decreases-loop-line l = length l.self.text.now
