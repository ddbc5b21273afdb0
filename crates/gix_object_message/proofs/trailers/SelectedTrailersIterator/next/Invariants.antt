use Rattle.std.proofs.Common.{◌≡◌, length}
use Rattle.gix_object_message.specs.Views.{trailers_left}
use Rattle.gix_object_message.specs.Selected.{selected_left}
use Rattle.gix_object_message.proofs.trailers.SelectedTrailersIterator.next.Given as goal

abbrev pub invariant-loop-trailer : goal.invariant-loop-trailer
invariant-loop-trailer l = selected_left l.self ≡ selected_left l.fn.self

abbrev pub decreases-loop-trailer : goal.decreases-loop-trailer
decreases-loop-trailer l = length (trailers_left l.self.trailers)
