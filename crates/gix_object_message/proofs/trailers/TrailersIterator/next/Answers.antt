use Rattle.std.proofs.Common.{◌∙◌, ap, sym}
use Rattle.gix_object_message.specs.Trailer.{trailers_in}
use Rattle.gix_object_message.proofs.LineLemmas.{trailers_in-nil}
use Rattle.gix_object_message.proofs.trailers.TrailersIterator.next.Goals as goal

pub returns-clause-steps : goal.returns-clause-steps
returns-clause-steps c =
    let none = ap trailers_in c.in_default.ensures ∙ trailers_in-nil in
    (sym c.loop-line.invariant ∙ none, none)
