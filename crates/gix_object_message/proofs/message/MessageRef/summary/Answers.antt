use Rattle.std.proofs.Common.{◌∙◌, ap, sym, arith}
use Rattle.std.specs.Prelude.{slice_index}
use Rattle.std.proofs.lemmas.Bool.Decides.{Decides-eqb}
use Rattle.gix_object_message.specs.Lines.{lines_of}
use Rattle.gix_object_message.specs.White.{trim}
use Rattle.gix_object_message.proofs.SummaryLemmas.{joined, joined_one}
use Rattle.gix_object_message.proofs.message.MessageRef.summary.Goals as goal

pub returns-in-None-clause-line : goal.returns-in-None-clause-line
returns-in-None-clause-line c =
    let title = c.trim-title.result.now in
    sym (joined_one title (λ k low is. c.in-None.ensures k (omega arith) low ((Decides-eqb (slice_index title k) 10).1 is)) c.trim-title.ensures.bare)
    ∙ ap (λ t. joined (lines_of t)) (c.trim-title.ensures.value ∙ ap trim c.as_bytes.ensures)
