use Rattle.std.proofs.Common.{◌∙◌, ap, sym}
use Rattle.gix_object_message.specs.Lines.{lines_of}
use Rattle.gix_object_message.specs.Paragraphs.{begins_empty}
use Rattle.gix_object_message.proofs.LineLemmas.{lines_of-nil}
use Rattle.gix_object_message.proofs.paragraph.begins_empty.Goals as goal

pub returns-in-None : goal.returns-in-None
returns-in-None c = sym (ap (λ text. begins_empty (lines_of text)) c.in-None.ensures ∙ ap begins_empty lines_of-nil)
