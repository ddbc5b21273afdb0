use Rattle.std.proofs.Common.{◌∙◌, ap, sym}
use Rattle.gix_object_message.specs.Paragraphs.{begins_with_trailer, is_trailer_paragraph}
use Rattle.gix_object_message.proofs.LineLemmas.{lines_of-nil}
use Rattle.gix_object_message.proofs.paragraph.is_trailer_paragraph.Goals as goal

pub returns-in-None : goal.returns-in-None
returns-in-None c = sym (ap is_trailer_paragraph c.in-None.ensures ∙ ap begins_with_trailer lines_of-nil)
