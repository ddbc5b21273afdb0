use Rattle.std.proofs.Common.{◌∙◌, ap, sym}
use Rattle.history_model.specs.Forms.{title}
use Rattle.history_texts.proofs.Titles.{title_before, title_whole}
use Rattle.history_texts.proofs.written.title.Goals as goal

pub returns-in-Some : goal.returns-in-Some
returns-in-Some c = sym (ap title c.in-Some.ensures.0 ∙ title_before _ _ c.in-Some.ensures.1)

pub returns-in-None : goal.returns-in-None
returns-in-None c = sym (title_whole c.args.message.now c.in-None.ensures)
