use Rattle.std.proofs.Common.{◌∙◌}
use Rattle.bstr.specs.BStr.{bstr_bytes}
use Rattle.history_texts.proofs.CommitTexts.{none_told}
use Rattle.history_texts.proofs.commit.ids_of.Goals as goal

pub returns-in_default : goal.returns-in_default
returns-in_default c = none_told bstr_bytes c.args.kind c.args.texts.now c.loop-text.text-index _ c.loop-text-test.true (λ id formed is. c.in_default.ensures id formed (c.as_bytes.ensures ∙ is))
