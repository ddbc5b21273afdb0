use Rattle.std.proofs.Common.{◌∙◌, ap}
use Rattle.gix_object_message.specs.White.{trim_end}
use Rattle.gix_object_message.proofs.WhiteLemmas.{trim_start_is, trim_end_is, trim_end_bare}
use Rattle.gix_object_message.proofs.white.trim.Goals as goal

pub returns-clause-value : goal.returns-clause-value
returns-clause-value c = trim_end_is _ _ c.trim_ascii_end.ensures.value ∙ ap trim_end (trim_start_is _ _ c.trim_ascii_start.ensures.value)

pub returns-clause-bare : goal.returns-clause-bare
returns-clause-bare c = trim_end_bare c.trim_ascii_start.result.now c.trim_ascii_end.result.now c.trim_ascii_end.ensures.value
