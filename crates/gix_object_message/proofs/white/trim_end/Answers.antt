use Rattle.gix_object_message.proofs.WhiteLemmas.{trim_end_is}
use Rattle.gix_object_message.proofs.white.trim_end.Goals as goal

pub returns : goal.returns
returns c = trim_end_is _ _ c.trim_ascii_end.ensures.value
