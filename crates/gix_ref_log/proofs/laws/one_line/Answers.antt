use Rattle.gix_ref_log.proofs.LogLineLemmas.{one_line}
use Rattle.gix_ref_log.proofs.laws.one_line.Goals as goal

pub returns : goal.returns
returns c = one_line
