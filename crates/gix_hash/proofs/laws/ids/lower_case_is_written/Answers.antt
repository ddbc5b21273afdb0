use Rattle.gix_hash.proofs.LowerCase.{same_digits}
use Rattle.gix_hash.proofs.laws.ids.lower_case_is_written.Goals as goal

pub returns : goal.returns
returns c = same_digits
