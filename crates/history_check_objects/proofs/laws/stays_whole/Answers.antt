use Rattle.history_check_objects.proofs.Joins.{whole_on}
use Rattle.history_check_objects.proofs.laws.stays_whole.Goals as goal

pub returns : goal.returns
returns c = whole_on
