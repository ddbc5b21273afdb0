use Rattle.history_repository.proofs.HeldKept.{none_held}
use Rattle.history_repository.proofs.held_objects.HeldObjects.new.Goals as goal

pub returns : goal.returns
returns c = λ table. none_held table c.new.result c.new.ensures.empty
