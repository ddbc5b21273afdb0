use Rattle.std.proofs.Common.{false}
use Rattle.history_repository.proofs.KnownLemmas.{none_known}
use Rattle.history_repository.proofs.read_objects.ReadObjects.new.Goals as goal

pub returns : goal.returns
returns c = λ r. none_known r (record { peeled = c.new.result; contents = c.new-2.result; keeps = false }) c.new.ensures.empty c.new-2.ensures
