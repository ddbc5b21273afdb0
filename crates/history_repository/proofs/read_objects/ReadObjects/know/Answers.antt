use Rattle.std.proofs.Common.{refl}
use Rattle.history_repository.proofs.KnownLemmas.{one_known}
use Rattle.history_repository.proofs.read_objects.ReadObjects.know.Goals as goal

pub returns : goal.returns
returns c = λ r are is. one_known r c.args.self.now (record c.args.self.now { peeled = c.insert.new.self }) c.args.id c.args.commit c.in_ok-insert.ensures.updates refl is are
