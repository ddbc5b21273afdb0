use Rattle.history_repository.proofs.HeldKept.{one_held}
use Rattle.history_repository.proofs.held_objects.HeldObjects.hold.Goals as goal

pub returns : goal.returns
returns c = λ table held stands. one_held table c.args.self.now.objects c.insert.new.self c.args.id c.args.object c.in_ok-insert.ensures.updates stands held
