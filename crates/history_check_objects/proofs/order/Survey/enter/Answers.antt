use Rattle.std.proofs.Common.{refl}
use Rattle.history_check_objects.proofs.Turns.{opened}
use Rattle.history_check_objects.proofs.order.Survey.enter.Goals as goal

pub returns-clause-stands : goal.returns-clause-stands
returns-clause-stands g c = λ honest ids stands.
    let due = stands.next c.args.id refl in
    let read = c.in_ok-kind.ensures.read honest ((stands.listed).formed c.args.id due.listed, (stands.listed).stand c.args.id due.listed) in
    opened c.args.kind _ ids _ _ _ _ _ c.args.id c.in_ok-push.ensures.items stands refl refl refl read.content read.object
