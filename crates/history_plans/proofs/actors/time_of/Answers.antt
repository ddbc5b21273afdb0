use Rattle.std.proofs.Common.{◌∙◌}
use Rattle.history_plans.proofs.ActorTimes.{time_read}
use Rattle.history_plans.proofs.actors.time_of.Goals as goal

pub returns : goal.returns
returns c = λ sent is. time_read sent c.deref.result.now c.deref-2.result.now c.parse_time.result (c.deref.ensures.value ∙ is.seconds) (c.deref-2.ensures.value ∙ is.offset) c.parse_time.ensures
