use Rattle.std.proofs.Common.{◌∙◌}
use Rattle.history_repository.proofs.FieldLemmas.{whole_actor}
use Rattle.history_plans.proofs.ActorTimes.{actor_made}
use Rattle.history_plans.proofs.actors.actor_at.Goals as goal

pub returns : goal.returns
returns c = λ sent is good time.
    let whole = whole_actor c.args.line sent is good in
    actor_made sent _ _ c.args.time c.new.result c.new.ensures (c.into_kept.ensures ∙ whole.0) (c.into_kept-2.ensures ∙ whole.1) good time
