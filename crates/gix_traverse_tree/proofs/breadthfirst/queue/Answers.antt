use Rattle.std.proofs.Common.{[], ◌∷◌, ap}
use Rattle.gix_hash.specs.Id.{Id}
use Rattle.gix_traverse_tree.proofs.breadthfirst.queue.Goals as goal

pub returns-clause-queued : goal.returns-clause-queued
returns-clause-queued g c = (c.from.result ∷ [], ap (λ (id : Id). id ∷ []) c.from.ensures, c.in_ok-push.ensures.items)
