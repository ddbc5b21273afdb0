use Rattle.std.proofs.Common.{◌∙◌, sym, subst, Option}
use Rattle.std.specs.Prelude.{IfSome}
use Rattle.gix_hash.specs.Id.{id_of}
use Rattle.history_model.proofs.IdLemmas.{one_id}
use Rattle.history_queries.specs.Seen.{IsSeen}
use Rattle.history_queries.specs.declared.differing.Seen.{Seen}
use Rattle.history_queries.proofs.differing.see_next.Goals as goal

pub returns-then-eq : goal.returns-then-eq
returns-then-eq g c = λ r paths s read holds seen trees.
    let is = subst (λ (o : Option Seen). IfSome o (IsSeen r paths)) c.in-Some.is seen in
    ((one_id (id_of c.in-Some.seen.id) (id_of c.args.id.now) (sym c.eq.ensures ∙ c.if-eq.true), is), trees)

pub returns : goal.returns
returns g c = λ r paths s read holds seen trees. c.see.ensures r paths s read holds trees
