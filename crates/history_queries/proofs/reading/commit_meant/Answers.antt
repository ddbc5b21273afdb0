use Rattle.std.proofs.Common.{◌∙◌, subst, MatchOption, Option, Vec, ℕ}
use Rattle.std.specs.Prelude.{⊤}
use Rattle.std.specs.declared.alloc.Global.{Global}
use Rattle.gix_hash.specs.Id.{id_of}
use Rattle.history_repository.specs.Meant.{IsContentOf}
use Rattle.history_queries.proofs.reading.commit_meant.Goals as goal

pub returns-in-Some : goal.returns-in-Some
returns-in-Some g c r value stands at has =
    let own = subst (λ (o : Option (Vec ℕ Global)). MatchOption o ⊤ (λ content. IsContentOf r (id_of c.args.meant.now.id) content.items)) c.in-Some.is has in
    c.commit_in.ensures r (id_of c.args.meant.now.id) value stands at (c.deref.ensures.value ∙ own value at)

pub returns-in-None : goal.returns-in-None
returns-in-None g c r value stands at has = c.read_commit.ensures r value stands at
