use Rattle.std.proofs.Common.{◌∙◌, subst, MatchOption, Option, Vec, ℕ}
use Rattle.std.specs.Prelude.{⊤}
use Rattle.std.specs.declared.alloc.Global.{Global}
use Rattle.gix_hash.specs.Id.{id_of}
use Rattle.history_repository.specs.Meant.{IsContentOf}
use Rattle.history_repository.proofs.ReadingFaults.{fault_told}
use Rattle.history_repository.proofs.stored.root_read.Goals as goal

pub returns-in_ok-root_in-in-Some : goal.returns-in_ok-root_in-in-Some
returns-in_ok-root_in-in-Some g c r value stands at has =
    let own = subst (λ (o : Option (Vec ℕ Global)). MatchOption o ⊤ (λ content. IsContentOf r (id_of c.args.meant.now.id) content.items)) c.in-Some.is has in
    record { value = value; stored = at; tree = c.in_ok-root_in-in-Some.ensures r (id_of c.args.meant.now.id) value stands at (c.deref.ensures.value ∙ own value at) }

pub returns-in_err-root_in-in-Some : goal.returns-in_err-root_in-in-Some
returns-in_err-root_in-in-Some g c r value stands at has =
    let own = subst (λ (o : Option (Vec ℕ Global)). MatchOption o ⊤ (λ content. IsContentOf r (id_of c.args.meant.now.id) content.items)) c.in-Some.is has in
    fault_told g.F.Files.reading_may_fail _ c.from_residual.result _ c.from_residual.ensures.1 (c.in_err-root_in-in-Some.ensures r (id_of c.args.meant.now.id) value stands at (c.deref.ensures.value ∙ own value at))
