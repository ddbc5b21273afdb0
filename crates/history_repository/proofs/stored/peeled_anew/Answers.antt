use Rattle.std.proofs.Common.{IfSome, Option, Some, sym, subst}
use Rattle.gix_hash.specs.Id.{id_of}
use Rattle.history_repository.specs.Meant.{IsMeantBy, IsPeeledBy}
use Rattle.history_repository.specs.declared.stored.PeeledCommit.{PeeledCommit}
use Rattle.history_repository.proofs.Befores.{peels_to_commit}
use Rattle.history_repository.proofs.ReadingFaults.{fault_told}
use Rattle.history_repository.proofs.stored.peeled_anew.Goals as goal

pub returns-in-Some : goal.returns-in-Some
returns-in-Some g c r value stands at known =
    (subst (λ (o : Option PeeledCommit). IfSome o (λ commit. IsPeeledBy r (id_of c.args.id) (Some commit))) c.in-Some.is (c.rowed.ensures r stands), known)

pub returns-in_err-meant : goal.returns-in_err-meant
returns-in_err-meant g c r value stands at known =
    fault_told g.F.Files.reading_may_fail _ c.from_residual.result _ c.from_residual.ensures.1 (c.in_err-meant.ensures r value stands at)

pub returns-in_default-2 : goal.returns-in_default-2
returns-in_default-2 g c r value stands at known =
    (record { peels = sym (subst (IsMeantBy r (id_of c.args.id)) c.in_default-2.is (c.in_ok-meant.ensures r value stands at)); rooted = tt }, known)

pub returns-in_err-root : goal.returns-in_err-root
returns-in_err-root g c r value stands at known =
    let is = subst (IsMeantBy r (id_of c.args.id)) c.in-Some-2.is (c.in_ok-meant.ensures r value stands at) in
    let stored = peels_to_commit r stands.whole.whole.store (id_of c.args.id) (id_of c.in-Some-2.meant.id) is.0 in
    fault_told g.F.Files.reading_may_fail _ c.from_residual-in_err-root.result _ c.from_residual-in_err-root.ensures.1 (c.in_err-root.ensures r stored.0 stands stored.1 is.1)

pub returns : goal.returns
returns g c r value stands at known =
    let is = subst (IsMeantBy r (id_of c.args.id)) c.in-Some-2.is (c.in_ok-meant.ensures r value stands at) in
    let stored = peels_to_commit r stands.whole.whole.store (id_of c.args.id) (id_of c.in-Some-2.meant.id) is.0 in
    (record { peels = sym is.0; rooted = c.in_ok-root.ensures r stored.0 stands stored.1 is.1 }, c.in_ok-keep.ensures r stored.0 known stored.1 is.1)
