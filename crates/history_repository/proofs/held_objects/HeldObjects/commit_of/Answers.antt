use Rattle.std.proofs.Common.{◌≡◌, Option, Some, refl, subst, sym}
use Rattle.gix_hash.specs.Id.{Id, id_of}
use Rattle.gix_hash.specs.declared.object_id.ObjectId.{ObjectId}
use Rattle.history_model.specs.Objects.{StoredCommit}
use Rattle.history_model.specs.Repository.{peeled}
use Rattle.history_repository.proofs.Befores.{peels_to_commit}
use Rattle.history_repository.proofs.HeldLemmas.{peeled_commit}
use Rattle.history_repository.proofs.ReadingFaults.{fault_told}
use Rattle.history_repository.specs.HeldObjects.{commit_or}
use Rattle.history_repository.proofs.held_objects.HeldObjects.commit_of.Goals as goal

pub returns-in_err-commit : goal.returns-in_err-commit
returns-in_err-commit g c = λ r commit stands peels held. fault_told g.F.Files.reading_may_fail _ c.from_residual.result _ c.from_residual.ensures.1 (c.in_err-commit.ensures r commit stands peels held)

pub returns-in_err-read-in-Some : goal.returns-in_err-read-in-Some
returns-in_err-read-in-Some g c = λ r commit stands peels held.
    let first = c.in_ok-commit.ensures r commit stands peels held in
    let is = subst (λ (o : Option ObjectId). commit_or (id_of c.args.id) o ≡ commit) c.in-Some.is first.0 in
    let value = peels_to_commit r stands.whole.whole.store (id_of c.args.id) commit peels in
    let own = subst (λ (i : Id). peeled r i ≡ Some i) (sym is) (peeled_commit r commit (StoredCommit value.0) value.1 refl) in
    fault_told g.F.Files.reading_may_fail _ c.from_residual-in_err-read-in-Some.result _ c.from_residual-in_err-read-in-Some.ensures.1 (c.in_err-read-in-Some.ensures r (id_of c.in-Some.commit) stands own first.1)

pub returns-in_ok-read-in-Some : goal.returns-in_ok-read-in-Some
returns-in_ok-read-in-Some g c = λ r commit stands peels held.
    let first = c.in_ok-commit.ensures r commit stands peels held in
    let is = subst (λ (o : Option ObjectId). commit_or (id_of c.args.id) o ≡ commit) c.in-Some.is first.0 in
    let value = peels_to_commit r stands.whole.whole.store (id_of c.args.id) commit peels in
    let own = subst (λ (i : Id). peeled r i ≡ Some i) (sym is) (peeled_commit r commit (StoredCommit value.0) value.1 refl) in
    (is, (c.in_ok-read-in-Some.ensures r (id_of c.in-Some.commit) stands own first.1).1)

pub returns-in-None : goal.returns-in-None
returns-in-None g c = λ r commit stands peels held.
    let first = c.in_ok-commit.ensures r commit stands peels held in
    (subst (λ (o : Option ObjectId). commit_or (id_of c.args.id) o ≡ commit) c.in-None.is first.0, first.1)
