use Rattle.std.proofs.Common.{◌≡◌, ◌∙◌, ap, sym, subst, MatchOption, Option}
use Rattle.std.specs.Prelude.{⊤}
use Rattle.std.proofs.lemmas.Option.{same_Some}
use Rattle.gix_hash.specs.declared.object_id.ObjectId.{ObjectId}
use Rattle.history_model.specs.Objects.{CommitValue, StoredCommit, folder_id}
use Rattle.history_repository.specs.Meant.{IsRootOf, peeled_id}
use Rattle.history_repository.proofs.stored.root_peeled.Goals as goal

same_commit : {a b : CommitValue} → StoredCommit a ≡ StoredCommit b → a ≡ b
same_commit e = cc

pub returns-in-Some : goal.returns-in-Some
returns-in-Some g c r value stands at has =
    let is = subst (λ (o : Option ObjectId). MatchOption o ⊤ (IsRootOf r (peeled_id c.args.commit.now))) c.in-Some.is has in
    is.tree ∙ ap (λ (commit : CommitValue). folder_id r.kind commit.files) (same_commit (same_Some (StoredCommit is.value) (StoredCommit value) (sym is.stored ∙ at)))

pub returns-in-None : goal.returns-in-None
returns-in-None g c r value stands at has = c.root_of.ensures r value stands at
