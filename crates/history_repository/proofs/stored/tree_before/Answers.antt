use Rattle.std.proofs.Common.{◌≡◌, ◌∙◌, ap, sym, subst, List, map}
use Rattle.std.specs.Prelude.{Some}
use Rattle.std.specs.List.{AllByRecursion}
use Rattle.std.specs.FinMap.{get}
use Rattle.gix_hash.specs.Id.{Id, id_of}
use Rattle.history_model.specs.FileMap.{FileMap}
use Rattle.history_model.specs.Objects.{StoredCommit, StoredFolder}
use Rattle.history_model.specs.Repository.{HoldsCommit}
use Rattle.history_repository.specs.Meant.{HasRoot, peeled_id}
use Rattle.history_repository.specs.TreesBefore.{IsTreeBefore}
use Rattle.history_repository.specs.declared.stored.PeeledCommit.{PeeledCommit}
use Rattle.history_repository.proofs.Befores.{first_of, held_commit, held_files, held_root}
use Rattle.history_repository.proofs.ReadingFaults.{fault_told}
use Rattle.history_repository.proofs.stored.tree_before.Goals as goal

pub returns-in_err-commit-in-Some : goal.returns-in_err-commit-in-Some
returns-in_err-commit-in-Some g c = λ r h all rooted known.
    let first = first_of c.args.parents.now c.first.result c.in-Some.commit c.in-Some.is c.first.ensures.value in
    let holds = (subst (λ (parents : List PeeledCommit). AllByRecursion (HoldsCommit r) (map peeled_id parents)) first.1 all).0 in
    let has = (subst (λ (parents : List PeeledCommit). AllByRecursion (HasRoot r) parents) first.1 rooted).0 in
    fault_told g.F.Files.reading_may_fail _ c.from_residual.result _ c.from_residual.ensures.1 (c.in_err-commit-in-Some.ensures r h holds has known)

pub returns-in_err-root_peeled-in-Some : goal.returns-in_err-root_peeled-in-Some
returns-in_err-root_peeled-in-Some g c = λ r h all rooted known.
    let first = first_of c.args.parents.now c.first.result c.in-Some.commit c.in-Some.is c.first.ensures.value in
    let holds = (subst (λ (parents : List PeeledCommit). AllByRecursion (HoldsCommit r) (map peeled_id parents)) first.1 all).0 in
    let has = (subst (λ (parents : List PeeledCommit). AllByRecursion (HasRoot r) parents) first.1 rooted).0 in
    let is = (c.in_ok-commit-in-Some.ensures r h holds has known).0 in
    let held = held_commit r h.whole.whole.store (peeled_id (c.in-Some.commit).now) holds in
    fault_told g.F.Files.reading_may_fail _ c.from_residual-in_err-root_peeled-in-Some.result _ c.from_residual-in_err-root_peeled-in-Some.ensures.1 (c.in_err-root_peeled-in-Some.ensures r held.0 h (ap (get r.objects) is.0 ∙ held.1) is.1)

pub returns-in_ok-root_peeled-in-Some : goal.returns-in_ok-root_peeled-in-Some
returns-in_ok-root_peeled-in-Some g c = λ r h all rooted known.
    let first = first_of c.args.parents.now c.first.result c.in-Some.commit c.in-Some.is c.first.ensures.value in
    let id = peeled_id (c.in-Some.commit).now in
    let holds = (subst (λ (parents : List PeeledCommit). AllByRecursion (HoldsCommit r) (map peeled_id parents)) first.1 all).0 in
    let has = (subst (λ (parents : List PeeledCommit). AllByRecursion (HasRoot r) parents) first.1 rooted).0 in
    let read = c.in_ok-commit-in-Some.ensures r h holds has known in
    let held = held_commit r h.whole.whole.store id holds in
    let root = c.in_ok-root_peeled-in-Some.ensures r held.0 h (ap (get r.objects) read.0.0 ∙ held.1) read.0.1 in
    let folder = held_root r h.whole.whole.store id holds c.in_ok-root_peeled-in-Some.field-0 root in (
      subst (λ (parents : List PeeledCommit). IsTreeBefore r (map peeled_id parents) (Some c.in_ok-root_peeled-in-Some.field-0)) (sym first.1)
          (subst (λ (files : FileMap). get r.objects (id_of c.in_ok-root_peeled-in-Some.field-0) ≡ Some (StoredFolder files)) (sym (held_files r h.whole.whole.store id holds)) folder),
      read.1,
    )
