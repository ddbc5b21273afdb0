use Rattle.std.proofs.Common.{subst, List, []}
use Rattle.std.proofs.lemmas.List.{take_all}
use Rattle.gix_hash.specs.declared.object_id.ObjectId.{ObjectId}
use Rattle.gix_hash.specs.declared.object_id.ObjectId.TheVariants.{Sha1}
use Rattle.history_repository.proofs.ReadingFaults.{fault_told}
use Rattle.history_queries.specs.Indexing.{AreToldOf}
use Rattle.history_queries.proofs.AllTold.{told_added}
use Rattle.history_queries.proofs.DifferingLemmas.{among}
use Rattle.history_queries.proofs.rows.told.Goals as goal

pub returns-in_err-told_of : goal.returns-in_err-told_of
returns-in_err-told_of g c = λ r stands read hold.
    let holds = hold _ (among c.args.ids.now c.ids.id-index (Sha1 []) c.ids-test.true) in
    fault_told g.F.Files.reading_may_fail _ c.from_residual.result _ c.from_residual.ensures.1 (c.in_err-told_of.ensures r stands read holds)

pub ids-preserved : goal.ids-preserved
ids-preserved g c = λ r stands read hold.
    let ids = c.args.ids.now in
    let told = c.in_ok-told_of.ensures r stands read (hold _ (among ids c.ids.id-index (Sha1 []) c.ids-test.true)) in
    told_added r ids c.ids.id-index (Sha1 []) c.ids-test.true c.ids.commits.items c.push.new.self.items c.in_ok-told_of.field-0 (c.ids.invariant r stands read hold) c.in_ok-push.ensures.items told.0 told.1

pub returns : goal.returns
returns g c = λ r stands read hold. subst (λ (ids : List ObjectId). AreToldOf r ids c.ids.commits.items) (take_all c.ids.id-index c.args.ids.now c.ids-test.false) (c.ids.invariant r stands read hold)
