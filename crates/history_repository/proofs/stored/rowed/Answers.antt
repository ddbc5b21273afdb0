use Rattle.std.proofs.Common.{◌≡◌, ◌∙◌, ap, refl, sym, subst, Contains, IfSome, Option, option_map}
use Rattle.std.specs.Borrow.{Bor}
use Rattle.std.specs.FinMap.{get}
use Rattle.gix_hash.specs.Id.{id_of}
use Rattle.gix_traverse_commit_known.specs.Told.{rows_of as graph_rows}
use Rattle.gix_traverse_graph.specs.declared.rows.Row.{Row}
use Rattle.history_model.specs.Objects.{StoredCommit}
use Rattle.history_repository.specs.Face.{rows_in}
use Rattle.history_repository.proofs.HeldLemmas.{peeled_commit}
use Rattle.history_repository.proofs.stored.rowed.Goals as goal

pub returns : goal.returns
returns g c = λ r stands.
    let kept = ap (option_map (λ rows. rows.now)) (sym c.in_ok-rows.was) ∙ c.rows.ensures in
    let among = subst (λ rows. IfSome c.commit_by_id.result (λ row. Contains (graph_rows rows) row.now × (row.now.id ≡ c.args.id))) kept c.commit_by_id.ensures.found in
    let found = subst (λ (o : Option (Bor Row)). IfSome o (λ row. Contains (graph_rows (rows_in c.args.repository.now)) row.now × (row.now.id ≡ c.args.id))) c.in_ok-row.was among in
    let told = stands.rows.told c.in_ok-row.row.now found.0 in
    let at = ap (λ id. get r.objects (id_of id)) (sym found.1) ∙ told.stored in
    record {
      peels = sym (peeled_commit r (id_of c.args.id) (StoredCommit told.commit) at refl);
      rooted = record { value = told.commit; stored = at; tree = told.tree };
    }
