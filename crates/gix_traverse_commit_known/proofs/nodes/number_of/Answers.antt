use Rattle.std.proofs.Common.{◌≡◌, sym, subst}
use Rattle.gix_hash.specs.declared.object_id.ObjectId.{ObjectId}
use Rattle.gix_traverse_graph.specs.Numbered.{same_id}
use Rattle.gix_traverse_graph.specs.Order.{At}
use Rattle.gix_traverse_graph.proofs.Ids.{same_from_test}
use Rattle.gix_traverse_commit_known.proofs.NodeLemmas.{find_passes, not_among}
use Rattle.gix_traverse_commit_known.proofs.nodes.number_of.Goals as goal

pub returns-in_err-place-clause-none : goal.returns-in_err-place-clause-none
returns-in_err-place-clause-none c = rw c.from_residual.ensures (λ n a. not_among c.args.ids.now.keys n c.args.id.now (sym c.in_err-place.ensures.found) a)

pub returns-clause-found : goal.returns-clause-found
returns-clause-found c =
    let same : c.args.id.now ≡ c.in_ok-place.field-0-1.now = same_from_test c.args.id.now c.in_ok-place.field-0-1.now (find_passes (same_id c.args.id.now) c.args.ids.now.keys c.in_ok-place.field-0-1.now (sym c.in_ok-place.ensures.key)) in
    subst (λ (x : ObjectId). At c.args.ids.now.keys c.in_ok-place.place x) (sym same) c.in_ok-place.ensures.stored
