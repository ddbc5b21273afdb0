use Rattle.std.proofs.Common.{◌≡◌, ◌≤◌, inl, inr, sym, subst, arith}
use Rattle.gix_hash.specs.declared.object_id.ObjectId.{ObjectId}
use Rattle.gix_traverse_graph.specs.Numbered.{same_id}
use Rattle.gix_traverse_graph.specs.Order.{At}
use Rattle.gix_traverse_graph.proofs.Ids.{same_from_test}
use Rattle.gix_traverse_graph.proofs.Lists.{three}
use Rattle.gix_traverse_topo.specs.Nodes.{hidden_in}
use Rattle.gix_traverse_topo.proofs.Meeting.{not_among}
use Rattle.gix_traverse_topo.proofs.known.Known.number_of.Goals as goal
use Rattle.gix_traverse_commit_known.proofs.NodeLemmas.{find_passes}

pub returns-in_err-place-clause-none : goal.returns-in_err-place-clause-none
returns-in_err-place-clause-none c = rw c.from_residual.ensures (λ once n a. absurd (not_among c.args.self.now.ids.keys n c.args.id.now (sym c.in_err-place.ensures.found) a))

pub returns-else-is_hidden-clause-found : goal.returns-else-is_hidden-clause-found
returns-else-is_hidden-clause-found c =
    let same : c.args.id.now ≡ c.in_ok-place.field-0-1.now = same_from_test c.args.id.now c.in_ok-place.field-0-1.now (find_passes (same_id c.args.id.now) c.args.self.now.ids.keys c.in_ok-place.field-0-1.now (sym c.in_ok-place.ensures.key)) in
    let above : hidden_in c.args.self.now.nodes.items ≤ c.in_ok-place.place = elim (three c.in_ok-place.place (hidden_in c.args.self.now.nodes.items)) [
      | inl below ↦ (let t = c.is_hidden.ensures.1 below in let f = c.if-is_hidden.false in let z : ⊥ = cc in absurd z)
      | inr (inl e) ↦ omega arith
      | inr (inr more) ↦ omega arith
    ] in
    (above, subst (λ (x : ObjectId). At c.args.self.now.ids.keys c.in_ok-place.place x) (sym same) c.in_ok-place.ensures.stored)

pub returns-then-is_hidden-clause-none : goal.returns-then-is_hidden-clause-none
returns-then-is_hidden-clause-none c = λ once n a.
    let same : c.args.id.now ≡ c.in_ok-place.field-0-1.now = same_from_test c.args.id.now c.in_ok-place.field-0-1.now (find_passes (same_id c.args.id.now) c.args.self.now.ids.keys c.in_ok-place.field-0-1.now (sym c.in_ok-place.ensures.key)) in
    let here : At c.args.self.now.ids.keys c.in_ok-place.place c.args.id.now = subst (λ (x : ObjectId). At c.args.self.now.ids.keys c.in_ok-place.place x) (sym same) c.in_ok-place.ensures.stored in
    let e = once n c.in_ok-place.place c.args.id.now a here in
    let l = c.is_hidden.ensures.0 c.if-is_hidden.true in
    omega arith
