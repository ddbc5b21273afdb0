use Rattle.std.proofs.Common.{◌≡◌, ◌∙◌, ℕ, List, ap, subst}
use Rattle.std.specs.Prelude.{slice_get}
use Rattle.gix_hash.specs.declared.object_id.ObjectId.{ObjectId}
use Rattle.gix_traverse_commit_known.specs.Nodes.{ids_of}
use Rattle.gix_traverse_graph.specs.Order.{At}
use Rattle.gix_traverse_commit_known.proofs.NodeLemmas.{ids_again}
use Rattle.gix_traverse_commit_known.proofs.nodes.Nodes.id.Goals as goal

pub returns-clause-id : goal.returns-clause-id
returns-clause-id c =
    let same : c.self.inside.ids.keys ≡ ids_of c.args.self.now = ids_again c.self.inside.ids.keys c.self.inside.flags.items c.self.invariant.as_many ∙ ap ids_of c.self.view_is in
    c.copied.ensures ∙ c.get_index.ensures.key ∙ ap (λ (xs : List ObjectId). slice_get xs c.args.number.0) same

pub returns-clause-once : goal.returns-clause-once
returns-clause-once c =
    let same : c.self.inside.ids.keys ≡ ids_of c.args.self.now = ids_again c.self.inside.ids.keys c.self.inside.flags.items c.self.invariant.as_many ∙ ap ids_of c.self.view_is in
    subst (λ (xs : List ObjectId). (j k : ℕ) (x : ObjectId) → At xs j x → At xs k x → j ≡ k) same c.self.invariant.once
