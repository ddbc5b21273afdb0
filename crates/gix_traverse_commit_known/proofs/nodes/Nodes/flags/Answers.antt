use Rattle.std.proofs.Common.{◌<◌, ℕ, List, length, sym, subst, ◌∙◌, ap}
use Rattle.std.proofs.lemmas.Option.{slice_get_within}
use Rattle.gix_hash.specs.declared.object_id.ObjectId.{ObjectId}
use Rattle.gix_traverse_commit_known.specs.Nodes.{Node, flags_of}
use Rattle.gix_traverse_commit_known.specs.declared.nodes.WalkFlags.{WalkFlags}
use Rattle.gix_traverse_commit_known.proofs.NodeLemmas.{flags_at, flags_none, unmarked}
use Rattle.gix_traverse_graph.specs.Order.{At}
use Rattle.gix_traverse_graph.proofs.RowLemmas.{at_item}
use Rattle.gix_traverse_commit_known.proofs.nodes.Nodes.flags.Goals as goal

pub returns-in-None : goal.returns-in-None
returns-in-None c =
    unmarked c.empty.result (c.empty.ensures tt) ∙ sym (flags_none c.self.inside.ids.keys c.self.inside.flags.items c.args.id.now c.in-None.ensures.none) ∙ ap (λ (xs : List Node). flags_of xs c.args.id.now) c.self.view_is

pub returns-in-Some : goal.returns-in-Some
returns-in-Some c =
    let ids : List ObjectId = c.self.inside.ids.keys in
    let items : List WalkFlags = c.self.inside.flags.items in
    let n : ℕ = c.in-Some.number.0 in
    let within : n < length items = subst (λ (l : ℕ). n < l) (sym c.self.invariant.as_many) (slice_get_within ids n c.args.id.now c.in-Some.ensures.found) in
    let here : At items n c.index.result.now = at_item items n c.index.result.now within c.index.ensures in
    sym (flags_at ids items c.self.invariant n c.args.id.now c.index.result.now c.in-Some.ensures.found here) ∙ ap (λ (xs : List Node). flags_of xs c.args.id.now) c.self.view_is
