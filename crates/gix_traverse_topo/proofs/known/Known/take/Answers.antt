use Rattle.std.proofs.Common.{◌≡◌, ℕ, List, refl, sym, ◌∙◌, ap, arith, Some, slice_get, get_or, set, subst}
use Rattle.std.proofs.lemmas.Int.{ints}
use Rattle.gix_traverse_topo.specs.declared.known.Node.{Node}
use Rattle.gix_traverse_graph.proofs.Lists.{at_one}
use Rattle.gix_traverse_topo.proofs.Updates.{same_counts, other_facts, facts_at, node_at, got, copied}
use Rattle.std.proofs.Math.Seq.{map-set_same}
use Rattle.gix_traverse_topo.specs.Nodes.{AreFirst, all_flags}
use Rattle.gix_traverse_topo.specs.declared.known.Facts.{Facts}
use Rattle.gix_traverse_topo.proofs.Flagged.{hidden_same}
use Rattle.gix_traverse_topo.proofs.known.Known.take.Goals as goal

pub returns-clause-counts : goal.returns-clause-counts
returns-clause-counts c = same_counts c.args.self.now.nodes.items c.args.number.0 c.take_parents-parent_ids.new.facts c.index_mut.result.now c.index_mut.ensures.value

pub returns-clause-others : goal.returns-clause-others
returns-clause-others c = λ k facts apart a.
    other_facts c.args.self.now.nodes.items c.args.number.0 (record { facts = c.take_parents-parent_ids.new.facts; names = c.index_mut.result.now.names; flags = c.index_mut.result.now.flags }) k facts apart a

pub returns-clause-taken : goal.returns-clause-taken
returns-clause-taken c =
    let items : List Node = c.args.self.now.nodes.items in
    let n : ℕ = c.args.number.0 in
    let node : Node = c.in_ok-node.node.now in
    let found = got items c.deref.result.now n c.get.result c.in_ok-node.node c.deref.ensures.value c.in_ok-node.ensures.ok_part c.get.ensures.lookup.0 c.get.ensures.lookup.1 in
    let same : node ≡ c.index_mut.result.now = at_one items n node c.index_mut.result.now (node_at items n node found.0 found.1) (node_at items n c.index_mut.result.now found.0 c.index_mut.ensures.value) in (
      copied c.get_index.result c.in_ok-id.field-0 (slice_get c.args.self.now.ids.keys n) c.in_ok-id.ensures.ok_part c.get_index.ensures.key,
      (
        node.facts,
        facts_at items n node found.0 found.1,
        c.take_parents-parent_ids.ensures ∙ ap (λ (v : Node). v.facts.parents.items) (sym same),
        refl,
        ap Some (omega (arith, ints)),
      ),
    )

flags_stay : (nodes : List Node) (n : ℕ) (node : Node) (r : Facts) → node ≡ get_or nodes n node → all_flags (set nodes n (record { facts = r; names = node.names; flags = node.flags })) ≡ all_flags nodes
flags_stay nodes n node r e = map-set_same (λ (v : Node). v.flags) nodes n (record { facts = r; names = node.names; flags = node.flags }) node (ap (λ (v : Node). v.flags) e)

pub returns-clause-hidden : goal.returns-clause-hidden
returns-clause-hidden c = hidden_same c.args.self.now.nodes.items (set c.args.self.now.nodes.items c.args.number.0 (record { facts = c.take_parents-parent_ids.new.facts; names = c.index_mut.result.now.names; flags = c.index_mut.result.now.flags })) (flags_stay c.args.self.now.nodes.items c.args.number.0 c.index_mut.result.now c.take_parents-parent_ids.new.facts c.index_mut.ensures.value)

pub invariant_of-self : goal.invariant_of-self
invariant_of-self c = record { hidden_first = subst AreFirst (sym (flags_stay c.args.self.now.nodes.items c.args.number.0 c.index_mut.result.now c.take_parents-parent_ids.new.facts c.index_mut.ensures.value)) c.args.self.now.hidden_first }
