use Rattle.std.proofs.Common.{◌≡◌, ℕ, inl, inr, List, sym, ◌∙◌, ap, subst, arith}
use Rattle.std.proofs.lemmas.Option.{slice_get_within}
use Rattle.gix_traverse_graph.specs.Order.{At}
use Rattle.gix_traverse_topo.specs.Nodes.{all_facts}
use Rattle.gix_traverse_topo.specs.declared.known.Node.{Node}
use Rattle.gix_traverse_topo.specs.declared.known.Facts.{Facts}
use Rattle.gix_traverse_graph.proofs.Lists.{at_one, three}
use Rattle.gix_traverse_topo.proofs.Meeting.{length_map}
use Rattle.gix_traverse_topo.proofs.Updates.{facts_at}
use Rattle.gix_traverse_topo.proofs.known.Known.first_fault.Goals as goal

pub nodes-init : goal.nodes-init
nodes-init c = λ n facts lt a. absurd (omega arith)

pub nodes-preserved : goal.nodes-preserved
nodes-preserved c = λ n facts lt a. elim (three n c.nodes.node-index) [
  | inl below ↦ c.nodes.invariant n facts below a
  | inr (inl e) ↦ (
      let here : At (all_facts c.as_slice-node-items.result.now) c.nodes.node-index c.node-item.result.facts = facts_at c.as_slice-node-items.result.now c.nodes.node-index c.node-item.result c.nodes-test.true c.node-item.is in
      let same : facts ≡ c.node-item.result.facts = at_one (all_facts c.as_slice-node-items.result.now) c.nodes.node-index facts c.node-item.result.facts (subst (λ (k : ℕ). At (all_facts c.as_slice-node-items.result.now) k facts) e a) here in
      ap (λ (r : Facts). r.fault) same ∙ c.in_default.is)
  | inr (inr above) ↦ absurd (omega arith)
]

pub returns-clause-none : goal.returns-clause-none
returns-clause-none c = λ n facts a.
    let a' : At (all_facts c.as_slice-node-items.result.now) n facts = subst (λ (zs : List Node). At (all_facts zs) n facts) (sym c.as_slice-node-items.ensures.value) a in
    let within = slice_get_within (all_facts c.as_slice-node-items.result.now) n facts a' in
    let long = length_map (λ (v : Node). v.facts) c.as_slice-node-items.result.now in
    let end = c.nodes-test.false in
    c.nodes.invariant n facts (omega arith) a'
