use Rattle.std.proofs.Common.{◌≡◌, ℕ, ◌<◌, List, sym, subst, arith, rules, Bool, true}
use Rattle.std.specs.Prelude.{◌↔◌}
use Rattle.gix_traverse_graph.specs.Order.{At}
use Rattle.gix_traverse_topo.specs.Nodes.{all_flags, hidden_in, is_hidden}
use Rattle.gix_traverse_topo.specs.declared.known.Node.{Node}
use Rattle.gix_traverse_topo.proofs.Flagged.{hidden_within}
use Rattle.gix_traverse_topo.proofs.Meeting.{at_map}
use Rattle.gix_traverse_topo.proofs.Updates.{got, missing, node_at}
use Rattle.gix_traverse_topo.proofs.known.Known.is_hidden.Goals as goal

pub returns-in-None : goal.returns-in-None
returns-in-None c =
    let items : List Node = c.args.self.now.nodes.items in
    let gone = missing items c.deref.result.now c.args.number.0 c.get.result c.deref.ensures.value c.in-None.is c.get.ensures.lookup.0 in (
      (λ t. let z : ⊥ = cc in absurd z),
      (λ l. absurd (omega (arith, l, gone, hidden_within items))),
    )

pub returns-in-Some : goal.returns-in-Some
returns-in-Some c =
    let items : List Node = c.args.self.now.nodes.items in
    let n : ℕ = c.args.number.0 in
    let node : Node = c.in-Some.node.now in
    let found = got items c.deref.result.now n c.get.result c.in-Some.node c.deref.ensures.value c.in-Some.is c.get.ensures.lookup.0 c.get.ensures.lookup.1 in
    let at : At (all_flags items) n node.flags = at_map (λ (v : Node). v.flags) items n node (node_at items n node found.0 found.1) in
    let test : c.contains.result ≡ is_hidden node.flags = search rules in
    subst (λ (b : Bool). (b ≡ true) ↔ (n < hidden_in items)) (sym test) (c.args.self.now.hidden_first n node.flags at)
