use Rattle.std.proofs.Common.{refl, arith}
use Rattle.std.proofs.lemmas.Int.{ints}
use Rattle.gix_traverse_topo.proofs.Updates.{facts_at, got}
use Rattle.gix_traverse_topo.proofs.known.Known.pending.Goals as goal

pub returns-clause-pending : goal.returns-clause-pending
returns-clause-pending c =
    let found = got c.args.self.now.nodes.items c.deref.result.now c.args.number.0 c.get.result c.in_ok-node.node c.deref.ensures.value c.in_ok-node.was c.get.ensures.lookup.0 c.get.ensures.lookup.1 in (
      refl,
      (c.in_ok-node.node.now.facts, facts_at c.args.self.now.nodes.items c.args.number.0 c.in_ok-node.node.now found.0 found.1, omega (arith, ints)),
    )
