use Rattle.std.proofs.Common.{◌<◌, length, ap, arith}
use Rattle.gix_traverse_topo.proofs.Updates.{facts_put, all_facts_put, same_counts}
use Rattle.std.proofs.Math.Seq.{map-set_same}
use Rattle.gix_traverse_topo.specs.declared.known.Node.{Node}
use Rattle.gix_traverse_topo.proofs.known.put_facts.Goals as goal

pub returns-clause-counts : goal.returns-clause-counts
returns-clause-counts c = same_counts c.args.nodes.now.items c.args.number.0 c.args.facts c.index_mut.result.now c.index_mut.ensures.value

pub returns-clause-put : goal.returns-clause-put
returns-clause-put c =
    let within : c.args.number.0 < length c.args.nodes.now.items = omega (arith, c.if-as_slice-number.false, ap length c.as_slice.ensures.value) in
    facts_put c.args.nodes.now.items c.args.number.0 (record { facts = c.args.facts; names = c.index_mut.result.now.names; flags = c.index_mut.result.now.flags }) within

pub returns-clause-others : goal.returns-clause-others
returns-clause-others c = λ k other apart a. all_facts_put c.args.nodes.now.items c.args.number.0 (record { facts = c.args.facts; names = c.index_mut.result.now.names; flags = c.index_mut.result.now.flags }) k other apart a

pub returns-clause-flags : goal.returns-clause-flags
returns-clause-flags c = map-set_same (λ (v : Node). v.flags) c.args.nodes.now.items c.args.number.0 (record { facts = c.args.facts; names = c.index_mut.result.now.names; flags = c.index_mut.result.now.flags }) c.index_mut.result.now (ap (λ (v : Node). v.flags) c.index_mut.ensures.value)
