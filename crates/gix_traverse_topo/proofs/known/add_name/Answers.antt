use Rattle.std.proofs.Common.{◌+◌, ◌^◌, ◌<◌, ◌∙◌, ap, set}
use Rattle.gix_traverse_topo.specs.Nodes.{counts}
use Rattle.gix_traverse_topo.proofs.Updates.{set_facts, set_counts, count_at, got, some_value}
use Rattle.std.proofs.Math.Seq.{map-set_same}
use Rattle.gix_traverse_topo.specs.declared.known.Node.{Node}
use Rattle.gix_traverse_topo.proofs.known.add_name.Goals as goal

pub returns-clause-all_facts : goal.returns-clause-all_facts
returns-clause-all_facts c = set_facts c.args.nodes.now.items c.args.number.0 c.in_ok-nodes.field-0 c.index_mut.result.now c.index_mut.ensures.value

pub returns-clause-added : goal.returns-clause-added
returns-clause-added c =
    let found = got c.args.nodes.now.items c.deref.result.now c.args.number.0 c.get.result c.in_ok-names.field-0 c.deref.ensures.value c.in_ok-names.ensures.ok_part c.get.ensures.lookup.0 c.get.ensures.lookup.1 in
    let more = some_value c.checked_add.result c.in_ok-nodes.field-0 (c.in_ok-names.field-0.now.names + 1) (c.in_ok-names.field-0.now.names + 1 < 2 ^ 64) c.in_ok-nodes.ensures.ok_part c.checked_add.ensures in (
      c.in_ok-names.field-0.now.names,
      count_at c.args.nodes.now.items c.args.number.0 c.in_ok-names.field-0.now found.0 found.1,
      set_counts c.args.nodes.now.items c.args.number.0 c.in_ok-nodes.field-0 c.index_mut.result.now.facts c.index_mut.result.now.flags ∙ ap (set (counts c.args.nodes.now.items) c.args.number.0) more.1,
    )

pub returns-clause-flags : goal.returns-clause-flags
returns-clause-flags c = map-set_same (λ (v : Node). v.flags) c.args.nodes.now.items c.args.number.0 (record { facts = c.index_mut.result.now.facts; names = c.in_ok-nodes.field-0; flags = c.index_mut.result.now.flags }) c.index_mut.result.now (ap (λ (v : Node). v.flags) c.index_mut.ensures.value)
