use Rattle.std.proofs.Common.{◌≡◌, ℕ, ◌+◌, ◌-◌, ◌≤◌, ap, refl, subst, arith}
use Rattle.gix_traverse_graph.specs.Order.{At}
use Rattle.gix_traverse_topo.specs.Nodes.{counts}
use Rattle.gix_traverse_topo.proofs.Updates.{set_facts, set_counts, count_at, got, some_value}
use Rattle.std.proofs.Math.Seq.{map-set_same}
use Rattle.gix_traverse_topo.specs.declared.known.Node.{Node}
use Rattle.gix_traverse_topo.proofs.known.take_name.Goals as goal

pub returns-clause-all_facts : goal.returns-clause-all_facts
returns-clause-all_facts c = set_facts c.args.nodes.now.items c.args.number.0 c.in_ok-left.left c.index_mut.result.now c.index_mut.ensures.value

pub returns-clause-taken : goal.returns-clause-taken
returns-clause-taken c =
    let found = got c.args.nodes.now.items c.deref.result.now c.args.number.0 c.get.result c.in_ok-names.field-0 c.deref.ensures.value c.in_ok-names.ensures.ok_part c.get.ensures.lookup.0 c.get.ensures.lookup.1 in
    let less = some_value c.checked_sub.result c.in_ok-left.left (c.in_ok-names.field-0.now.names - 1) (1 ≤ c.in_ok-names.field-0.now.names) c.in_ok-left.ensures.ok_part c.checked_sub.ensures in
    let at : At (counts c.args.nodes.now.items) c.args.number.0 c.in_ok-names.field-0.now.names = count_at c.args.nodes.now.items c.args.number.0 c.in_ok-names.field-0.now found.0 found.1 in
    let same : c.in_ok-names.field-0.now.names ≡ c.in_ok-left.left + 1 = omega (arith, less.0, less.1) in (
      c.in_ok-left.left,
      subst (λ (k : ℕ). At (counts c.args.nodes.now.items) c.args.number.0 k) same at,
      set_counts c.args.nodes.now.items c.args.number.0 c.in_ok-left.left c.index_mut.result.now.facts c.index_mut.result.now.flags,
      refl,
    )

pub returns-clause-flags : goal.returns-clause-flags
returns-clause-flags c = map-set_same (λ (v : Node). v.flags) c.args.nodes.now.items c.args.number.0 (record { facts = c.index_mut.result.now.facts; names = c.in_ok-left.left; flags = c.index_mut.result.now.flags }) c.index_mut.result.now (ap (λ (v : Node). v.flags) c.index_mut.ensures.value)
