use Rattle.std.proofs.Common.{◌≡◌, ℕ, ◌<◌, length, true}
use Rattle.gix_traverse_graph.specs.Order.{At}
use Rattle.gix_traverse_commit_known.specs.declared.nodes.WalkFlags.{WalkFlags}
use Rattle.gix_traverse_topo.specs.Nodes.{all_facts, all_flags, is_hidden}
use Rattle.gix_traverse_topo.proofs.known.hide_all.Given as goal

abbrev pub invariant-places : goal.invariant-places
invariant-places l = record {
  as_many : length l.nodes.items ≡ length l.fn.nodes.items;
  all_facts : all_facts l.nodes.items ≡ all_facts l.fn.nodes.items;
  flags : (n : ℕ) (flags : WalkFlags) → n < l.place → At (all_flags l.nodes.items) n flags → is_hidden flags ≡ true;
}
