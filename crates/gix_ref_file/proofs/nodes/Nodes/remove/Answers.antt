use Rattle.std.proofs.Common.{◌∙◌, ap}
use Rattle.std.specs.Prelude.{option_map}
use Rattle.std.specs.FinMap as map
use Rattle.gix_ref_file.specs.Nodes.{node_of}
use Rattle.gix_ref_file.proofs.Entries.{get_node, option_map-second, key_taken, left_in_order, tree_left}
use Rattle.gix_ref_file.proofs.nodes.Nodes.remove.Goals as goal

pub invariant_of-self : goal.invariant_of-self
invariant_of-self c = left_in_order c.self.inside.entries.entries _ c.args.path.now c.remove_entry.ensures.entries c.self.invariant

pub returns-clause-path : goal.returns-clause-path
returns-clause-path c = key_taken c.args.path.now c.remove_entry.result c.remove_entry.ensures.same_key

pub returns-clause-before : goal.returns-clause-before
returns-clause-before c =
    option_map-second c.remove_entry.result ∙ ap (option_map node_of) c.remove_entry.ensures.value ∙ get_node c.self.inside.entries.entries c.args.path.now c.self.invariant ∙ ap (λ m. map.get m c.args.path.now) c.self.view_is

pub returns-clause-removed : goal.returns-clause-removed
returns-clause-removed c =
    tree_left c.self.inside.entries.entries _ c.args.path.now c.remove_entry.ensures.entries c.self.invariant ∙ ap (λ m. map.remove m c.args.path.now) c.self.view_is
