use Rattle.std.proofs.Common.{◌∙◌, ap}
use Rattle.std.specs.Prelude.{option_map}
use Rattle.std.specs.FinMap as map
use Rattle.gix_ref_file.specs.Nodes.{node_of, nodes_of}
use Rattle.gix_ref_file.proofs.Entries.{get_node, nodes_of-insert_entry, put_in_order, tree_put}
use Rattle.gix_ref_file.proofs.nodes.Nodes.insert.Goals as goal

pub invariant_of-self-2 : goal.invariant_of-self-2
invariant_of-self-2 c =
    put_in_order c.self.inside.entries.entries _ c.args.path.items c.args.entry (ap nodes_of c.in_ok-insert.ensures.entries ∙ nodes_of-insert_entry _ c.args.path c.args.entry) c.self.invariant

pub returns-clause-before : goal.returns-clause-before
returns-clause-before c =
    ap (option_map node_of) c.in_ok-insert.ensures.old ∙ get_node c.self.inside.entries.entries c.args.path.items c.self.invariant ∙ ap (λ m. map.get m c.args.path.items) c.self.view_is

pub returns-clause-ok : goal.returns-clause-ok
returns-clause-ok c =
    tree_put c.self.inside.entries.entries _ c.args.path.items c.args.entry (ap nodes_of c.in_ok-insert.ensures.entries ∙ nodes_of-insert_entry _ c.args.path c.args.entry) c.self.invariant
    ∙ ap (λ m. map.insert m c.args.path.items (node_of c.args.entry)) c.self.view_is
