use Rattle.std.proofs.Common.{◌∙◌, sym, ap}
use Rattle.std.specs.Prelude.{option_map, Some, is_some}
use Rattle.std.specs.FinMap as map
use Rattle.gix_ref_file.specs.Nodes.{node_of, nodes_of}
use Rattle.gix_ref_file.proofs.Entries.{get_node, find_node, nodes_of-set_value, is_some_found, put_in_order, tree_put}
use Rattle.gix_ref_file.proofs.nodes.Nodes.replace.Goals as goal

pub returns-in_err-slot-clause-before : goal.returns-in_err-slot-clause-before
returns-in_err-slot-clause-before c =
    ap (option_map node_of) (c.from_residual.ensures ∙ c.in_err-slot.ensures.value) ∙ get_node c.self.inside.entries.entries c.args.path.now c.self.invariant ∙ ap (λ m. map.get m c.args.path.now) c.self.view_is

pub invariant_of-self-2 : goal.invariant_of-self-2
invariant_of-self-2 c =
    let es = c.self.inside.entries.entries in
    let there = is_some_found _ _ _ (sym c.in_ok-slot.ensures.value) (find_node es c.args.path.now) in
    put_in_order es _ c.args.path.now c.replace.new.dest
    (ap nodes_of (c.get_mut.follows.holds c.replace.new.dest).0 ∙ nodes_of-set_value es c.args.path.now c.replace.new.dest c.self.invariant there) c.self.invariant

pub returns-clause-before : goal.returns-clause-before
returns-clause-before c =
    ap (option_map node_of) (ap Some c.replace.ensures.value ∙ c.in_ok-slot.ensures.value) ∙ get_node c.self.inside.entries.entries c.args.path.now c.self.invariant ∙ ap (λ m. map.get m c.args.path.now) c.self.view_is

pub returns-in_err-slot-clause-replaced : goal.returns-in_err-slot-clause-replaced
returns-in_err-slot-clause-replaced c there =
    let none = c.in_err-slot.ensures.value in
    let found = get_node c.self.inside.entries.entries c.args.path.now c.self.invariant ∙ ap (λ m. map.get m c.args.path.now) c.self.view_is in
    absurd (cc (sym there ∙ ap is_some (sym (ap (option_map node_of) none ∙ found))))

pub returns-clause-replaced : goal.returns-clause-replaced
returns-clause-replaced c _ =
    let es = c.self.inside.entries.entries in
    let there = is_some_found _ _ _ (sym c.in_ok-slot.ensures.value) (find_node es c.args.path.now) in
    tree_put es _ c.args.path.now c.replace.new.dest
    (ap nodes_of (c.get_mut.follows.holds c.replace.new.dest).0 ∙ nodes_of-set_value es c.args.path.now c.replace.new.dest c.self.invariant there) c.self.invariant
    ∙ (λ i. map.insert (c.self.view_is i) c.args.path.now (node_of (c.replace.ensures.after i)))
