use Rattle.std.proofs.Common.{◌≡◌, ◌∙◌, ◌<◌, ◌+◌, suc, ap, sym, arith, length, drop, add-one, None, Some}
use Rattle.std.specs.Option.{option_map}
use Rattle.gix_object_tree.specs.Entry.{item_of}
use Rattle.gix_object_nodes.specs.Nodes.{slots_of, entry_at}
use Rattle.gix_object_editor.proofs.Walked.{names, entry_down, entry_last}
use Rattle.gix_object_editor.proofs.tree.editor.entry.entry_from.Goals as goal

pub returns-in_err-at : goal.returns-in_err-at
returns-in_err-at c =
    let more : suc c.names.depth < length c.args.path.now = omega arith in
    ap (option_map item_of) c.from_residual.ensures
    ∙ sym (c.names.invariant.rest ∙ entry_down (slots_of c.args.nodes.now) c.names.at.0 c.args.path.now c.names.depth _ None more (sym c.in_err-at.ensures))

pub names-preserved : goal.names-preserved
names-preserved c =
    let slots = slots_of c.args.nodes.now in
    let more : suc c.names.depth < length c.args.path.now = omega arith in
    record {
      within = c.requires.forest.within c.names.at.0 _ c.in_ok-at.at.0 (sym c.in_ok-at.ensures);
      left = omega arith;
      rest = c.names.invariant.rest ∙ entry_down slots c.names.at.0 c.args.path.now c.names.depth _ (Some c.in_ok-at.at.0) more (sym c.in_ok-at.ensures)
          ∙ ap (λ n. entry_at slots c.in_ok-at.at.0 (names (drop n c.args.path.now))) (sym (add-one c.names.depth));
    }

pub returns : goal.returns
returns c =
    let last : c.names.depth + 1 ≡ length c.args.path.now = omega (arith, c.names.invariant.left) in
    c.entry_of.ensures
    ∙ entry_last c.args.nodes.now c.names.at.0 c.args.path.now c.names.depth _ c.index-nodes-at.result c.index-nodes-at.is c.names.invariant.within last
    ∙ sym c.names.invariant.rest
