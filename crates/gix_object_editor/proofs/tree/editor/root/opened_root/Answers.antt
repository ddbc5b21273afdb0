use Rattle.std.proofs.Common.{◌≡◌, ◌∙◌, ◌++◌, ◌∷◌, [], None, ap, sym, subst, arith, rules, true, List, if◌then◌else◌, map}
use Rattle.std.specs.Prelude.{is_ok}
use Rattle.gix_object_tree.specs.Entry.{own_item}
use Rattle.gix_object_nodes.specs.declared.node.Node.{Node}
use Rattle.gix_object_nodes.specs.Files.{Bytes, named}
use Rattle.gix_object_nodes.specs.Nodes.{slots_of, slot_in, child_of, StandsFor}
use Rattle.gix_object_editor.proofs.Entered.{tree_entries}
use Rattle.gix_object_nodes.specs.Marks.{Mark}
use Rattle.gix_object_editor.specs.Grown.{IsRoot}
use Rattle.gix_object_editor.proofs.Kept.{one_each}
use Rattle.gix_object_editor.proofs.Marked.{one_closed, one_unchanged, one_marked}
use Rattle.gix_object_editor.proofs.Loaded.{fresh_of, one_tree, tree_files}
use Rattle.gix_object_nodes.proofs.Slots.{none_past}
use Rattle.gix_object_editor.proofs.tree.editor.root.opened_root.Goals as goal

pub returns : goal.returns
returns c =
    let node = c.place.new.self in
    let items = map own_item c.args.root.now.entries.items in
    let ok : is_ok c.push.result ≡ true = search rules in
    let pushed : c.push.new.self.items ≡ node ∷ [] =
    c.push.ensures.items ∙ ap (λ b. if b then c.new-nodes.result.items ++ node ∷ [] else c.new-nodes.result.items) ok ∙ ap (λ (xs : List Node). xs ++ node ∷ []) c.new-nodes.ensures.items in
    let fresh : (m : Bytes) → child_of (slot_in node m) ≡ None = λ m. ap child_of (c.place.ensures.slots m) ∙ fresh_of (slot_in c.in_ok-node.node m) _ (c.in_ok-node.ensures m) in
    let stands : (m : Bytes) → StandsFor (slot_in node m) (named m items) = λ m. subst (λ o. StandsFor o (named m items)) (sym (c.place.ensures.slots m)) (c.in_ok-node.ensures m) in
    subst (IsRoot items) (sym pushed) (record {
      forest = one_tree (slots_of (node ∷ [])) fresh (λ i m lt. none_past (node ∷ []) i m (omega arith));
      marked = one_marked node fresh;
      unchanged = one_unchanged node (ap (λ (m : Mark). m.changed) c.place.ensures.mark);
      closed = one_closed node fresh;
      each = λ has all. one_each node items has stands all;
      files = λ trees q. tree_files trees (slots_of (node ∷ [])) 0 items stands q;
      entries = λ trees q. tree_entries trees (slots_of (node ∷ [])) 0 items stands q;
    })
