use Rattle.std.proofs.Common.{ℕ, inl, Some, ◌≡◌, ◌∙◌, ◌<◌, ◌++◌, ◌∷◌, [], List, Option, ap, sym, subst, refl, arith, length, map, get_or, ◌+◌}
use Rattle.std.proofs.lemmas.Result.{err_from_is_err_and}
use Rattle.std.proofs.lemmas.Fn.{called_at, FoldsTo-push}
use Rattle.std.proofs.lemmas.List.{append-nil}
use Rattle.gix_hash.specs.Id.{id_of}
use Rattle.gix_hash.specs.declared.object_id.ObjectId.{ObjectId}
use Rattle.gix_object_tree.specs.Entry.{own_item}
use Rattle.gix_object_nodes.specs.Nodes.{slots_of, slot_in, child_of, IsForest, Way, onto}
use Rattle.gix_object_nodes.specs.Writing.{ids_of, IsTreeOf}
use Rattle.gix_object_nodes.specs.Written.{HandedOut, HandsOut, StopsWriting}
use Rattle.gix_object_nodes.specs.Below.{IsHandedOutFrom}
use Rattle.gix_object_nodes.specs.Files.{Bytes}
use Rattle.gix_object_nodes.specs.Marks.{marks_of, changed_in, slots_if, due_in}
use Rattle.gix_object_nodes.proofs.Due.{due_forest, due_way}
use Rattle.gix_object_nodes.proofs.Slots.{node_at}
use Rattle.gix_object_nodes.proofs.HandedSteps.{tree_at, due_all, last_next}
use Rattle.gix_object_editor.proofs.WrittenEditor.{written}
use Rattle.gix_object_editor.proofs.tree.editor.state.Editor.write_from.Goals as goal

pub tree_of-requires : goal.tree_of-requires
tree_of-requires g c =
    let nodes = c.as_slice-nodes.result.now in
    let forest = subst (λ ns. IsForest (slots_of ns) (length ns)) (sym c.as_slice-nodes.ensures.value) c.args.self.now.forest in
    let at = c.args.from.0 in
    let long : at < length nodes = omega (arith, c.requires.within, ap length c.as_slice-nodes.ensures.value) in
    let lt : (m : Bytes) (k : ℕ) → child_of (slot_in c.index-nodes-from.result m) ≡ Some k → k < length nodes = λ m k is.
    forest.within at m k (ap child_of (node_at nodes at c.index-nodes-from.result m long ∙ ap (λ n. slot_in n m) (sym c.index-nodes-from.is)) ∙ is) in
    record {
      opened = lt;
      within = λ m k is. let less : k < length nodes = lt m k is in omega (arith, less, ap length c.as_slice.ensures.value, c.in_ok-ids.ensures.len);
    }

pub returns-in-Ok-clause-written : goal.returns-in-Ok-clause-written
returns-in-Ok-clause-written g c = λ base way.
    let editor = c.args.self.now in
    let from = c.args.from.0 in
    let same = c.as_slice-nodes.ensures.value in
    let down = due_way (slots_of editor.nodes.items) (marks_of editor.nodes.items) from (length editor.nodes.items) editor.forest base from (omega arith) way in
    let back : Way (due_in c.as_slice-nodes.result.now from) base from = subst (λ ns. Way (due_in ns from) base from) (sym same) down in
    let ids = c.in_ok-ids.ids.items in
    let root = c.in_ok-tree.tree in
    let items = map own_item root.entries.items in
    let so = c.in_ok-ids.ensures.written base back in
    let handed = subst (λ ns. IsHandedOutFrom (due_in ns from) base (length ns) (ids_of ids) so.0 (from + 1)) same so.2 in
    let is = subst (λ ns. c.index-nodes-from.result ≡ get_or ns from c.index-nodes-from.result) same c.index-nodes-from.is in
    let shown = subst (λ ns. IsTreeOf (ids_of ids) (slots_if (changed_in ns) (slot_in c.index-nodes-from.result)) items) same
    (subst (λ (xs : List (Option ObjectId)). IsTreeOf (ids_of xs) (slots_if (changed_in c.as_slice-nodes.result.now) (slot_in c.index-nodes-from.result)) items) c.as_slice.ensures.value c.in_ok-tree.ensures) in
    let tree : IsTreeOf (ids_of ids) (due_in editor.nodes.items from from) items =
    tree_at (ids_of ids) editor.nodes.items from editor.forest from (omega arith) c.index-nodes-from.result items c.requires.within is shown in
    let one : HandedOut = record { path = onto base []; items = items; id = id_of c.in-Ok.id } in (
      so.0 ++ one ∷ [],
      FoldsTo-push (HandsOut g.F.FnMut) c.args.out.now so.0 c.write_below.new.out one c.out.new.self so.1 (root, c.in-Ok.id, called_at g.F.FnMut c.out.ensures c.in-Ok.is, refl, refl),
      written editor base from down (ids_of ids) so.0 handed items tree (id_of c.in-Ok.id),
    )

pub returns-in_err-ids-clause-refused : goal.returns-in_err-ids-clause-refused
returns-in_err-ids-clause-refused g c = λ base way.
    let editor = c.args.self.now in
    let from = c.args.from.0 in
    let same = c.as_slice-nodes.ensures.value in
    let down = due_way (slots_of editor.nodes.items) (marks_of editor.nodes.items) from (length editor.nodes.items) editor.forest base from (omega arith) way in
    let back : Way (due_in c.as_slice-nodes.result.now from) base from = subst (λ ns. Way (due_in ns from) base from) (sym same) down in
    let p = err_from_is_err_and c.from_residual.result c.from_residual.ensures.1 in
    rw (p.1, p.2) (subst (λ ns. StopsWriting g.F.FnMut ns from (onto base []) c.args.out.now c.in_err-ids.field-0.0 c.write_below.new.out) same (c.in_err-ids.ensures.refused base back))

pub returns-in_err-tree-clause-refused : goal.returns-in_err-tree-clause-refused
returns-in_err-tree-clause-refused g c = λ base way.
    let editor = c.args.self.now in
    let from = c.args.from.0 in
    let same = c.as_slice-nodes.ensures.value in
    let down = due_way (slots_of editor.nodes.items) (marks_of editor.nodes.items) from (length editor.nodes.items) editor.forest base from (omega arith) way in
    let back : Way (due_in c.as_slice-nodes.result.now from) base from = subst (λ ns. Way (due_in ns from) base from) (sym same) down in
    let p = err_from_is_err_and c.from_residual-in_err-tree.result c.from_residual-in_err-tree.ensures.1 in
    let so = c.in_ok-ids.ensures.written base back in
    let handed = subst (λ ns. IsHandedOutFrom (due_in ns from) base (length ns) (ids_of c.in_ok-ids.ids.items) so.0 (from + 1)) same so.2 in
    rw (p.1, p.2) (
      so.0,
      record {
        calls_made = so.1;
        in_order = handed.in_order;
        due = due_all editor.nodes.items from base (ids_of c.in_ok-ids.ids.items) so.0 (from + 1) (omega arith) handed;
      },
    )

pub returns-clause-refused : goal.returns-clause-refused
returns-clause-refused g c = λ base way.
    let editor = c.args.self.now in
    let from = c.args.from.0 in
    let same = c.as_slice-nodes.ensures.value in
    let down = due_way (slots_of editor.nodes.items) (marks_of editor.nodes.items) from (length editor.nodes.items) editor.forest base from (omega arith) way in
    let back : Way (due_in c.as_slice-nodes.result.now from) base from = subst (λ ns. Way (due_in ns from) base from) (sym same) down in
    let ids = c.in_ok-ids.ids.items in
    let root = c.in_ok-tree.tree in
    let items = map own_item root.entries.items in
    let so = c.in_ok-ids.ensures.written base back in
    let handed = subst (λ ns. IsHandedOutFrom (due_in ns from) base (length ns) (ids_of ids) so.0 (from + 1)) same so.2 in
    let is = subst (λ ns. c.index-nodes-from.result ≡ get_or ns from c.index-nodes-from.result) same c.index-nodes-from.is in
    let given = subst (λ ns. IsTreeOf (ids_of ids) (slots_if (changed_in ns) (slot_in c.index-nodes-from.result)) items) same
    (subst (λ (xs : List (Option ObjectId)). IsTreeOf (ids_of xs) (slots_if (changed_in c.as_slice-nodes.result.now) (slot_in c.index-nodes-from.result)) items) c.as_slice.ensures.value c.in_ok-tree.ensures) in
    let tree : IsTreeOf (ids_of ids) (due_in editor.nodes.items from from) items =
    tree_at (ids_of ids) editor.nodes.items from editor.forest from (omega arith) c.index-nodes-from.result items c.requires.within is given in
    let ok = due_forest (slots_of editor.nodes.items) (marks_of editor.nodes.items) from (length editor.nodes.items) editor.forest in (
      so.0,
      c.write_below.new.out,
      record { calls_made = so.1; in_order = handed.in_order; due = due_all editor.nodes.items from base (ids_of ids) so.0 (from + 1) (omega arith) handed },
      record {
        shown = root;
        called = called_at g.F.FnMut c.out.ensures c.in-Err.is;
        at = onto base [];
        next = last_next (due_in editor.nodes.items from) base (length editor.nodes.items) ok from down (ids_of ids) so.0 handed items tree;
        due = λ id. record { below = ([], append-nil (onto base [])); changed = inl refl };
      },
    )
