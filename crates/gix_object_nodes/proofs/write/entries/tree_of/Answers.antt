use Rattle.std.proofs.Common.{◌≡◌, ◌∙◌, ◌++◌, None, ap, sym, subst, List, length, map, append-nil}
use Rattle.std.specs.Prelude.{option_map}
use Rattle.std.specs.Map.{keys_of, values_of}
use Rattle.std.specs.List.{IsDistinct, cons_option}
use Rattle.std.specs.Ordering.{eq_by_cmp}
use Rattle.std.proofs.lemmas.Map.Keys.{IsDistinct-from_sorted}
use Rattle.gix_object_tree.specs.Entry.{own_item}
use Rattle.gix_object_tree.specs.declared.tree.entry.Entry.{Entry}
use Rattle.gix_object_nodes.specs.declared.node.Slot.{Slot}
use Rattle.gix_object_nodes.specs.Files.{through}
use Rattle.gix_object_nodes.specs.Nodes.{Key}
use Rattle.gix_object_nodes.specs.Marks.{changed_in, slot_if}
use Rattle.gix_object_nodes.proofs.Due.{entry_if, keys_kept, lookup_kept}
use Rattle.gix_object_nodes.specs.Writing.{ids_of, written_item}
use Rattle.gix_object_nodes.proofs.Slots.{key_cmp, is_named}
use Rattle.gix_object_nodes.proofs.ReachedTrees.{AreWithin, all_within}
use Rattle.gix_object_nodes.proofs.WrittenEntries.{entries_of, tree_is}
use Rattle.gix_object_nodes.proofs.write.entries.tree_of.Goals as goal

pub loop-name-init : goal.loop-name-init
loop-name-init c =
    let shows = changed_in c.args.nodes.now in
    let entries = c.args.node.now.slots.entries in
    let given = c.into_iter-name-iterator.ensures.into_iter_gives in
    let apart : IsDistinct (eq_by_cmp key_cmp) (keys_of entries) = IsDistinct-from_sorted key_cmp (keys_of entries) given.5 in
    record {
      next = tt;
      finite = tt;
      opened = subst (λ (es : List (Key × Slot)). AreWithin (length c.args.nodes.now) (values_of es)) (sym given.0) (all_within (length c.args.nodes.now) entries apart c.requires.opened);
      within = subst (λ (es : List (Key × Slot)). AreWithin (length c.args.ids.now) (values_of es)) (sym given.0) (all_within (length c.args.ids.now) entries apart c.requires.within);
      entries = ap (λ (xs : List Entry). map own_item xs ++ entries_of (ids_of c.args.ids.now) (map (entry_if shows) c.into_iter-name-iterator.result)) c.new-entries.ensures.items
          ∙ ap (λ (es : List (Key × Slot)). entries_of (ids_of c.args.ids.now) (map (entry_if shows) es)) given.0;
    }

pub entry_of-requires : goal.entry_of-requires
entry_of-requires c =
    let some = subst (λ (es : List (Key × Slot)). AreWithin (length c.args.nodes.now) (values_of es)) c.in-Some.ensures.steps c.loop-name.invariant.opened in
    let all = subst (λ (es : List (Key × Slot)). AreWithin (length c.args.ids.now) (values_of es)) c.in-Some.ensures.steps c.loop-name.invariant.within in
    record { opened = some.0; within = all.0 }

pub loop-name-preserved : goal.loop-name-preserved
loop-name-preserved c =
    let shows = changed_in c.args.nodes.now in
    let ids = ids_of c.args.ids.now in
    let some = subst (λ (es : List (Key × Slot)). AreWithin (length c.args.nodes.now) (values_of es)) c.in-Some.ensures.steps c.loop-name.invariant.opened in
    let all = subst (λ (es : List (Key × Slot)). AreWithin (length c.args.ids.now) (values_of es)) c.in-Some.ensures.steps c.loop-name.invariant.within in
    let none : None ≡ written_item ids c.in-Some.name.now.items (slot_if shows c.in-Some.slot.now) =
    ap (option_map own_item) (sym c.in_default.is) ∙ c.in_ok-entry.ensures ∙ ap (λ n. written_item ids n (slot_if shows c.in-Some.slot.now)) c.as_slice.ensures.value in
    record {
      next = tt;
      finite = tt;
      opened = some.1;
      within = all.1;
      entries = ap (λ o. map own_item c.loop-name.entries.items ++ cons_option o (entries_of ids (map (entry_if shows) c.next.new.self))) none
          ∙ ap (λ (es : List (Key × Slot)). map own_item c.loop-name.entries.items ++ entries_of ids (map (entry_if shows) es)) (sym c.in-Some.ensures.steps) ∙ c.loop-name.invariant.entries;
    }

pub returns : goal.returns
returns c =
    let shows = changed_in c.args.nodes.now in
    let entries = c.args.node.now.slots.entries in
    let shut = map (entry_if shows) entries in
    let ids = ids_of c.args.ids.now in
    let items = map own_item c.sort_unstable.new.self.items in
    let given = c.into_iter-name-iterator.ensures.into_iter_gives in
    let apart : IsDistinct (eq_by_cmp key_cmp) (keys_of entries) = IsDistinct-from_sorted key_cmp (keys_of entries) given.5 in
    let still : IsDistinct (eq_by_cmp key_cmp) (keys_of shut) = subst (IsDistinct (eq_by_cmp key_cmp)) (sym (keys_kept shows entries)) apart in
    let made : map own_item c.loop-name.entries.items ≡ entries_of ids shut =
    sym (append-nil (map own_item c.loop-name.entries.items))
    ∙ ap (λ (es : List (Key × Slot)). map own_item c.loop-name.entries.items ++ entries_of ids (map (entry_if shows) es)) (sym c.in-None.ensures.steps.0) ∙ c.loop-name.invariant.entries in
    let tree = tree_is ids shut c.loop-name.entries.items c.sort_unstable.new.self.items still made c.sort_unstable.ensures.permutation c.sort_unstable.ensures.sorted in
    record {
      entries = λ m. tree.entries m ∙ ap (λ o. through o (written_item ids m)) (lookup_kept shows (is_named m) entries);
      once = tree.once;
      well_formed = tree.well_formed;
    }
