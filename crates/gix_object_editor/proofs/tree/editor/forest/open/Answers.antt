use Rattle.std.proofs.Common.{ℕ, List, Option, ◌<◌, inl, inr, false, refl, ◌≡◌, ◌≢◌, ◌∙◌, ap, sym, subst, arith, true, length, suc, rules, None, Some, [], ◌∷◌}
use Rattle.std.specs.Prelude.{is_some}
use Rattle.gix_object_nodes.specs.declared.node.NodeId.{NodeId}
use Rattle.std.proofs.lemmas.Result.{err_from_is_err_and}
use Rattle.gix_hash.specs.Id.{id_of}
use Rattle.gix_object_tree.specs.Mode.{is_tree_value}
use Rattle.gix_object_nodes.specs.declared.node.Node.{Node}
use Rattle.gix_object_nodes.specs.declared.node.Slot.{Slot}
use Rattle.gix_object_nodes.specs.Files.{Bytes, is_null, leads_on, named}
use Rattle.gix_object_nodes.specs.Nodes.{slots_of, slot_in, leaf_in, child_or, child_of, StandsFor, IsUnopened}
use Rattle.gix_object_nodes.proofs.WrittenEntries.{not_null, null_by_test}
use Rattle.gix_object_editor.proofs.Loaded.{no_child}
use Rattle.gix_object_editor.specs.Grown.{IsFolderOf}
use Rattle.gix_object_editor.proofs.Growth.{grows_none, grows_same}
use Rattle.gix_object_editor.proofs.Cuts.{one_slot}
use Rattle.gix_object_editor.proofs.Opening.{opened_one}
use Rattle.gix_object_nodes.specs.Marks.{marks_of}
use Rattle.gix_object_editor.proofs.Kept.{opened_each}
use Rattle.gix_object_editor.proofs.Marked.{marks_one, read_one}
use Rattle.gix_object_nodes.proofs.Slots.{none_past}
use Rattle.gix_object_editor.specs.Asked.{unopened_into}
use Rattle.gix_object_editor.proofs.Asking.{is_tree, isnt_tree, no_slot, plain_split, child_split, folder_split, loaded_split, stops_opening, asks_one, asks_same}
use Rattle.gix_object_editor.proofs.tree.editor.forest.open.Goals.{then-not-is_tree-via-then-not-is_tree, then-not-is_tree-via-else-not-is_tree+then-is_null}
use Rattle.gix_object_editor.proofs.tree.editor.forest.open.Given as Given
use Rattle.gix_object_editor.proofs.tree.editor.forest.open.Goals as goal

-- the entry of the name
there : {old now : List Node} {s : Slot} {found : Option Slot} (at : ℕ) (name : Bytes) → now ≡ old → found ≡ slots_of now at name → found ≡ Some s → slots_of old at name ≡ Some s
there at name same is some = ap (λ ns. slots_of ns at name) (sym same) ∙ sym is ∙ some

is_child : (child : Option NodeId) → is_some child ≡ true → child ≢ None
is_child None e = absurd (cc e)
is_child (Some c) e = λ none. cc none

-- a tree was opened for it
found_child : (nodes : List Node) (at : ℕ) (name : Bytes) (s : Slot) (child : Option NodeId) → slots_of nodes at name ≡ Some s → s.child ≡ child → child ≢ None → IsFolderOf nodes nodes at name child
found_child nodes at name s None stood is some = absurd (some refl)
found_child nodes at name s (Some c) stood is some = (ap child_of stood ∙ ap (λ o. child_or o (λ k. Some k) None) is, inl refl)

unopened : (s : Slot) → s.child ≡ None → is_tree_value s.mode.value ≡ true → is_null (id_of s.oid) ≡ false → IsUnopened s
unopened s none tree some = record { closed = none; is_tree = tree; isnt_null = some }

-- once its tree is attached
stood : (g : Given.Over) (c : goal.In_ok-attach g) → slots_of c.args.nodes.now.items c.args.at.0 c.args.name.now ≡ Some c.in-Some.slot
stood g c = there c.args.at.0 c.args.name.now c.as_slice.ensures.value c.slot_at.ensures c.in-Some.is

folder : (g : Given.Over) (c : goal.In_ok-attach g) → IsUnopened c.in-Some.slot
folder g c =
    let s : Slot = c.in-Some.slot in
    let tree_mode : is_tree_value s.mode.value ≡ true = search rules in
    unopened s (no_child s.child (sym c.is_some.ensures ∙ c.if-is_some.false)) tree_mode (not_null (id_of s.oid) c.is_null.result c.is_null.ensures c.if-is_null.false)

abbrev linked : (g : Given.Over) (c : goal.In_ok-attach g) → Slot
linked g c = record { mode = c.in-Some.slot.mode; oid = c.in-Some.slot.oid; child = Some c.in_ok-attach.field-0 }

next : (g : Given.Over) (c : goal.In_ok-attach g) → length c.attach.new.nodes.items ≡ suc (length c.args.nodes.now.items)
next g c = omega (arith, c.in_ok-attach.ensures.attached.len)

fresh : (g : Given.Over) (c : goal.In_ok-attach g) (m : Bytes) → child_of (slots_of c.attach.new.nodes.items (length c.args.nodes.now.items) m) ≡ None
fresh g c m = ap child_of (c.in_ok-attach.ensures.attached.behind m) ∙ c.in_ok-tree.ensures.fresh m

past : (g : Given.Over) (c : goal.In_ok-attach g) (i : ℕ) (m : Bytes) → length c.args.nodes.now.items < i → slots_of c.attach.new.nodes.items i m ≡ None
past g c i m lt = none_past c.attach.new.nodes.items i m (omega (arith, lt, next g c))

pub returns-in_err-tree-clause-refused : goal.returns-in_err-tree-clause-refused
returns-in_err-tree-clause-refused g c =
    let s : Slot = c.in-Some.slot in
    let stood = there c.args.at.0 c.args.name.now c.as_slice.ensures.value c.slot_at.ensures c.in-Some.is in
    let tree_mode : is_tree_value s.mode.value ≡ true = search rules in
    let folder = unopened s (no_child s.child (sym c.is_some.ensures ∙ c.if-is_some.false)) tree_mode (not_null (id_of s.oid) c.is_null.result c.is_null.ensures c.if-is_null.false) in
    let p = err_from_is_err_and c.from_residual.result c.from_residual.ensures.1 in
    rw (p.1, p.2) (s, stood, folder, c.in_err-tree.ensures.refused)

pub returns-in_err-attach-clause-refused : goal.returns-in_err-attach-clause-refused
returns-in_err-attach-clause-refused g c =
    let s : Slot = c.in-Some.slot in
    let stood = there c.args.at.0 c.args.name.now c.as_slice.ensures.value c.slot_at.ensures c.in-Some.is in
    let tree_mode : is_tree_value s.mode.value ≡ true = search rules in
    let folder = unopened s (no_child s.child (sym c.is_some.ensures ∙ c.if-is_some.false)) tree_mode (not_null (id_of s.oid) c.is_null.result c.is_null.ensures c.if-is_null.false) in
    let p = err_from_is_err_and c.from_residual-in_err-attach.result c.from_residual-in_err-attach.ensures.1 in
    rw (p.1, p.2) (s, c.in_err-attach.ensures.same.slots c.args.at.0 c.args.name.now ∙ stood, folder, tt)

pub returns-in_err-tree-clause-asked : goal.returns-in_err-tree-clause-asked
returns-in_err-tree-clause-asked g c =
    let s : Slot = c.in-Some.slot in
    let stood = there c.args.at.0 c.args.name.now c.as_slice.ensures.value c.slot_at.ensures c.in-Some.is in
    let closed : s.child ≡ None = no_child s.child (sym c.is_some.ensures ∙ c.if-is_some.false) in
    let tree_mode : is_tree_value (leaf_in s).mode.value ≡ true = search rules in
    let folder = is_tree (leaf_in s) tree_mode (not_null (id_of s.oid) c.is_null.result c.is_null.ensures c.if-is_null.false) in
    let p = err_from_is_err_and c.from_residual.result c.from_residual.ensures.1 in
    rw (p.1, p.2) (λ honest trees has rest.
    let split = folder_split trees (slots_of c.args.nodes.now.items) c.args.at.0 c.args.name.now rest s stood closed folder in
    stops_opening (g.S.Lookup.is_honest c.args.store.now) (g.S.Lookup.may_fail c.args.store.now) (g.S.Lookup.table c.args.store.now) (id_of s.oid) _ split.0 c.args.lookups.now _ c.in_err-tree.field-0.0 split.1 (search rules) c.in_err-tree.ensures.refused)

pub returns-in_err-attach-clause-asked : goal.returns-in_err-attach-clause-asked
returns-in_err-attach-clause-asked g c =
    let s : Slot = c.in-Some.slot in
    let stood = there c.args.at.0 c.args.name.now c.as_slice.ensures.value c.slot_at.ensures c.in-Some.is in
    let closed : s.child ≡ None = no_child s.child (sym c.is_some.ensures ∙ c.if-is_some.false) in
    let tree_mode : is_tree_value (leaf_in s).mode.value ≡ true = search rules in
    let folder = is_tree (leaf_in s) tree_mode (not_null (id_of s.oid) c.is_null.result c.is_null.ensures c.if-is_null.false) in
    let p = err_from_is_err_and c.from_residual-in_err-attach.result c.from_residual-in_err-attach.ensures.1 in
    rw (p.1, p.2) (λ honest trees has rest.
    let split = folder_split trees (slots_of c.args.nodes.now.items) c.args.at.0 c.args.name.now rest s stood closed folder in
    record { front = id_of s.oid ∷ []; rest = split.0; split = sym split.1; counted = search rules })

pub returns-clause-asked : goal.returns-clause-asked
returns-clause-asked g c = λ honest trees has rest.
    let old = c.args.nodes.now.items in
    let new = c.attach.new.nodes.items in
    let s : Slot = c.in-Some.slot in
    let leads = is_tree (leaf_in s) (folder g c).is_tree (folder g c).isnt_null in
    let tree = c.in_ok-tree.ensures.opened honest in
    let holds = c.in_ok-tree.ensures.holds honest in
    let split = loaded_split trees (slots_of old) (slots_of new) c.args.at.0 c.args.name.now rest s (length old) tree.0 (stood g c) (folder g c).closed leads (tree.2 trees has) (λ m. subst (λ o. StandsFor o (named m tree.0)) (sym (c.in_ok-attach.ensures.attached.behind m)) (tree.1 m)) in
    asks_one (g.S.Lookup.table c.args.store.now) (id_of s.oid) _ _ c.args.lookups.now _ (split ∙ ap (λ k. id_of s.oid ∷ unopened_into trees (slots_of new) k rest) (sym c.in_ok-attach.ensures.attached.number))
    (holds.0, holds.1, holds.2, holds.3, holds.4) (search rules)

pub returns-then-not-is_tree-clause-asked : goal.returns-then-not-is_tree-clause-asked
returns-then-not-is_tree-clause-asked g c = λ honest trees has rest.
    let s : Slot = c.in-Some.slot in
    let stood = there c.args.at.0 c.args.name.now c.as_slice.ensures.value c.slot_at.ensures c.in-Some.is in
    let closed : s.child ≡ None = no_child s.child (sym c.is_some.ensures ∙ c.if-is_some.false) in
    let plain : leads_on (leaf_in s) ≡ false = elim c.then-not-is_tree.branch [
      | then-not-is_tree-via-then-not-is_tree w ↦ isnt_tree (leaf_in s) (inl (search rules))
      | then-not-is_tree-via-else-not-is_tree+then-is_null w ↦ isnt_tree (leaf_in s) (inr (null_by_test (id_of s.oid) w.is_null.result w.is_null.ensures w.if-is_null.true))
    ] in
    asks_same (g.S.Lookup.table c.args.store.now) _ [] c.args.lookups.now c.args.lookups.now (plain_split trees (slots_of c.args.nodes.now.items) c.args.at.0 c.args.name.now rest s stood closed plain) refl

pub returns-then-not-is_tree-clause-found : goal.returns-then-not-is_tree-clause-found
returns-then-not-is_tree-clause-found g c =
    let s : Slot = c.in-Some.slot in
    let stood = there c.args.at.0 c.args.name.now c.as_slice.ensures.value c.slot_at.ensures c.in-Some.is in
    let closed : s.child ≡ None = no_child s.child (sym c.is_some.ensures ∙ c.if-is_some.false) in
    let plain : leads_on (leaf_in s) ≡ false = elim c.then-not-is_tree.branch [
      | then-not-is_tree-via-then-not-is_tree w ↦ isnt_tree (leaf_in s) (inl (search rules))
      | then-not-is_tree-via-else-not-is_tree+then-is_null w ↦ isnt_tree (leaf_in s) (inr (null_by_test (id_of s.oid) w.is_null.result w.is_null.ensures w.if-is_null.true))
    ] in
    (λ u is. let one = one_slot u s (sym is ∙ stood) in (ap (λ (x : Slot). x.child) one ∙ closed, ap (λ (x : Slot). leads_on (leaf_in x)) one ∙ plain), refl)

pub returns-in_default-clause-found : goal.returns-in_default-clause-found
returns-in_default-clause-found g c =
    let none : slots_of c.args.nodes.now.items c.args.at.0 c.args.name.now ≡ None = ap (λ ns. slots_of ns c.args.at.0 c.args.name.now) (sym c.as_slice.ensures.value) ∙ sym c.slot_at.ensures ∙ c.in_default.is in
    (λ u is. absurd (cc (sym none ∙ is)), refl)

pub returns-in_default-clause-asked : goal.returns-in_default-clause-asked
returns-in_default-clause-asked g c = λ honest trees has rest.
    let none : slots_of c.args.nodes.now.items c.args.at.0 c.args.name.now ≡ None = ap (λ ns. slots_of ns c.args.at.0 c.args.name.now) (sym c.as_slice.ensures.value) ∙ sym c.slot_at.ensures ∙ c.in_default.is in
    asks_same (g.S.Lookup.table c.args.store.now) _ [] c.args.lookups.now c.args.lookups.now (no_slot trees (slots_of c.args.nodes.now.items) c.args.at.0 c.args.name.now rest none) refl

pub returns-then-is_some-clause-asked : goal.returns-then-is_some-clause-asked
returns-then-is_some-clause-asked g c = λ honest trees has rest.
    let s : Slot = c.in-Some.slot in
    let stood = there c.args.at.0 c.args.name.now c.as_slice.ensures.value c.slot_at.ensures c.in-Some.is in
    asks_same (g.S.Lookup.table c.args.store.now) _ _ c.args.lookups.now c.args.lookups.now
    (child_split trees (slots_of c.args.nodes.now.items) c.args.at.0 c.args.name.now rest s s.child stood refl (is_child s.child (sym c.is_some.ensures ∙ c.if-is_some.true))) refl

pub returns-then-is_some-clause-found : goal.returns-then-is_some-clause-found
returns-then-is_some-clause-found g c =
    let s : Slot = c.in-Some.slot in
    let stood = there c.args.at.0 c.args.name.now c.as_slice.ensures.value c.slot_at.ensures c.in-Some.is in
    found_child c.args.nodes.now.items c.args.at.0 c.args.name.now s s.child stood refl (is_child s.child (sym c.is_some.ensures ∙ c.if-is_some.true))

pub returns-clause-found : goal.returns-clause-found
returns-clause-found g c = (ap child_of c.in_ok-attach.ensures.attached.here, inr (omega (arith, c.in_ok-attach.ensures.attached.number, c.in_ok-attach.ensures.attached.len)))

pub returns-clause-grows : goal.returns-clause-grows
returns-clause-grows g c =
    let old = c.args.nodes.now.items in
    let new = c.attach.new.nodes.items in
    let so = c.in_ok-attach.ensures.attached in
    let linked_to = ap Some so.number in
    let opened = opened_one _ _ (slots_of old) (slots_of new) (length old) (length new) c.requires.forest (next g c) c.args.at.0 c.args.name.now c.in-Some.slot (linked g c) c.requires.within (stood g c) (folder g c)
    (λ honest. let tree = c.in_ok-tree.ensures.opened honest in (tree.0, λ m. subst (λ o. StandsFor o (named m tree.0)) (sym (so.behind m)) (tree.1 m), tree.2))
    so.here linked_to refl (fresh g c) so.others (past g c) (λ i m le. none_past old i m le) in
    record {
      opened = opened;
      marks =
          marks_one (slots_of old) (slots_of new) (marks_of old) (marks_of new) (length old) (length new) c.requires.forest opened.forest (next g c) c.args.at.0 c.args.name.now c.in-Some.slot (linked g c) c.requires.within (stood g c) (folder g c).closed
          so.here linked_to (fresh g c) so.others (past g c) so.marks so.unchanged;
      as_read =
          λ honest trees has.
          read_one (slots_of old) (slots_of new) (marks_of old) (marks_of new) (length old) (length new) c.requires.forest opened.forest (next g c) c.args.at.0 c.args.name.now c.in-Some.slot (linked g c) c.requires.within (stood g c) (folder g c).closed
          so.here linked_to (fresh g c) so.others (past g c) so.marks so.unchanged
          trees (opened.files honest trees has) refl;
      each =
          λ honest has down each.
          opened_each (slots_of old) (slots_of new) (length old) c.args.at.0 c.args.name.now c.in-Some.slot (linked g c) has _ each down (stood g c) (folder g c).is_tree (folder g c).isnt_null
          so.here refl so.others (slot_in c.in_ok-tree.tree) so.behind (c.in_ok-tree.ensures.holds honest) (past g c);
    }

pub returns-in_err-attach-clause-grows : goal.returns-in_err-attach-clause-grows
returns-in_err-attach-clause-grows g c = grows_same c.requires.forest c.in_err-attach.ensures.same

pub returns-in_default-clause-grows : goal.returns-in_default-clause-grows
returns-in_default-clause-grows g c = grows_none c.args.nodes.now.items c.requires.forest

pub returns-then-is_some-clause-grows : goal.returns-then-is_some-clause-grows
returns-then-is_some-clause-grows g c = grows_none c.args.nodes.now.items c.requires.forest

pub returns-then-not-is_tree-clause-grows : goal.returns-then-not-is_tree-clause-grows
returns-then-not-is_tree-clause-grows g c = grows_none c.args.nodes.now.items c.requires.forest

pub returns-in_err-tree-clause-grows : goal.returns-in_err-tree-clause-grows
returns-in_err-tree-clause-grows g c = grows_none c.args.nodes.now.items c.requires.forest
