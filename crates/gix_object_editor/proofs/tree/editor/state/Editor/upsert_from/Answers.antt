use Rattle.std.proofs.Common.{ℕ, Bool, refl, ◌≡◌, ◌<◌, ◌∙◌, ◌+◌, ◌-◌, List, [], None, false, true, ap, sym, subst, arith, length, drop, take, get_or}
use Rattle.std.specs.Borrow.{Bor}
use Rattle.std.proofs.lemmas.Result.{err_from_is_err_and}
use Rattle.gix_hash.specs.Id.{id_of}
use Rattle.gix_hash.specs.declared.object_id.ObjectId.{ObjectId}
use Rattle.gix_object_tree.specs.declared.tree.mode.EntryKind.{EntryKind}
use Rattle.gix_object_tree.specs.declared.tree.mode.EntryMode.{EntryMode}
use Rattle.gix_object_tree.specs.Mode.{kind_value}
use Rattle.gix_object_tree.specs.ModeText.{mode_of}
use Rattle.gix_object_nodes.specs.declared.node.Node.{Node}
use Rattle.gix_object_nodes.specs.Files.{Leaf, is_null}
use Rattle.gix_object_nodes.specs.Nodes.{slots_of, files_of_node, onto, IsEntry, IsFolderAt}
use Rattle.gix_object_nodes.proofs.WrittenEntries.{null_test}
use Rattle.gix_object_editor.specs.Editor.{names_of, leaf_of_kind, LeadsThrough}
use Rattle.gix_object_editor.specs.Entries.{MayStand}
use Rattle.gix_object_editor.specs.Grown.{HasTree, IsMarkedBut, IsMarkedOf}
use Rattle.gix_object_editor.proofs.Asking.{some_all, through_asked, through_stops}
use Rattle.gix_object_editor.proofs.Edited.{cut_forest, cut_given, cut_keeps_above, cut_keeps_each, cut_marks, cut_named, cut_read, keeps_edited, keeps_grown, puts_cut, reach, up_given}
use Rattle.gix_object_editor.proofs.Edits.{edit_fault, left_names, stopped_tree}
use Rattle.gix_object_editor.proofs.Growth.{grown_marked, grows_same, grows_then, no_files, none_into}
use Rattle.gix_object_editor.proofs.Kept.{may_drop}
use Rattle.gix_object_editor.proofs.Raised.{none_after}
use Rattle.gix_object_editor.proofs.Refused as Refused
use Rattle.gix_object_editor.proofs.Standing.{last_left}
use Rattle.gix_object_editor.proofs.Upserted.{laid_but, laid_each, puts_already, puts_laid, up_above, up_forest, up_longer, up_marked, up_read}
use Rattle.gix_object_editor.proofs.Walked.{names}
use Rattle.gix_object_editor.proofs.tree.editor.state.Editor.upsert_from.Goals as goal

-- a mode that is made of a kind
kind_leaf : (mode : EntryMode) (kind : EntryKind) (id : ObjectId) → mode.value ≡ kind_value kind → mode.padded ≡ false → ◌≡◌ {A = Leaf} (record { mode = mode_of mode; id = id_of id }) (leaf_of_kind kind id)
kind_leaf mode kind id value padded =
    ap (λ (v : ℕ). let l : Leaf = record { mode = record { value = v; padded = mode.padded }; id = id_of id } in l) value
    ∙ ap (λ (b : Bool). let l : Leaf = record { mode = record { value = kind_value kind; padded = b }; id = id_of id } in l) padded

pub walk-requires-clause-tree : goal.walk-requires-clause-tree
walk-requires-clause-tree g c = record { forest = c.args.self.now.forest; within = c.requires }

pub cut-requires-clause-tree : goal.cut-requires-clause-tree
cut-requires-clause-tree g c =
    subst (λ ns. HasTree ns c.in_ok-at.at.0) (sym c.as_mut_slice.ensures.value) (record { forest = c.walk.ensures.grows.opened.forest; within = c.in_ok-at.ensures.within.0 })

pub cut-requires-clause-marked : goal.cut-requires-clause-marked
cut-requires-clause-marked g c = subst IsMarkedOf (sym c.as_mut_slice.ensures.value) (grown_marked c.args.self.now.forest c.args.self.now.marked c.walk.ensures.grows)

pub lay_entry-requires-clause-tree : goal.lay_entry-requires-clause-tree
lay_entry-requires-clause-tree g c = record { forest = c.walk.ensures.grows.opened.forest; within = c.in_ok-at.ensures.within.0 }

pub lay_entry-requires-clause-plain : goal.lay_entry-requires-clause-plain
lay_entry-requires-clause-plain g c = λ more.
    let path = c.args.path.now in
    let i = c.in_ok-at.depth in
    let so = c.in_ok-at.ensures in
    let left = left_names path i so.within.1 in
    let lt : i + 1 < length path = omega (arith, left.0, more) in
    subst (λ n. IsFolderAt (slots_of c.walk.new.nodes.items) c.in_ok-at.at.0 n None) (sym (ap (λ p. get_or p 0 []) left.1)) (no_files (slots_of c.walk.new.nodes.items) c.in_ok-at.at.0 _ (so.walked.blocked lt))

pub mark_if-requires-clause-tree : goal.mark_if-requires-clause-tree
mark_if-requires-clause-tree g c =
    let appends = c.in_ok-lay_entry.ensures.laid.appends in
    subst (λ ns. HasTree ns c.in_ok-at.at.0) (sym c.as_mut_slice-2.ensures.value) (record { forest = appends.forest; within = omega (arith, c.in_ok-at.ensures.within.0, appends.longer) })

pub mark_if-requires-clause-marked : goal.mark_if-requires-clause-marked
mark_if-requires-clause-marked g c = λ yes. subst (IsMarkedBut c.in_ok-at.at.0) (sym c.as_mut_slice-2.ensures.value)
    (laid_but c.walk.ensures.grows c.in_ok-at.ensures.within.0 c.in_ok-lay_entry.ensures.laid.appends c.args.self.now.forest c.args.self.now.marked)

pub invariant_of-self : goal.invariant_of-self
invariant_of-self g c = record { forest = c.walk.ensures.grows.opened.forest; marked = grown_marked c.args.self.now.forest c.args.self.now.marked c.walk.ensures.grows }

pub invariant_of-self-2 : goal.invariant_of-self-2
invariant_of-self-2 g c =
    let grows = c.walk.ensures.grows in
    let appends = c.in_ok-lay_entry.ensures.laid.appends in
    let up = up_given c.lay_entry.new.nodes c.as_mut_slice-2.ensures.value c.as_mut_slice-2.ensures.len (c.mark_if.ensures.marked refl) in
    record { forest = up_forest grows c.in_ok-at.ensures.within.0 appends up; marked = up_marked grows c.in_ok-at.ensures.within.0 appends up }

pub invariant_of-self-then-is_null : goal.invariant_of-self-then-is_null
invariant_of-self-then-is_null g c =
    let cut = cut_given c.walk.new.nodes c.as_mut_slice.ensures.value c.as_mut_slice.ensures.len c.cut.ensures in
    record { forest = cut_forest c.walk.ensures.grows cut; marked = cut_marks c.walk.ensures.grows cut }

-- ---- refusals

pub returns-in_err-at-clause-refused : goal.returns-in_err-at-clause-refused
returns-in_err-at-clause-refused g c =
    let p = err_from_is_err_and c.from_residual-in_err-at.result c.from_residual-in_err-at.ensures.1 in
    let told = c.in_err-at.ensures.refused in
    rw (p.1, p.2) (λ way w. edit_fault (g.S.Lookup.is_honest c.args.self.now.store) (g.S.Lookup.may_fail c.args.self.now.store) (g.S.Lookup.table c.args.self.now.store) (names_of c.args.path.now)
    (LeadsThrough (λ trees. files_of_node trees (slots_of c.walk.new.nodes.items) 0) (onto way (names_of c.args.path.now))) c.in_err-at.field-0.0 told.0
    (stopped_tree (slots_of c.walk.new.nodes.items) (onto way (names_of c.args.path.now)) told.0 (told.1 way w)) told.2)

pub returns-in_err-at-clause-asked : goal.returns-in_err-at-clause-asked
returns-in_err-at-clause-asked g c =
    let p = err_from_is_err_and c.from_residual-in_err-at.result c.from_residual-in_err-at.ensures.1 in
    rw (p.1, p.2) (λ honest trees has. through_stops (g.S.Lookup.is_honest c.args.self.now.store) (g.S.Lookup.may_fail c.args.self.now.store) (g.S.Lookup.table c.args.self.now.store) trees (slots_of c.args.self.now.nodes.items) c.args.from.0 c.args.path.now
    c.args.self.now.lookups c.walk.new.lookups c.in_err-at.field-0.0 (c.in_err-at.ensures.asked honest trees has))

pub returns-in_err-at-clause-kept : goal.returns-in_err-at-clause-kept
returns-in_err-at-clause-kept g c =
    let p = err_from_is_err_and c.from_residual-in_err-at.result c.from_residual-in_err-at.ensures.1 in
    rw p.1 (Refused.stopped g.S.Lookup.is_honest g.S.Lookup.table c.args.path.now _ c.args.self.now _ refl (omega (arith, c.walk.ensures.counted)) c.in_ok-check_names.ensures.ok _ c.walk.ensures.grows)

pub returns-in_err-at-clause-stays : goal.returns-in_err-at-clause-stays
returns-in_err-at-clause-stays g c = keeps_grown c.args.from.0 c.requires c.walk.ensures.grows

pub returns-in_err-lay_entry-clause-asked : goal.returns-in_err-lay_entry-clause-asked
returns-in_err-lay_entry-clause-asked g c =
    let p = err_from_is_err_and c.from_residual-in_err-lay_entry.result c.from_residual-in_err-lay_entry.ensures.1 in
    let so = c.in_ok-at.ensures in
    rw (p.1, p.2) (λ honest trees has. some_all (g.S.Lookup.table c.args.self.now.store) _ c.args.self.now.lookups c.walk.new.lookups (through_asked (g.S.Lookup.table c.args.self.now.store) trees (slots_of c.args.self.now.nodes.items) (slots_of c.walk.new.nodes.items) c.args.from.0 c.in_ok-at.at.0 c.args.path.now c.in_ok-at.depth c.args.self.now.lookups c.walk.new.lookups
    c.walk.new.lookups so.within.1 (λ more rest. none_into trees (slots_of c.walk.new.nodes.items) c.in_ok-at.at.0 _ rest (so.walked.blocked more)) (so.asked honest trees has)))

pub returns-in_err-lay_entry-clause-kept : goal.returns-in_err-lay_entry-clause-kept
returns-in_err-lay_entry-clause-kept g c =
    let p = err_from_is_err_and c.from_residual-in_err-lay_entry.result c.from_residual-in_err-lay_entry.ensures.1 in
    let grows = c.walk.ensures.grows in
    rw p.1 (Refused.stopped g.S.Lookup.is_honest g.S.Lookup.table c.args.path.now _ c.args.self.now _ refl (omega (arith, c.walk.ensures.counted)) c.in_ok-check_names.ensures.ok _ (grows_then grows (grows_same grows.opened.forest c.in_err-lay_entry.ensures.same)))

pub returns-in_err-lay_entry-clause-stays : goal.returns-in_err-lay_entry-clause-stays
returns-in_err-lay_entry-clause-stays g c =
    let grows = c.walk.ensures.grows in
    keeps_grown {honest = g.S.Lookup.is_honest c.args.self.now.store} {table = g.S.Lookup.table c.args.self.now.store} c.args.from.0 c.requires (grows_then grows (grows_same grows.opened.forest c.in_err-lay_entry.ensures.same))

-- ---- an entry is put

pub returns-clause-asked : goal.returns-clause-asked
returns-clause-asked g c = λ honest trees has. let so = c.in_ok-at.ensures in through_asked (g.S.Lookup.table c.args.self.now.store) trees (slots_of c.args.self.now.nodes.items) (slots_of c.walk.new.nodes.items) c.args.from.0 c.in_ok-at.at.0 c.args.path.now c.in_ok-at.depth c.args.self.now.lookups c.walk.new.lookups
    c.walk.new.lookups so.within.1 (λ more rest. none_into trees (slots_of c.walk.new.nodes.items) c.in_ok-at.at.0 _ rest (so.walked.blocked more)) (so.asked honest trees has)

pub returns-clause-kept : goal.returns-clause-kept
returns-clause-kept g c =
    let grows = c.walk.ensures.grows in
    let so = c.in_ok-at.ensures in
    let path = c.args.path.now in
    let i = c.in_ok-at.depth in
    let laid = c.in_ok-lay_entry.ensures.laid in
    let up = up_given c.lay_entry.new.nodes c.as_mut_slice-2.ensures.value c.as_mut_slice-2.ensures.len (c.mark_if.ensures.marked refl) in
    let leaf = kind_leaf c.from.result c.args.kind c.args.id c.from.ensures.0 c.from.ensures.1 in
    Refused.made g.S.Lookup.is_honest g.S.Lookup.table path _ c.args.self.now _ refl (omega (arith, c.walk.ensures.counted)) c.in_ok-check_names.ensures.ok _ (up_read grows so.within.0 laid.appends up)
    (λ h has down fit each. laid_each grows laid up h has down
    (subst (MayStand has (names (take (length path - i) (drop i path)))) (sym leaf)
    (subst (λ (xs : List (Bor (List ℕ))). MayStand has (names xs) (leaf_of_kind c.args.kind c.args.id)) (sym (left_names path i so.within.1).2) (may_drop has path i (leaf_of_kind c.args.kind c.args.id) fit))) each)

pub returns-clause-stays : goal.returns-clause-stays
returns-clause-stays g c =
    let grows = c.walk.ensures.grows in
    let so = c.in_ok-at.ensures in
    let appends = c.in_ok-lay_entry.ensures.laid.appends in
    let up = up_given c.lay_entry.new.nodes c.as_mut_slice-2.ensures.value c.as_mut_slice-2.ensures.len (c.mark_if.ensures.marked refl) in
    keeps_edited c.walk.new.nodes.items c.args.from.0 c.in_ok-at.at.0 c.requires so.walked.below grows (up_longer grows so.within.0 appends up) (up_above grows so.within.0 appends up)

pub returns-clause-put : goal.returns-clause-put
returns-clause-put g c = λ way w.
    let path = c.args.path.now in
    let i = c.in_ok-at.depth in
    let so = c.in_ok-at.ensures in
    let r = reach c.args.self.now.nodes.items c.walk.new.nodes.items c.args.from.0 c.in_ok-at.at.0 i path c.walk.ensures.grows so.within.0 so.within.1 so.walked way w in
    let left = left_names path i so.within.1 in
    let leaf = kind_leaf c.from.result c.args.kind c.args.id c.from.ensures.0 c.from.ensures.1 in
    puts_laid g.S.Lookup.is_honest g.S.Lookup.table c.args.self.now _ r c.in_ok-lay_entry.ensures.laid (up_given c.lay_entry.new.nodes c.as_mut_slice-2.ensures.value c.as_mut_slice-2.ensures.len (c.mark_if.ensures.marked refl)) left.1 (leaf_of_kind c.args.kind c.args.id) leaf
    (null_test (id_of c.args.id) c.is_null.result c.is_null.ensures ∙ c.if-is_null.false)
    (λ last there. c.stands_already.ensures.otherwise c.if-stands_already.false (omega (arith, left.0, last_left path i so.within.1 last))
    (subst (IsEntry (slots_of c.as_slice.result.now c.in_ok-at.at.0 (get_or (names (take (length path - i) (drop i path))) 0 []))) (sym leaf)
    (subst (λ (ns : List Node). IsEntry (slots_of ns c.in_ok-at.at.0 (get_or (names (take (length path - i) (drop i path))) 0 [])) (leaf_of_kind c.args.kind c.args.id)) (sym c.as_slice.ensures.value)
    (subst (λ m. IsEntry (slots_of c.walk.new.nodes.items c.in_ok-at.at.0 m) (leaf_of_kind c.args.kind c.args.id)) (sym (ap (λ p. get_or p 0 []) left.1)) there))))
    so.walked.before

-- ---- the null id

pub returns-then-is_null-clause-asked : goal.returns-then-is_null-clause-asked
returns-then-is_null-clause-asked g c = λ honest trees has. let so = c.in_ok-at.ensures in through_asked (g.S.Lookup.table c.args.self.now.store) trees (slots_of c.args.self.now.nodes.items) (slots_of c.walk.new.nodes.items) c.args.from.0 c.in_ok-at.at.0 c.args.path.now c.in_ok-at.depth c.args.self.now.lookups c.walk.new.lookups
    c.walk.new.lookups so.within.1 (λ more rest. none_into trees (slots_of c.walk.new.nodes.items) c.in_ok-at.at.0 _ rest (so.walked.blocked more)) (so.asked honest trees has)

pub returns-then-is_null-clause-kept : goal.returns-then-is_null-clause-kept
returns-then-is_null-clause-kept g c =
    let grows = c.walk.ensures.grows in
    let cut = cut_given c.walk.new.nodes c.as_mut_slice.ensures.value c.as_mut_slice.ensures.len c.cut.ensures in
    Refused.made g.S.Lookup.is_honest g.S.Lookup.table c.args.path.now _ c.args.self.now _ refl (omega (arith, c.walk.ensures.counted)) c.in_ok-check_names.ensures.ok _ (cut_read grows cut)
    (λ h has down may each. cut_keeps_each grows cut h has down each)

pub returns-then-is_null-clause-stays : goal.returns-then-is_null-clause-stays
returns-then-is_null-clause-stays g c =
    let grows = c.walk.ensures.grows in
    let cut = cut_given c.walk.new.nodes c.as_mut_slice.ensures.value c.as_mut_slice.ensures.len c.cut.ensures in
    keeps_edited c.walk.new.nodes.items c.args.from.0 c.in_ok-at.at.0 c.requires c.in_ok-at.ensures.walked.below grows (omega (arith, cut.len)) (cut_keeps_above grows cut)

pub returns-then-is_null-clause-put : goal.returns-then-is_null-clause-put
returns-then-is_null-clause-put g c = λ way w.
    let path = c.args.path.now in
    let i = c.in_ok-at.depth in
    let so = c.in_ok-at.ensures in
    let r = reach c.args.self.now.nodes.items c.walk.new.nodes.items c.args.from.0 c.in_ok-at.at.0 i path c.walk.ensures.grows so.within.0 so.within.1 so.walked way w in
    puts_cut g.S.Lookup.is_honest g.S.Lookup.table c.args.self.now _ r (cut_named path i so.within.1 (cut_given c.walk.new.nodes c.as_mut_slice.ensures.value c.as_mut_slice.ensures.len c.cut.ensures)) (leaf_of_kind c.args.kind c.args.id) (null_test (id_of c.args.id) c.is_null.result c.is_null.ensures ∙ c.if-is_null.true)

-- ---- an entry that is there already

pub returns-then-stands_already-clause-asked : goal.returns-then-stands_already-clause-asked
returns-then-stands_already-clause-asked g c = λ honest trees has. let so = c.in_ok-at.ensures in through_asked (g.S.Lookup.table c.args.self.now.store) trees (slots_of c.args.self.now.nodes.items) (slots_of c.walk.new.nodes.items) c.args.from.0 c.in_ok-at.at.0 c.args.path.now c.in_ok-at.depth c.args.self.now.lookups c.walk.new.lookups
    c.walk.new.lookups so.within.1 (λ more rest. none_into trees (slots_of c.walk.new.nodes.items) c.in_ok-at.at.0 _ rest (so.walked.blocked more)) (so.asked honest trees has)

pub returns-then-stands_already-clause-kept : goal.returns-then-stands_already-clause-kept
returns-then-stands_already-clause-kept g c =
    Refused.grown g.S.Lookup.is_honest g.S.Lookup.table c.args.path.now _ c.args.self.now _ refl (omega (arith, c.walk.ensures.counted)) c.in_ok-check_names.ensures.ok _ c.walk.ensures.grows

pub returns-then-stands_already-clause-stays : goal.returns-then-stands_already-clause-stays
returns-then-stands_already-clause-stays g c = keeps_grown c.args.from.0 c.requires c.walk.ensures.grows

pub returns-then-stands_already-clause-put : goal.returns-then-stands_already-clause-put
returns-then-stands_already-clause-put g c = λ way w.
    let path = c.args.path.now in
    let i = c.in_ok-at.depth in
    let so = c.in_ok-at.ensures in
    let r = reach c.args.self.now.nodes.items c.walk.new.nodes.items c.args.from.0 c.in_ok-at.at.0 i path c.walk.ensures.grows so.within.0 so.within.1 so.walked way w in
    let left = left_names path i so.within.1 in
    let leaf = kind_leaf c.from.result c.args.kind c.args.id c.from.ensures.0 c.from.ensures.1 in
    let there = c.stands_already.ensures.so c.if-stands_already.true in
    puts_already g.S.Lookup.is_honest g.S.Lookup.table c.args.self.now _ r (leaf_of_kind c.args.kind c.args.id) (take (length path - i) (drop i path)) there.0 left.1
    (null_test (id_of c.args.id) c.is_null.result c.is_null.ensures ∙ c.if-is_null.false) (none_after path i (omega (arith, there.0, left.0, so.within.1)))
    (subst (λ m. IsEntry (slots_of c.walk.new.nodes.items c.in_ok-at.at.0 m) (leaf_of_kind c.args.kind c.args.id)) (ap (λ p. get_or p 0 []) left.1)
    (subst (λ (ns : List Node). IsEntry (slots_of ns c.in_ok-at.at.0 (get_or (names (take (length path - i) (drop i path))) 0 [])) (leaf_of_kind c.args.kind c.args.id)) c.as_slice.ensures.value
    (subst (IsEntry (slots_of c.as_slice.result.now c.in_ok-at.at.0 (get_or (names (take (length path - i) (drop i path))) 0 []))) leaf there.1)))
