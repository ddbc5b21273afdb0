use Rattle.std.proofs.Common.{ℕ, refl, ◌≡◌, ◌<◌, ◌+◌, List, [], ◌∷◌, None, sym, subst, arith, length, drop, get_or}
use Rattle.std.specs.Borrow.{Bor}
use Rattle.std.proofs.lemmas.Result.{err_from_is_err_and}
use Rattle.gix_object_editor.specs.declared.tree.editor.state.Editor.{Editor}
use Rattle.gix_object_editor.specs.Asked.{unopened_into, AsksAll}
use Rattle.gix_object_editor.specs.Editor.{names_of, LeadsInto, IsFolder}
use Rattle.gix_object_editor.specs.Grown.{HasTree, IsMarkedOf}
use Rattle.gix_object_editor.specs.Outcomes.{KeepsTree, RemovesLeaf}
use Rattle.gix_object_nodes.specs.Files.{Path}
use Rattle.gix_object_nodes.specs.Nodes.{slots_of, files_of_node, onto, AreFilled, IsFolderAt, LeadsTo}
use Rattle.gix_object_editor.proofs.Asking.{asks_done, asks_same, into_asked, into_stops, late_folder, some_names, walk_into_stops}
use Rattle.gix_object_editor.proofs.Edited.{cut_forest, cut_given, cut_keeps_above, cut_keeps_each, cut_marks, cut_named, cut_read, had_none_below, keeps_edited, keeps_grown, name_at, reach, reach_more, removes_cut, removes_nothing_left}
use Rattle.gix_object_editor.proofs.Edits.{folder_fault, last_split, leads_into, leaf_fault, stopped_tree}
use Rattle.gix_object_editor.proofs.Growth.{grown_marked, grows_then, no_files, none_into}
use Rattle.gix_object_editor.proofs.Raised.{none_after, some_after}
use Rattle.gix_object_editor.proofs.Refused as Refused
use Rattle.gix_object_editor.proofs.Walked.{names, last_name, leads_kept}
use Rattle.gix_object_editor.proofs.tree.editor.state.Editor.remove_leaf_from.Goals.{then-depth-path+in_ok-refuse_folder, else-depth-path}
use Rattle.gix_object_editor.proofs.tree.editor.state.Editor.remove_leaf_from.Goals as goal

pub walk-requires-clause-tree : goal.walk-requires-clause-tree
walk-requires-clause-tree g c = record { forest = c.args.self.now.forest; within = c.requires }

pub refuse_folder-requires : goal.refuse_folder-requires
refuse_folder-requires g c = record { forest = c.walk.ensures.grows.opened.forest; within = c.in_ok-at.ensures.within.0 }

pub cut-requires-clause-tree : goal.cut-requires-clause-tree
cut-requires-clause-tree g c = subst (λ ns. HasTree ns c.in_ok-at.at.0) (sym c.as_mut_slice.ensures.value)
    (record { forest = c.refuse_folder.ensures.grows.opened.forest; within = omega (arith, c.in_ok-at.ensures.within.0, c.refuse_folder.ensures.grows.opened.longer) })

pub cut-requires-clause-marked : goal.cut-requires-clause-marked
cut-requires-clause-marked g c = subst IsMarkedOf (sym c.as_mut_slice.ensures.value) (grown_marked c.args.self.now.forest c.args.self.now.marked (grows_then c.walk.ensures.grows c.refuse_folder.ensures.grows))

pub invariant_of-self-then-depth-path : goal.invariant_of-self-then-depth-path
invariant_of-self-then-depth-path g c =
    let grows = grows_then c.walk.ensures.grows c.refuse_folder.ensures.grows in
    let cut = cut_given c.refuse_folder.new.nodes c.as_mut_slice.ensures.value c.as_mut_slice.ensures.len c.cut.ensures in
    record { forest = cut_forest grows cut; marked = cut_marks grows cut }

pub invariant_of-self-else-depth-path : goal.invariant_of-self-else-depth-path
invariant_of-self-else-depth-path g c = record { forest = c.walk.ensures.grows.opened.forest; marked = grown_marked c.args.self.now.forest c.args.self.now.marked c.walk.ensures.grows }

pub returns-in_err-at-clause-refused : goal.returns-in_err-at-clause-refused
returns-in_err-at-clause-refused g c =
    let p = err_from_is_err_and c.from_residual-in_err-at.result c.from_residual-in_err-at.ensures.1 in
    let told = c.in_err-at.ensures.refused in
    let slots = slots_of c.walk.new.nodes.items in
    rw (p.1, p.2) (λ way w. leaf_fault (g.S.Lookup.is_honest c.args.self.now.store) (g.S.Lookup.may_fail c.args.self.now.store) (g.S.Lookup.table c.args.self.now.store) (names_of c.args.path.now)
    (LeadsInto (λ trees. files_of_node trees slots 0) (onto way (names_of c.args.path.now))) (IsFolder (λ trees. AreFilled trees slots) (λ trees. files_of_node trees slots 0) (onto way (names_of c.args.path.now)))
    c.in_err-at.field-0.0 told.0
    (leads_into (λ trees. files_of_node trees slots 0) (onto way (names_of c.args.path.now)) told.0 (stopped_tree slots (onto way (names_of c.args.path.now)) told.0 (told.1 way w))) told.2)

pub returns-in_err-refuse_folder-clause-refused : goal.returns-in_err-refuse_folder-clause-refused
returns-in_err-refuse_folder-clause-refused g c =
    let p = err_from_is_err_and c.from_residual-in_err-refuse_folder.result c.from_residual-in_err-refuse_folder.ensures.1 in
    let slots = slots_of c.refuse_folder.new.nodes.items in
    let path = c.args.path.now in
    let none : Bor (List ℕ) = record { ref_ptr = (0, 0); now = [] } in
    let name : List ℕ = (get_or path c.in_ok-at.depth none).now in
    rw (p.1, p.2) (λ way w.
    let leads : LeadsTo slots (onto way (names path)) c.in_ok-at.at.0 (name ∷ []) =
    subst (LeadsTo slots (onto way (names path)) c.in_ok-at.at.0) (last_name path c.in_ok-at.depth none c.if-depth-path.true)
    (leads_kept (slots_of c.walk.new.nodes.items) slots (onto way (names path)) c.in_ok-at.at.0 (names (drop c.in_ok-at.depth path)) c.refuse_folder.ensures.grows.opened.links (c.in_ok-at.ensures.walked.leads way w)) in
    folder_fault (g.S.Lookup.is_honest c.args.self.now.store) (g.S.Lookup.may_fail c.args.self.now.store) (g.S.Lookup.table c.args.self.now.store) slots (names_of path) (onto way (names_of path)) c.in_ok-at.at.0 name
    (λ trees. AreFilled trees slots) (λ trees fit. fit) (last_split path c.in_ok-at.depth none c.if-depth-path.true) leads c.in_err-refuse_folder.field-0.0 c.in_err-refuse_folder.ensures.refused)

pub returns-in_err-at-clause-asked : goal.returns-in_err-at-clause-asked
returns-in_err-at-clause-asked g c =
    let p = err_from_is_err_and c.from_residual-in_err-at.result c.from_residual-in_err-at.ensures.1 in
    rw (p.1, p.2) (λ honest trees has. walk_into_stops (g.S.Lookup.is_honest c.args.self.now.store) (g.S.Lookup.may_fail c.args.self.now.store) (g.S.Lookup.table c.args.self.now.store) trees (slots_of c.args.self.now.nodes.items) c.args.from.0 c.args.path.now
    c.args.self.now.lookups c.walk.new.lookups c.in_err-at.field-0.0 (c.in_err-at.ensures.asked honest trees has) (some_names c.args.path.now c.in_ok-check_names.ensures.ok.0))

pub returns-in_err-refuse_folder-clause-asked : goal.returns-in_err-refuse_folder-clause-asked
returns-in_err-refuse_folder-clause-asked g c =
    let p = err_from_is_err_and c.from_residual-in_err-refuse_folder.result c.from_residual-in_err-refuse_folder.ensures.1 in
    let so = c.in_ok-at.ensures in
    let path = c.args.path.now in
    rw (p.1, p.2) (λ honest trees has. into_stops (g.S.Lookup.table c.args.self.now.store) trees (slots_of c.args.self.now.nodes.items) (slots_of c.walk.new.nodes.items) c.args.from.0 c.in_ok-at.at.0 path c.in_ok-at.depth c.args.self.now.lookups c.walk.new.lookups
    c.refuse_folder.new.lookups so.within.1 (λ more rest. none_into trees (slots_of c.walk.new.nodes.items) c.in_ok-at.at.0 _ rest (so.walked.blocked more)) (so.asked honest trees has)
    (g.S.Lookup.is_honest c.args.self.now.store) (g.S.Lookup.may_fail c.args.self.now.store) c.in_err-refuse_folder.field-0.0
    (late_folder (g.S.Lookup.is_honest c.args.self.now.store) (g.S.Lookup.may_fail c.args.self.now.store) (g.S.Lookup.table c.args.self.now.store) (slots_of c.refuse_folder.new.nodes.items) c.in_ok-at.at.0 _ c.in_err-refuse_folder.field-0.0
    c.in_err-refuse_folder.ensures.refused) _ (name_at path c.in_ok-at.depth so.within.1) (c.in_err-refuse_folder.ensures.asked honest trees has))

pub returns-clause-asked : goal.returns-clause-asked
returns-clause-asked g c = λ honest trees has.
    let table = g.S.Lookup.table c.args.self.now.store in
    let so = c.in_ok-at.ensures in
    let path = c.args.path.now in
    let walked = slots_of c.walk.new.nodes.items in
    let ids = unopened_into trees (slots_of c.args.self.now.nodes.items) c.args.from.0 (names_of path) in
    let free : c.in_ok-at.depth + 1 < length path → (rest : Path) → unopened_into trees walked c.in_ok-at.at.0 (get_or (names path) c.in_ok-at.depth [] ∷ rest) ≡ [] =
    λ more rest. none_into trees walked c.in_ok-at.at.0 _ rest (so.walked.blocked more) in
    elim c.if-depth-path.branch [
      | then-depth-path+in_ok-refuse_folder t ↦ subst (λ (e : Editor _). AsksAll table ids c.args.self.now.lookups e.lookups) (sym t.self-is)
          (into_asked table trees (slots_of c.args.self.now.nodes.items) walked c.args.from.0 c.in_ok-at.at.0 path c.in_ok-at.depth c.args.self.now.lookups c.walk.new.lookups t.refuse_folder.new.lookups so.within.1 free (so.asked honest trees has)
          _ (name_at path c.in_ok-at.depth so.within.1) (t.in_ok-refuse_folder.ensures.asked honest trees has))
      | else-depth-path t ↦ subst (λ (e : Editor _). AsksAll table ids c.args.self.now.lookups e.lookups) (sym t.self-is)
          (let lt : c.in_ok-at.depth + 1 < length path = omega (arith, so.within.1, t.if-depth-path.false) in
          into_asked table trees (slots_of c.args.self.now.nodes.items) walked c.args.from.0 c.in_ok-at.at.0 path c.in_ok-at.depth c.args.self.now.lookups c.walk.new.lookups c.walk.new.lookups so.within.1 free (so.asked honest trees has)
          (get_or (names path) c.in_ok-at.depth []) refl (asks_done table _ c.walk.new.lookups c.walk.new.lookups (asks_same table _ [] c.walk.new.lookups c.walk.new.lookups (free lt []) refl)))
    ]

pub returns-in_err-at-clause-kept : goal.returns-in_err-at-clause-kept
returns-in_err-at-clause-kept g c =
    let p = err_from_is_err_and c.from_residual-in_err-at.result c.from_residual-in_err-at.ensures.1 in
    rw p.1 (Refused.stopped g.S.Lookup.is_honest g.S.Lookup.table c.args.path.now _ c.args.self.now _ refl (omega (arith, c.walk.ensures.counted)) c.in_ok-check_names.ensures.ok _ c.walk.ensures.grows)

pub returns-in_err-refuse_folder-clause-kept : goal.returns-in_err-refuse_folder-clause-kept
returns-in_err-refuse_folder-clause-kept g c =
    let p = err_from_is_err_and c.from_residual-in_err-refuse_folder.result c.from_residual-in_err-refuse_folder.ensures.1 in
    rw p.1 (Refused.stopped g.S.Lookup.is_honest g.S.Lookup.table c.args.path.now _ c.args.self.now _ refl (omega (arith, c.walk.ensures.counted, c.refuse_folder.ensures.counted)) c.in_ok-check_names.ensures.ok _
    (grows_then c.walk.ensures.grows c.refuse_folder.ensures.grows))

pub returns-in_err-at-clause-stays : goal.returns-in_err-at-clause-stays
returns-in_err-at-clause-stays g c = keeps_grown c.args.from.0 c.requires c.walk.ensures.grows

pub returns-in_err-refuse_folder-clause-stays : goal.returns-in_err-refuse_folder-clause-stays
returns-in_err-refuse_folder-clause-stays g c = keeps_grown c.args.from.0 c.requires (grows_then c.walk.ensures.grows c.refuse_folder.ensures.grows)

pub returns-clause-kept : goal.returns-clause-kept
returns-clause-kept g c =
    elim c.if-depth-path.branch [
      | then-depth-path+in_ok-refuse_folder t ↦ Refused.kept_as t.self-is
          (let grows = grows_then c.walk.ensures.grows t.refuse_folder.ensures.grows in
          let cut = cut_given t.refuse_folder.new.nodes t.as_mut_slice.ensures.value t.as_mut_slice.ensures.len t.cut.ensures in
          Refused.made g.S.Lookup.is_honest g.S.Lookup.table c.args.path.now _ c.args.self.now _ refl (omega (arith, c.walk.ensures.counted, t.refuse_folder.ensures.counted)) c.in_ok-check_names.ensures.ok _ (cut_read grows cut)
          (λ h has down may each. cut_keeps_each grows cut h has down each))
      | else-depth-path t ↦ Refused.kept_as t.self-is
          (Refused.grown g.S.Lookup.is_honest g.S.Lookup.table c.args.path.now _ c.args.self.now _ refl (omega (arith, c.walk.ensures.counted)) c.in_ok-check_names.ensures.ok _ c.walk.ensures.grows)
    ]

pub returns-clause-stays : goal.returns-clause-stays
returns-clause-stays g c =
    elim c.if-depth-path.branch [
      | then-depth-path+in_ok-refuse_folder t ↦ subst (λ (e : Editor _). KeepsTree c.args.from.0 c.args.self.now e) (sym t.self-is)
          (let grows = grows_then c.walk.ensures.grows t.refuse_folder.ensures.grows in
          let cut = cut_given t.refuse_folder.new.nodes t.as_mut_slice.ensures.value t.as_mut_slice.ensures.len t.cut.ensures in
          keeps_edited t.refuse_folder.new.nodes.items c.args.from.0 c.in_ok-at.at.0 c.requires c.in_ok-at.ensures.walked.below grows (omega (arith, cut.len)) (cut_keeps_above grows cut))
      | else-depth-path t ↦ subst (λ (e : Editor _). KeepsTree c.args.from.0 c.args.self.now e) (sym t.self-is) (keeps_grown c.args.from.0 c.requires c.walk.ensures.grows)
    ]

pub returns-clause-removed : goal.returns-clause-removed
returns-clause-removed g c = λ way w.
    let path = c.args.path.now in
    let i = c.in_ok-at.depth in
    let so = c.in_ok-at.ensures in
    let start = reach c.args.self.now.nodes.items c.walk.new.nodes.items c.args.from.0 c.in_ok-at.at.0 i path c.walk.ensures.grows so.within.0 so.within.1 so.walked way w in
    elim c.if-depth-path.branch [
      | then-depth-path+in_ok-refuse_folder t ↦ subst (λ (e : Editor _). RemovesLeaf g.S.Lookup.is_honest g.S.Lookup.table (onto way (names_of path)) c.args.self.now e) (sym t.self-is)
          (let last = none_after path i t.if-depth-path.true in
          let r = reach_more start t.refuse_folder.ensures.grows (λ some. absurd (some last)) in
          record {
            removes = removes_cut g.S.Lookup.is_honest g.S.Lookup.table c.args.self.now _ r (cut_named path i so.within.1 (cut_given t.refuse_folder.new.nodes t.as_mut_slice.ensures.value t.as_mut_slice.ensures.len t.cut.ensures)) last;
            none_below = had_none_below g.S.Lookup.is_honest g.S.Lookup.table c.args.self.now r
                (subst (λ m. IsFolderAt (slots_of t.refuse_folder.new.nodes.items) c.in_ok-at.at.0 m None) (name_at path i so.within.1) t.in_ok-refuse_folder.ensures.plain);
          })
      | else-depth-path t ↦ subst (λ (e : Editor _). RemovesLeaf g.S.Lookup.is_honest g.S.Lookup.table (onto way (names_of path)) c.args.self.now e) (sym t.self-is)
          (let some = some_after path i so.within.1 t.if-depth-path.false in
          record {
            removes = removes_nothing_left g.S.Lookup.is_honest g.S.Lookup.table c.args.self.now _ start some;
            none_below = had_none_below g.S.Lookup.is_honest g.S.Lookup.table c.args.self.now start (no_files (slots_of c.walk.new.nodes.items) c.in_ok-at.at.0 _ (start.blocked some));
          })
    ]
