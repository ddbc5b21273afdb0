use Rattle.std.proofs.Common.{ℕ, refl, sym, subst, arith}
use Rattle.std.proofs.lemmas.Result.{err_from_is_err_and}
use Rattle.gix_object_editor.specs.declared.tree.editor.state.Editor.{Editor}
use Rattle.gix_object_editor.specs.Asked.{front_of, unopened_into, AsksAll}
use Rattle.gix_object_editor.specs.Editor.{names_of, LeadsThrough}
use Rattle.gix_object_editor.specs.Grown.{HasTree, IsMarkedOf}
use Rattle.gix_object_editor.specs.Outcomes.{KeepsTree, Removes}
use Rattle.gix_object_nodes.specs.Nodes.{slots_of, files_of_node, onto}
use Rattle.gix_object_editor.proofs.Asking.{through_asked, through_stops}
use Rattle.gix_object_editor.proofs.Edited.{cut_forest, cut_given, cut_keeps_above, cut_keeps_each, cut_marks, cut_named, cut_read, keeps_edited, keeps_grown, reach, removes_cut, removes_nothing_left}
use Rattle.gix_object_editor.proofs.Edits.{edit_fault, stopped_tree}
use Rattle.gix_object_editor.proofs.Growth.{grown_marked, none_into}
use Rattle.gix_object_editor.proofs.Raised.{none_after, some_after}
use Rattle.gix_object_editor.proofs.Refused as Refused
use Rattle.gix_object_editor.proofs.tree.editor.state.Editor.remove_from.Goals.{then-depth-path, else-depth-path}
use Rattle.gix_object_editor.proofs.tree.editor.state.Editor.remove_from.Goals as goal

pub walk-requires-clause-tree : goal.walk-requires-clause-tree
walk-requires-clause-tree g c = record { forest = c.args.self.now.forest; within = c.requires }

pub cut-requires-clause-tree : goal.cut-requires-clause-tree
cut-requires-clause-tree g c =
    subst (λ ns. HasTree ns c.in_ok-at.at.0) (sym c.as_mut_slice.ensures.value) (record { forest = c.walk.ensures.grows.opened.forest; within = c.in_ok-at.ensures.within.0 })

pub cut-requires-clause-marked : goal.cut-requires-clause-marked
cut-requires-clause-marked g c = subst IsMarkedOf (sym c.as_mut_slice.ensures.value) (grown_marked c.args.self.now.forest c.args.self.now.marked c.walk.ensures.grows)

pub invariant_of-self-then-depth-path : goal.invariant_of-self-then-depth-path
invariant_of-self-then-depth-path g c =
    let cut = cut_given c.walk.new.nodes c.as_mut_slice.ensures.value c.as_mut_slice.ensures.len c.cut.ensures in
    record { forest = cut_forest c.walk.ensures.grows cut; marked = cut_marks c.walk.ensures.grows cut }

pub invariant_of-self-else-depth-path : goal.invariant_of-self-else-depth-path
invariant_of-self-else-depth-path g c = record { forest = c.walk.ensures.grows.opened.forest; marked = grown_marked c.args.self.now.forest c.args.self.now.marked c.walk.ensures.grows }

pub returns-in_err-at-clause-refused : goal.returns-in_err-at-clause-refused
returns-in_err-at-clause-refused g c =
    let p = err_from_is_err_and c.from_residual-in_err-at.result c.from_residual-in_err-at.ensures.1 in
    let told = c.in_err-at.ensures.refused in
    rw (p.1, p.2) (λ way w. edit_fault (g.S.Lookup.is_honest c.args.self.now.store) (g.S.Lookup.may_fail c.args.self.now.store) (g.S.Lookup.table c.args.self.now.store) (names_of c.args.path.now)
    (LeadsThrough (λ trees. files_of_node trees (slots_of c.walk.new.nodes.items) 0) (onto way (names_of c.args.path.now))) c.in_err-at.field-0.0 told.0
    (stopped_tree (slots_of c.walk.new.nodes.items) (onto way (names_of c.args.path.now)) told.0 (told.1 way w)) told.2)

pub returns-in_err-at-clause-asked : goal.returns-in_err-at-clause-asked
returns-in_err-at-clause-asked g c =
    let p = err_from_is_err_and c.from_residual-in_err-at.result c.from_residual-in_err-at.ensures.1 in
    rw (p.1, p.2) (λ honest trees has. through_stops (g.S.Lookup.is_honest c.args.self.now.store) (g.S.Lookup.may_fail c.args.self.now.store) (g.S.Lookup.table c.args.self.now.store) trees (slots_of c.args.self.now.nodes.items) c.args.from.0 c.args.path.now
    c.args.self.now.lookups c.walk.new.lookups c.in_err-at.field-0.0 (c.in_err-at.ensures.asked honest trees has))

pub returns-in_err-at-clause-kept : goal.returns-in_err-at-clause-kept
returns-in_err-at-clause-kept g c =
    let p = err_from_is_err_and c.from_residual-in_err-at.result c.from_residual-in_err-at.ensures.1 in
    rw p.1 (Refused.stopped g.S.Lookup.is_honest g.S.Lookup.table c.args.path.now _ c.args.self.now _ refl (omega (arith, c.walk.ensures.counted)) c.in_ok-check_names.ensures.ok _ c.walk.ensures.grows)

pub returns-in_err-at-clause-stays : goal.returns-in_err-at-clause-stays
returns-in_err-at-clause-stays g c = keeps_grown c.args.from.0 c.requires c.walk.ensures.grows

pub returns-clause-asked : goal.returns-clause-asked
returns-clause-asked g c = λ honest trees has.
    let table = g.S.Lookup.table c.args.self.now.store in
    let so = c.in_ok-at.ensures in
    let ids = unopened_into trees (slots_of c.args.self.now.nodes.items) c.args.from.0 (front_of (names_of c.args.path.now)) in
    let all = through_asked table trees (slots_of c.args.self.now.nodes.items) (slots_of c.walk.new.nodes.items) c.args.from.0 c.in_ok-at.at.0 c.args.path.now c.in_ok-at.depth c.args.self.now.lookups c.walk.new.lookups c.walk.new.lookups so.within.1
    (λ more rest. none_into trees (slots_of c.walk.new.nodes.items) c.in_ok-at.at.0 _ rest (so.walked.blocked more)) (so.asked honest trees has) in
    elim c.if-depth-path.branch [
      | then-depth-path t ↦ subst (λ (e : Editor _). AsksAll table ids c.args.self.now.lookups e.lookups) (sym t.self-is) all
      | else-depth-path t ↦ subst (λ (e : Editor _). AsksAll table ids c.args.self.now.lookups e.lookups) (sym t.self-is) all
    ]

pub returns-clause-kept : goal.returns-clause-kept
returns-clause-kept g c =
    let grows = c.walk.ensures.grows in
    elim c.if-depth-path.branch [
      | then-depth-path t ↦ Refused.kept_as t.self-is
          (let cut = cut_given c.walk.new.nodes t.as_mut_slice.ensures.value t.as_mut_slice.ensures.len t.cut.ensures in
          Refused.made g.S.Lookup.is_honest g.S.Lookup.table c.args.path.now _ c.args.self.now _ refl (omega (arith, c.walk.ensures.counted)) c.in_ok-check_names.ensures.ok _ (cut_read grows cut)
          (λ h has down may each. cut_keeps_each grows cut h has down each))
      | else-depth-path t ↦ Refused.kept_as t.self-is
          (Refused.grown g.S.Lookup.is_honest g.S.Lookup.table c.args.path.now _ c.args.self.now _ refl (omega (arith, c.walk.ensures.counted)) c.in_ok-check_names.ensures.ok _ grows)
    ]

pub returns-clause-stays : goal.returns-clause-stays
returns-clause-stays g c =
    let grows = c.walk.ensures.grows in
    elim c.if-depth-path.branch [
      | then-depth-path t ↦ subst (λ (e : Editor _). KeepsTree c.args.from.0 c.args.self.now e) (sym t.self-is)
          (let cut = cut_given c.walk.new.nodes t.as_mut_slice.ensures.value t.as_mut_slice.ensures.len t.cut.ensures in
          keeps_edited c.walk.new.nodes.items c.args.from.0 c.in_ok-at.at.0 c.requires c.in_ok-at.ensures.walked.below grows (omega (arith, cut.len)) (cut_keeps_above grows cut))
      | else-depth-path t ↦ subst (λ (e : Editor _). KeepsTree c.args.from.0 c.args.self.now e) (sym t.self-is) (keeps_grown c.args.from.0 c.requires grows)
    ]

pub returns-clause-removed : goal.returns-clause-removed
returns-clause-removed g c = λ way w.
    let path = c.args.path.now in
    let i = c.in_ok-at.depth in
    let so = c.in_ok-at.ensures in
    let r = reach c.args.self.now.nodes.items c.walk.new.nodes.items c.args.from.0 c.in_ok-at.at.0 i path c.walk.ensures.grows so.within.0 so.within.1 so.walked way w in
    elim c.if-depth-path.branch [
      | then-depth-path t ↦ subst (λ (e : Editor _). Removes g.S.Lookup.is_honest g.S.Lookup.table (onto way (names_of path)) c.args.self.now e) (sym t.self-is)
          (removes_cut g.S.Lookup.is_honest g.S.Lookup.table c.args.self.now _ r (cut_named path i so.within.1 (cut_given c.walk.new.nodes t.as_mut_slice.ensures.value t.as_mut_slice.ensures.len t.cut.ensures)) (none_after path i t.if-depth-path.true))
      | else-depth-path t ↦ subst (λ (e : Editor _). Removes g.S.Lookup.is_honest g.S.Lookup.table (onto way (names_of path)) c.args.self.now e) (sym t.self-is)
          (removes_nothing_left g.S.Lookup.is_honest g.S.Lookup.table c.args.self.now _ r (some_after path i so.within.1 t.if-depth-path.false))
    ]
