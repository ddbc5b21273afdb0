use Rattle.std.proofs.Common.{◌∙◌, ap, subst, sym, false, ◌||◌, [], ◌∷◌, length}
use Rattle.gix_hash.specs.Id.{id_of}
use Rattle.gix_object_nodes.specs.Files as unfolded
use Rattle.gix_object_nodes.specs.Files.{Path, Leaf, SameFiles, HasNoneBelow, IsEmptyTree}
use Rattle.gix_object_editor.specs.Asked.{CountsUp, front_of}
use Rattle.gix_object_editor.specs.Editor.{IsFilled, IsFolder, LeadsInto, LeadsThrough, asked_by, files_of, names_of, leaf_of_kind}
use Rattle.gix_object_editor.specs.Entries.{MayStand}
use Rattle.std.proofs.lemmas.Result.{err_from_is_err_and}
use Rattle.history_model.specs.FileMap.{some_refused}
use Rattle.history_files.specs.Entries.{MayPut, found_leaf, names_only}
use Rattle.history_files.proofs.Faults.{graft_fault, put_fault, remove_fault}
use Rattle.history_files.proofs.Named.{may_put, passes_down}
use Rattle.history_files.proofs.Standing.{change_in, isnt_empty_tree, stands_deeper, stands_inner}
use Rattle.history_files.proofs.Parsed.{has_stored, trees_in}
use Rattle.history_files.specs.Unfolding.{entry_kind}
use Rattle.history_files.specs.Edits.{IsChange}
use Rattle.history_files.specs.Lookups.{way_of}
use Rattle.history_files.proofs.Breaks.{edit_broken, graft_broken, leaf_broken}
use Rattle.history_files.proofs.Changes.{put_made, remove_made, file_removed, none_refused, graft_made, graft_passes}
use Rattle.history_files.proofs.edits.make_edit.Goals as goal

pub returns-in-Put-clause-files : goal.returns-in-Put-clause-files
returns-in-Put-clause-files g c = λ honest trees kind files made stored edit is.
    let path = c.args.edit.now.path.now in
    let names = ap names_of c.as_slice.ensures.value ∙ c.in_ok-names.ensures in
    let old = files_of trees c.args.editor.now in
    let new = files_of trees c.upsert.new.self in
    let after = subst (λ k. SameFiles new (unfolded.put trees (names_of c.as_slice.result.now) (leaf_of_kind k c.in-Put.id) old)) c.entry_kind.ensures (c.in_ok-upsert-in-Put.ensures.put.files honest trees stored) in
    put_made (g.S.Lookup.table c.args.editor.now.store) kind files old is path made new trees c.in-Put.kind c.in-Put.id (subst (λ change. IsChange (g.S.Lookup.table c.args.editor.now.store) kind path change made) c.in-Put.is edit)
    (λ q. after q ∙ ap (λ ps. unfolded.put trees ps (leaf_of_kind (entry_kind c.in-Put.kind) c.in-Put.id) old q) names)

pub returns-in-Remove-clause-files : goal.returns-in-Remove-clause-files
returns-in-Remove-clause-files g c = λ honest trees kind files made stored edit is.
    let path = c.args.edit.now.path.now in
    let names = ap names_of c.as_slice-in-Remove.ensures.value ∙ c.in_ok-names.ensures in
    let old = files_of trees c.args.editor.now in
    remove_made (g.S.Lookup.table c.args.editor.now.store) kind files old is path made (files_of trees c.remove.new.self) (subst (λ change. IsChange (g.S.Lookup.table c.args.editor.now.store) kind path change made) c.in-Remove.is edit)
    (λ q. c.in_ok-remove-in-Remove.ensures.removed.files honest trees stored q ∙ ap (λ ps. unfolded.removed ps old q) names)

pub returns-in-RemoveFile-clause-files : goal.returns-in-RemoveFile-clause-files
returns-in-RemoveFile-clause-files g c = λ honest trees kind files made stored edit is.
    let path = c.args.edit.now.path.now in
    let names = ap names_of c.as_slice-in-RemoveFile.ensures.value ∙ c.in_ok-names.ensures in
    let old = files_of trees c.args.editor.now in
    file_removed (g.S.Lookup.table c.args.editor.now.store) kind files old is path made (files_of trees c.remove_leaf.new.self) (subst (λ change. IsChange (g.S.Lookup.table c.args.editor.now.store) kind path change made) c.in-RemoveFile.is edit)
    (λ q. c.in_ok-remove_leaf-in-RemoveFile.ensures.removed.removes.files honest trees stored q ∙ ap (λ ps. unfolded.removed ps old q) names)

pub returns-in-RemoveFile-clause-accepted : goal.returns-in-RemoveFile-clause-accepted
returns-in-RemoveFile-clause-accepted g c = λ honest trees kind files made stored edit is.
    let path = c.args.edit.now.path.now in
    let names = ap names_of c.as_slice-in-RemoveFile.ensures.value ∙ c.in_ok-names.ensures in
    let old = files_of trees c.args.editor.now in
    none_refused (g.S.Lookup.table c.args.editor.now.store) kind files old is path made (files_of trees c.remove_leaf.new.self) (subst (λ change. IsChange (g.S.Lookup.table c.args.editor.now.store) kind path change made) c.in-RemoveFile.is edit)
    (subst (λ ps. HasNoneBelow ps old) names (c.in_ok-remove_leaf-in-RemoveFile.ensures.removed.none_below honest trees stored))

pub returns-in_err-upsert-in-Put-clause-each : goal.returns-in_err-upsert-in-Put-clause-each
returns-in_err-upsert-in-Put-clause-each g c = λ honest has down may each.
    let names = ap names_of c.as_slice.ensures.value ∙ c.in_ok-names.ensures in
    let put = subst (MayPut has c.args.edit.now.path.now) c.in-Put.is may in
    c.upsert.ensures.kept.each honest has down
    (subst (λ k. MayStand has (names_of c.as_slice.result.now) (leaf_of_kind k c.in-Put.id)) (sym c.entry_kind.ensures) (subst (λ ps. MayStand has ps (leaf_of_kind (entry_kind c.in-Put.kind) c.in-Put.id)) (sym names) put)) each

pub returns-in-Put-clause-each : goal.returns-in-Put-clause-each
returns-in-Put-clause-each g c = λ honest has down may each.
    let names = ap names_of c.as_slice.ensures.value ∙ c.in_ok-names.ensures in
    let put = subst (MayPut has c.args.edit.now.path.now) c.in-Put.is may in
    c.upsert.ensures.kept.each honest has down
    (subst (λ k. MayStand has (names_of c.as_slice.result.now) (leaf_of_kind k c.in-Put.id)) (sym c.entry_kind.ensures) (subst (λ ps. MayStand has ps (leaf_of_kind (entry_kind c.in-Put.kind) c.in-Put.id)) (sym names) put)) each

pub returns-in_err-remove-in-Remove-clause-each : goal.returns-in_err-remove-in-Remove-clause-each
returns-in_err-remove-in-Remove-clause-each g c = λ honest has down may each. c.remove.ensures.kept.each honest has down tt each

pub returns-in-Remove-clause-each : goal.returns-in-Remove-clause-each
returns-in-Remove-clause-each g c = λ honest has down may each. c.remove.ensures.kept.each honest has down tt each

pub returns-in_err-remove_leaf-in-RemoveFile-clause-each : goal.returns-in_err-remove_leaf-in-RemoveFile-clause-each
returns-in_err-remove_leaf-in-RemoveFile-clause-each g c = λ honest has down may each. c.remove_leaf.ensures.kept.each honest has down tt each

pub returns-in-RemoveFile-clause-each : goal.returns-in-RemoveFile-clause-each
returns-in-RemoveFile-clause-each g c = λ honest has down may each. c.remove_leaf.ensures.kept.each honest has down tt each

pub returns-in_err-upsert-in-Put-clause-refused : goal.returns-in_err-upsert-in-Put-clause-refused
returns-in_err-upsert-in-Put-clause-refused g c = λ honest kind stands files made can fine edit lies.
    let table = g.S.Lookup.table c.args.editor.now.store in
    let down = passes_down kind stands table stands (stands_inner table kind stands can.standing) (stands_deeper table kind stands can.standing) in
    let each = (returns-in_err-upsert-in-Put-clause-each g c) honest (names_only kind stands) down
    (may_put kind stands c.args.edit.now.path.now c.args.edit.now.change fine (change_in table kind stands c.args.edit.now.path.now c.args.edit.now.change made edit lies)) can.each in
    let p = err_from_is_err_and c.from_residual-in_err-upsert-in-Put.result c.from_residual-in_err-upsert-in-Put.ensures.1 in
    rw (p.1, p.2) (put_fault (g.S.Lookup.is_honest c.args.editor.now.store) (g.S.Lookup.may_fail c.args.editor.now.store) honest kind table stands files (made ∷ []) c.args.editor.now c.upsert.new.self can each
    c.args.edit.now.path.now fine (names_of c.as_slice.result.now) (ap names_of c.as_slice.ensures.value ∙ c.in_ok-names.ensures) _ c.in_err-upsert-in-Put.ensures.refused)

pub returns-in_err-remove-in-Remove-clause-refused : goal.returns-in_err-remove-in-Remove-clause-refused
returns-in_err-remove-in-Remove-clause-refused g c = λ honest kind stands files made can fine edit lies.
    let table = g.S.Lookup.table c.args.editor.now.store in
    let down = passes_down kind stands table stands (stands_inner table kind stands can.standing) (stands_deeper table kind stands can.standing) in
    let each = (returns-in_err-remove-in-Remove-clause-each g c) honest (names_only kind stands) down
    (may_put kind stands c.args.edit.now.path.now c.args.edit.now.change fine (change_in table kind stands c.args.edit.now.path.now c.args.edit.now.change made edit lies)) can.each in
    let p = err_from_is_err_and c.from_residual-in_err-remove-in-Remove.result c.from_residual-in_err-remove-in-Remove.ensures.1 in
    rw (p.1, p.2) (put_fault (g.S.Lookup.is_honest c.args.editor.now.store) (g.S.Lookup.may_fail c.args.editor.now.store) honest kind table stands files (made ∷ []) c.args.editor.now c.remove.new.self can each
    c.args.edit.now.path.now fine (names_of c.as_slice-in-Remove.result.now) (ap names_of c.as_slice-in-Remove.ensures.value ∙ c.in_ok-names.ensures) _ c.in_err-remove-in-Remove.ensures.refused)

pub returns-in_err-remove_leaf-in-RemoveFile-clause-refused : goal.returns-in_err-remove_leaf-in-RemoveFile-clause-refused
returns-in_err-remove_leaf-in-RemoveFile-clause-refused g c = λ honest kind stands files made can fine edit lies.
    let table = g.S.Lookup.table c.args.editor.now.store in
    let down = passes_down kind stands table stands (stands_inner table kind stands can.standing) (stands_deeper table kind stands can.standing) in
    let each = (returns-in_err-remove_leaf-in-RemoveFile-clause-each g c) honest (names_only kind stands) down
    (may_put kind stands c.args.edit.now.path.now c.args.edit.now.change fine (change_in table kind stands c.args.edit.now.path.now c.args.edit.now.change made edit lies)) can.each in
    let path = c.args.edit.now.path.now in
    let is = subst (λ change. IsChange (g.S.Lookup.table c.args.editor.now.store) kind path change made) c.in-RemoveFile.is edit in
    let p = err_from_is_err_and c.from_residual-in_err-remove_leaf-in-RemoveFile.result c.from_residual-in_err-remove_leaf-in-RemoveFile.ensures.1 in
    rw (p.1, p.2) (remove_fault (g.S.Lookup.is_honest c.args.editor.now.store) (g.S.Lookup.may_fail c.args.editor.now.store) honest kind table stands files (made ∷ []) c.args.editor.now c.remove_leaf.new.self can each
    path fine (names_of c.as_slice-in-RemoveFile.result.now) (ap names_of c.as_slice-in-RemoveFile.ensures.value ∙ c.in_ok-names.ensures)
    (c.in_err-remove_leaf-in-RemoveFile.ensures.kept.unchanged honest (trees_in table) (has_stored table))
    (λ below. ap (λ e. some_refused files (e ∷ [])) is ∙ ap (λ b. b || false) below) _ c.in_err-remove_leaf-in-RemoveFile.ensures.refused)

pub returns-in-Put-clause-asked : goal.returns-in-Put-clause-asked
returns-in-Put-clause-asked g c = λ honest trees stored.
    let old = c.args.editor.now in
    let now = c.upsert.new.self.lookups in
    let names = ap names_of c.as_slice.ensures.value ∙ c.in_ok-names.ensures in
    subst (λ change. CountsUp old.lookups now (length (asked_by old (way_of c.args.edit.now.path.now change) trees))) (sym c.in-Put.is)
    (subst (λ (ps : Path). CountsUp old.lookups now (length (asked_by old (front_of ps) trees))) names (c.in_ok-upsert-in-Put.ensures.asked honest trees stored).1)

pub returns-in-Remove-clause-asked : goal.returns-in-Remove-clause-asked
returns-in-Remove-clause-asked g c = λ honest trees stored.
    let old = c.args.editor.now in
    let now = c.remove.new.self.lookups in
    let names = ap names_of c.as_slice-in-Remove.ensures.value ∙ c.in_ok-names.ensures in
    subst (λ change. CountsUp old.lookups now (length (asked_by old (way_of c.args.edit.now.path.now change) trees))) (sym c.in-Remove.is)
    (subst (λ (ps : Path). CountsUp old.lookups now (length (asked_by old (front_of ps) trees))) names (c.in_ok-remove-in-Remove.ensures.asked honest trees stored).1)

pub returns-in-RemoveFile-clause-asked : goal.returns-in-RemoveFile-clause-asked
returns-in-RemoveFile-clause-asked g c = λ honest trees stored.
    let old = c.args.editor.now in
    let now = c.remove_leaf.new.self.lookups in
    let names = ap names_of c.as_slice-in-RemoveFile.ensures.value ∙ c.in_ok-names.ensures in
    subst (λ change. CountsUp old.lookups now (length (asked_by old (way_of c.args.edit.now.path.now change) trees))) (sym c.in-RemoveFile.is)
    (subst (λ (ps : Path). CountsUp old.lookups now (length (asked_by old (ps) trees))) names (c.in_ok-remove_leaf-in-RemoveFile.ensures.asked honest trees stored).1)

pub returns-in_err-upsert-in-Put-clause-broken : goal.returns-in_err-upsert-in-Put-clause-broken
returns-in_err-upsert-in-Put-clause-broken g c =
    let store = c.args.editor.now.store in
    let names = names_of c.as_slice.result.now in
    let p = err_from_is_err_and c.from_residual-in_err-upsert-in-Put.result c.from_residual-in_err-upsert-in-Put.ensures.1 in
    rw (p.1, p.2) (edit_broken (g.S.Lookup.is_honest store) (g.S.Lookup.may_fail store) (g.S.Lookup.table store) names (LeadsThrough (λ trees. files_of trees c.upsert.new.self) names) _ c.in_err-upsert-in-Put.ensures.refused)

pub returns-in_err-remove-in-Remove-clause-broken : goal.returns-in_err-remove-in-Remove-clause-broken
returns-in_err-remove-in-Remove-clause-broken g c =
    let store = c.args.editor.now.store in
    let names = names_of c.as_slice-in-Remove.result.now in
    let p = err_from_is_err_and c.from_residual-in_err-remove-in-Remove.result c.from_residual-in_err-remove-in-Remove.ensures.1 in
    rw (p.1, p.2) (edit_broken (g.S.Lookup.is_honest store) (g.S.Lookup.may_fail store) (g.S.Lookup.table store) names (LeadsThrough (λ trees. files_of trees c.remove.new.self) names) _ c.in_err-remove-in-Remove.ensures.refused)

pub returns-in_err-remove_leaf-in-RemoveFile-clause-broken : goal.returns-in_err-remove_leaf-in-RemoveFile-clause-broken
returns-in_err-remove_leaf-in-RemoveFile-clause-broken g c =
    let store = c.args.editor.now.store in
    let names = names_of c.as_slice-in-RemoveFile.result.now in
    let p = err_from_is_err_and c.from_residual-in_err-remove_leaf-in-RemoveFile.result c.from_residual-in_err-remove_leaf-in-RemoveFile.ensures.1 in
    rw (p.1, p.2) (leaf_broken (g.S.Lookup.is_honest store) (g.S.Lookup.may_fail store) (g.S.Lookup.table store) names (LeadsInto (λ trees. files_of trees c.remove_leaf.new.self) names)
    (IsFolder (λ trees. IsFilled trees c.remove_leaf.new.self) (λ trees. files_of trees c.remove_leaf.new.self) names) _ c.in_err-remove_leaf-in-RemoveFile.ensures.refused)

-- ---- a graft

pub returns-clause-files : goal.returns-clause-files
returns-clause-files g c = λ honest trees kind files made stored edit is.
    let path = c.args.edit.now.path.now in
    let names = ap names_of c.as_slice-in-Graft.ensures.value ∙ c.in_ok-names.ensures in
    let old = files_of trees c.args.editor.now in
    let new = files_of trees c.graft.new.self in
    let after = c.in_ok-graft-in-Graft.ensures.grafted.put.files honest trees stored in
    graft_made (g.S.Lookup.table c.args.editor.now.store) kind files old is path made new trees c.in-Graft.found stored
    (subst (λ change. IsChange (g.S.Lookup.table c.args.editor.now.store) kind path change made) c.in-Graft.is edit)
    (λ q. after q ∙ (λ i. unfolded.put trees (names i) (c.entry_for-entry.ensures i) old q))

pub returns-clause-accepted : goal.returns-clause-accepted
returns-clause-accepted g c = λ honest trees kind files made stored edit is.
    let path = c.args.edit.now.path.now in
    graft_passes (g.S.Lookup.table c.args.editor.now.store) kind files (files_of trees c.args.editor.now) is path made (files_of trees c.graft.new.self) c.in-Graft.found
    (subst (λ change. IsChange (g.S.Lookup.table c.args.editor.now.store) kind path change made) c.in-Graft.is edit)

pub returns-in_err-graft-in-Graft-clause-each : goal.returns-in_err-graft-in-Graft-clause-each
returns-in_err-graft-in-Graft-clause-each g c = λ honest has down may each.
    let names = ap names_of c.as_slice-in-Graft.ensures.value ∙ c.in_ok-names.ensures in
    let put = subst (MayPut has c.args.edit.now.path.now) c.in-Graft.is may in
    c.graft.ensures.kept.each honest has down (λ some. subst (MayStand has (names_of c.as_slice-in-Graft.result.now)) (sym c.entry_for-entry.ensures) (subst (λ ps. MayStand has ps (found_leaf c.in-Graft.found)) (sym names) put)) each

pub returns-clause-each : goal.returns-clause-each
returns-clause-each g c = λ honest has down may each.
    let names = ap names_of c.as_slice-in-Graft.ensures.value ∙ c.in_ok-names.ensures in
    let put = subst (MayPut has c.args.edit.now.path.now) c.in-Graft.is may in
    c.graft.ensures.kept.each honest has down (λ some. subst (MayStand has (names_of c.as_slice-in-Graft.result.now)) (sym c.entry_for-entry.ensures) (subst (λ ps. MayStand has ps (found_leaf c.in-Graft.found)) (sym names) put)) each

pub returns-in_err-graft-in-Graft-clause-refused : goal.returns-in_err-graft-in-Graft-clause-refused
returns-in_err-graft-in-Graft-clause-refused g c = λ honest kind stands files made can fine edit lies.
    let table = g.S.Lookup.table c.args.editor.now.store in
    let path = c.args.edit.now.path.now in
    let down = passes_down kind stands table stands (stands_inner table kind stands can.standing) (stands_deeper table kind stands can.standing) in
    let each = (returns-in_err-graft-in-Graft-clause-each g c) honest (names_only kind stands) down
    (may_put kind stands path c.args.edit.now.change fine (change_in table kind stands path c.args.edit.now.change made edit lies)) can.each in
    let is = subst (λ change. IsChange table kind path change made) c.in-Graft.is edit in
    let id = ap (λ (l : Leaf). l.id) c.entry_for-entry.ensures in
    let p = err_from_is_err_and c.from_residual-in_err-graft-in-Graft.result c.from_residual-in_err-graft-in-Graft.ensures.1 in
    rw (p.1, p.2) (graft_fault (g.S.Lookup.is_honest c.args.editor.now.store) (g.S.Lookup.may_fail c.args.editor.now.store) honest kind table stands files (made ∷ []) c.args.editor.now c.graft.new.self can each
    path fine (names_of c.as_slice-in-Graft.result.now) (ap names_of c.as_slice-in-Graft.ensures.value ∙ c.in_ok-names.ensures)
    (id_of c.entry_for-entry.result.id) (λ empty. isnt_empty_tree table kind path c.in-Graft.found made is (subst IsEmptyTree id empty)) _ c.in_err-graft-in-Graft.ensures.refused)

pub returns-clause-asked : goal.returns-clause-asked
returns-clause-asked g c = λ honest trees stored.
    let old = c.args.editor.now in
    let now = c.graft.new.self.lookups in
    let names = ap names_of c.as_slice-in-Graft.ensures.value ∙ c.in_ok-names.ensures in
    subst (λ change. CountsUp old.lookups now (length (asked_by old (way_of c.args.edit.now.path.now change) trees))) (sym c.in-Graft.is)
    (subst (λ (ps : Path). CountsUp old.lookups now (length (asked_by old (front_of ps) trees))) names (c.in_ok-graft-in-Graft.ensures.asked honest trees stored).1)

pub returns-in_err-graft-in-Graft-clause-broken : goal.returns-in_err-graft-in-Graft-clause-broken
returns-in_err-graft-in-Graft-clause-broken g c =
    let store = c.args.editor.now.store in
    let names = names_of c.as_slice-in-Graft.result.now in
    let p = err_from_is_err_and c.from_residual-in_err-graft-in-Graft.result c.from_residual-in_err-graft-in-Graft.ensures.1 in
    rw (p.1, p.2) (graft_broken (g.S.Lookup.is_honest store) (g.S.Lookup.may_fail store) (g.S.Lookup.table store) names (id_of c.entry_for-entry.result.id) (LeadsThrough (λ trees. files_of trees c.graft.new.self) names) _ c.in_err-graft-in-Graft.ensures.refused)
