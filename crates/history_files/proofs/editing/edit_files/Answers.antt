use Rattle.std.proofs.Common.{◌∙◌, ap, sym, subst, map, arith}
use Rattle.std.specs.List.{list_any}
use Rattle.std.proofs.lemmas.Result.{err_from_is_err_and}
use Rattle.gix_hash.specs.Id.{id_of}
use Rattle.gix_object_editor.specs.Asked.{CountsUp}
use Rattle.gix_object_editor.specs.Editor.{asked_by, files_of}
use Rattle.gix_object_editor.specs.Entries.{PassesDown}
use Rattle.gix_object_editor.specs.Stored.{HasStored}
use Rattle.gix_object_nodes.specs.Files.{is_null}
use Rattle.history_files.specs.Edits.{AreEdits, EditsMake, EditsPass}
use Rattle.history_files.specs.Editing.{root_id, standing}
use Rattle.history_files.specs.Lookups.{root_count, root_into}
use Rattle.history_files.specs.Opening.{EditsFiles, MakingFault, TellsBroken}
use Rattle.history_files.proofs.Counting.{asks_after, root_few}
use Rattle.history_files.specs.declared.trees.EditedTree.{EditedTree}
use Rattle.history_files.proofs.Leftover.{emptied_fault, emptied_paths, making_fault}
use Rattle.history_files.proofs.Outcome.{done, have_paths, no_paths, put_null, tree_null}
use Rattle.history_files.proofs.Parsed.{trees_in}
use Rattle.history_files.proofs.Standing.{base_map, emptied_stand, grafts_stand, opened_with}
use Rattle.history_files.proofs.StandInEdits.{emptied, empty_id, named_edits, stand_in_edits}
use Rattle.history_files.proofs.editing.edit_files.Goals as goal

pub returns-then-not-are_paths-clause-refused : goal.returns-then-not-are_paths-clause-refused
returns-then-not-are_paths-clause-refused g c = λ honest files made base named. no_paths (g.S.Lookup.table c.args.store.now) c.args.kind c.args.edits.now made named (sym c.are_paths.ensures ∙ c.if-not-are_paths.true)

pub returns-in_err-make_edits-clause-refused : goal.returns-in_err-make_edits-clause-refused
returns-in_err-make_edits-clause-refused g c = λ honest files made base named.
    let store = c.in_ok-editor.ensures.store in
    let here = subst (λ s. g.S.Lookup.is_honest s.now) (sym store) honest in
    let opened = c.in_ok-editor.editor in
    let kind = c.args.kind in
    let table = g.S.Lookup.table c.args.store.now in
    let paths = have_paths table kind c.args.edits.now made named (sym c.are_paths.ensures ∙ c.if-not-are_paths.false) in
    let same = c.as_slice.ensures.value ∙ c.in_ok-tested.ensures in
    let are = subst (λ es. AreEdits table kind es (map emptied made)) (sym same) (stand_in_edits table kind c.empty_blob.result (c.empty_blob.ensures ∙ sym (empty_id kind)) c.args.edits.now made named) in
    let can = subst (λ s. EditsFiles (g.S.Lookup.table s.now) kind (standing files made) files opened) (sym store) (opened_with table kind files opened (c.in_ok-editor.ensures.base honest kind files base) c.args.edits.now made named) in
    let p = err_from_is_err_and c.from_residual-in_err-make_edits.result c.from_residual-in_err-make_edits.ensures.1 in
    rw (p.1, p.2) (making_fault (g.S.Lookup.may_fail c.args.store.now) kind files made paths c.in_err-make_edits.field-0.0 (emptied_fault (g.S.Lookup.may_fail c.args.store.now) files made c.in_err-make_edits.field-0.0
    (subst (λ s. MakingFault (g.S.Lookup.may_fail s.now) files (map emptied made) c.in_err-make_edits.field-0.0) store
    (c.in_err-make_edits.ensures.refused here kind (standing files made) files (map emptied made) can (emptied_paths made ∙ paths)
    (subst (λ s. AreEdits (g.S.Lookup.table s.now) kind c.as_slice.result.now (map emptied made)) (sym store) are) (emptied_stand (standing files made) made (grafts_stand files made))))))

pub returns-then-has_null-clause-refused : goal.returns-then-has_null-clause-refused
returns-then-has_null-clause-refused g c = λ honest files made base named.
    let store = c.in_ok-editor.ensures.store in
    let here = subst (λ s. g.S.Lookup.is_honest s.now) (sym store) honest in
    put_null c.args.kind (g.S.Lookup.table c.args.store.now) files made c.args.edits.now named (sym c.are_paths.ensures ∙ c.if-not-are_paths.false) c.in_ok-editor.editor
    (base_map (g.S.Lookup.table c.args.store.now) c.args.kind (root_id c.args.root) files base)
    (opened_with (g.S.Lookup.table c.args.store.now) c.args.kind files c.in_ok-editor.editor (c.in_ok-editor.ensures.base honest c.args.kind files base) c.args.edits.now made named) (sym c.has_null.ensures ∙ c.if-has_null.true) c.as_slice.result.now c.empty_blob.result
    (c.as_slice.ensures.value ∙ c.in_ok-tested.ensures) c.empty_blob.ensures
    (subst (λ s. EditsPass (g.S.Lookup.table s.now) c.as_slice.result.now (λ trees. files_of trees c.in_ok-editor.editor)) store (c.in_ok-make_edits.ensures.accepted here))

pub returns-in_err-make_edits-2-clause-refused : goal.returns-in_err-make_edits-2-clause-refused
returns-in_err-make_edits-2-clause-refused g c = λ honest files made base named.
    let store = c.in_ok-editor.ensures.store in
    let here = subst (λ s. g.S.Lookup.is_honest s.now) (sym store) honest in
    let opened = c.in_ok-editor.editor in
    let kind = c.args.kind in
    let table = g.S.Lookup.table c.args.store.now in
    let paths = have_paths table kind c.args.edits.now made named (sym c.are_paths.ensures ∙ c.if-not-are_paths.false) in
    let are = named_edits table kind c.args.edits.now made named (sym c.has_null.ensures ∙ c.if-has_null.false) in
    let can = subst (λ s. EditsFiles (g.S.Lookup.table s.now) kind (standing files made) files opened) (sym store) (opened_with table kind files opened (c.in_ok-editor.ensures.base honest kind files base) c.args.edits.now made named) in
    let p = err_from_is_err_and c.from_residual-in_err-make_edits-2.result c.from_residual-in_err-make_edits-2.ensures.1 in
    rw (p.1, p.2) (making_fault (g.S.Lookup.may_fail c.args.store.now) kind files made paths c.in_err-make_edits-2.field-0.0
    (subst (λ s. MakingFault (g.S.Lookup.may_fail s.now) files made c.in_err-make_edits-2.field-0.0) store (c.in_err-make_edits-2.ensures.refused here kind (standing files made) files made can paths
    (subst (λ s. AreEdits (g.S.Lookup.table s.now) kind c.args.edits.now made) (sym store) are) (grafts_stand files made))))

pub returns-then-has_null_tree-clause-refused : goal.returns-then-has_null_tree-clause-refused
returns-then-has_null_tree-clause-refused g c = λ honest files made base named.
    let store = c.in_ok-editor.ensures.store in
    let here = subst (λ s. g.S.Lookup.is_honest s.now) (sym store) honest in
    let edits = c.args.edits.now in
    let opened = c.in_ok-editor.editor in
    let after = c.make_edits-2.new.editor in
    let table = g.S.Lookup.table c.args.store.now in
    tree_null c.args.kind table files made edits named (sym c.are_paths.ensures ∙ c.if-not-are_paths.false) opened
    (base_map table c.args.kind (root_id c.args.root) files base) (opened_with table c.args.kind files opened (c.in_ok-editor.ensures.base honest c.args.kind files base) edits made named) c.edits_keep.ensures (sym c.has_null.ensures ∙ c.if-has_null.false) (c.in_ok-editor.ensures.as_read (trees_in table)) after
    (subst (λ s. EditsMake (g.S.Lookup.table s.now) edits (λ trees. files_of trees opened) (λ trees. files_of trees after)) store (c.in_ok-make_edits-2.ensures.files here))
    (subst (λ s. EditsPass (g.S.Lookup.table s.now) edits (λ trees. files_of trees opened)) store (c.in_ok-make_edits-2.ensures.accepted here))
    (λ has down may each. c.make_edits-2.ensures.each here has (subst (λ s. PassesDown (g.S.Lookup.table s.now) has) (sym store) down) may each)
    (λ trees stored read. c.make_edits-2.ensures.as_read here trees (subst (λ s. HasStored (g.S.Lookup.table s.now) trees) (sym store) stored) read)
    c.in_ok-edited.edited c.in_ok-edited.ensures.trees
    (ap (list_any (λ (k : EditedTree). is_null (id_of k.id))) (sym c.as_slice-2.ensures.value) ∙ sym c.has_null_tree.ensures ∙ c.if-has_null_tree.true)

pub returns-clause-edited : goal.returns-clause-edited
returns-clause-edited g c = λ honest files made base named.
    let store = c.in_ok-editor.ensures.store in
    let here = subst (λ s. g.S.Lookup.is_honest s.now) (sym store) honest in
    let edits = c.args.edits.now in
    let opened = c.in_ok-editor.editor in
    let after = c.make_edits-2.new.editor in
    let table = g.S.Lookup.table c.args.store.now in
    done c.args.kind table files made edits named (sym c.are_paths.ensures ∙ c.if-not-are_paths.false) opened
    (base_map table c.args.kind (root_id c.args.root) files base) (opened_with table c.args.kind files opened (c.in_ok-editor.ensures.base honest c.args.kind files base) edits made named) c.edits_keep.ensures (sym c.has_null.ensures ∙ c.if-has_null.false) (c.in_ok-editor.ensures.as_read (trees_in table)) after
    (subst (λ s. EditsMake (g.S.Lookup.table s.now) edits (λ trees. files_of trees opened) (λ trees. files_of trees after)) store (c.in_ok-make_edits-2.ensures.files here))
    (subst (λ s. EditsPass (g.S.Lookup.table s.now) edits (λ trees. files_of trees opened)) store (c.in_ok-make_edits-2.ensures.accepted here))
    (λ has down may each. c.make_edits-2.ensures.each here has (subst (λ s. PassesDown (g.S.Lookup.table s.now) has) (sym store) down) may each)
    (λ trees stored read. c.make_edits-2.ensures.as_read here trees (subst (λ s. HasStored (g.S.Lookup.table s.now) trees) (sym store) stored) read)
    c.in_ok-edited.edited c.in_ok-edited.ensures.trees
    (ap (list_any (λ (k : EditedTree). is_null (id_of k.id))) (sym c.as_slice-2.ensures.value) ∙ sym c.has_null_tree.ensures ∙ c.if-has_null_tree.false)

pub returns-clause-asked : goal.returns-clause-asked
returns-clause-asked g c = λ honest trees stored fit.
    let store = c.in_ok-editor.ensures.store in
    let here = subst (λ s. g.S.Lookup.is_honest s.now) (sym store) honest in
    let opened = c.in_ok-editor.editor in
    let after = c.make_edits-2.new.editor in
    let root = root_id c.args.root in
    asks_after (λ names. asked_by opened names trees) (root_into trees root) c.args.edits.now (root_count root) opened.lookups after.lookups c.in_ok-edited.edited.lookups
    c.in_ok-editor.ensures.uncounted (c.in_ok-editor.ensures.unopened honest trees stored)
    (c.in_ok-make_edits-2.ensures.asked here trees (subst (λ s. HasStored (g.S.Lookup.table s.now) trees) (sym store) stored)) c.make_edits-2.ensures.counted
    (subst (λ n. CountsUp after.lookups c.in_ok-edited.edited.lookups n) c.roots.ensures c.in_ok-edited.ensures.asked) fit

pub returns-clause-counted : goal.returns-clause-counted
returns-clause-counted g c =
    let none = c.in_ok-editor.ensures.uncounted in
    let edits = c.make_edits-2.ensures.counted in
    let trees = c.in_ok-edited.ensures.counted in
    let roots = c.roots.ensures in
    let few = root_few (root_id c.args.root) in
    omega arith

pub returns-in_err-make_edits-clause-broken : goal.returns-in_err-make_edits-clause-broken
returns-in_err-make_edits-clause-broken g c =
    let p = err_from_is_err_and c.from_residual-in_err-make_edits.result c.from_residual-in_err-make_edits.ensures.1 in
    rw (p.1, p.2) (subst (λ s. TellsBroken (g.S.Lookup.is_honest s.now) (g.S.Lookup.table s.now) c.in_err-make_edits.field-0.0) c.in_ok-editor.ensures.store c.in_err-make_edits.ensures.broken)

pub returns-in_err-make_edits-2-clause-broken : goal.returns-in_err-make_edits-2-clause-broken
returns-in_err-make_edits-2-clause-broken g c =
    let p = err_from_is_err_and c.from_residual-in_err-make_edits-2.result c.from_residual-in_err-make_edits-2.ensures.1 in
    rw (p.1, p.2) (subst (λ s. TellsBroken (g.S.Lookup.is_honest s.now) (g.S.Lookup.table s.now) c.in_err-make_edits-2.field-0.0) c.in_ok-editor.ensures.store c.in_err-make_edits-2.ensures.broken)
