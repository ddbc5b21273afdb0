use Rattle.std.proofs.Common.{[], ◌∷◌, ◌∙◌, ap, sym, subst}
use Rattle.gix_object_editor.specs.Grown.{IsFolderOf}
use Rattle.gix_object_editor.proofs.Growth.{no_files}
use Rattle.gix_object_nodes.proofs.Ways.{child_files}
use Rattle.std.proofs.lemmas.Result.{err_from_is_err_and}
use Rattle.gix_object_nodes.specs.Nodes.{slots_of, files_of_node}
use Rattle.gix_object_editor.proofs.Edits.{opened_fault}
use Rattle.gix_object_editor.proofs.Asking.{asked_whole, some_all}
use Rattle.gix_object_editor.proofs.tree.editor.filled.refuse_folder.Goals as goal

pub returns-in_err-folder-clause-refused : goal.returns-in_err-folder-clause-refused
returns-in_err-folder-clause-refused g c =
    let p = err_from_is_err_and c.from_residual.result c.from_residual.ensures.1 in
    rw (p.1, p.2) (opened_fault (g.S.Lookup.is_honest c.args.store.now) (g.S.Lookup.may_fail c.args.store.now) (g.S.Lookup.table c.args.store.now) (slots_of c.«open».new.nodes.items) c.args.at.0 c.args.name.now
    c.in_err-folder.field-0.0 c.in_err-folder.ensures.refused)

pub returns-in_err-folder-clause-asked : goal.returns-in_err-folder-clause-asked
returns-in_err-folder-clause-asked g c =
    let p = err_from_is_err_and c.from_residual.result c.from_residual.ensures.1 in
    rw (p.1, p.2) (λ honest trees has. c.in_err-folder.ensures.asked honest trees has [])

pub returns-in_default-clause-asked : goal.returns-in_default-clause-asked
returns-in_default-clause-asked g c = λ honest trees has. asked_whole (g.S.Lookup.table c.args.store.now) trees (slots_of c.«open».new.nodes.items) c.in_ok-folder.field-0 _ c.args.lookups.now c.«open».new.lookups (c.in_ok-folder.ensures.asked honest trees has [])

pub returns-in_err-filename-clause-asked : goal.returns-in_err-filename-clause-asked
returns-in_err-filename-clause-asked g c =
    let p = err_from_is_err_and c.from_residual-in_err-filename.result c.from_residual-in_err-filename.ensures.1 in
    rw (p.1, p.2) (λ honest trees has. some_all (g.S.Lookup.table c.args.store.now) _ c.args.lookups.now c.«open».new.lookups (asked_whole (g.S.Lookup.table c.args.store.now) trees (slots_of c.«open».new.nodes.items) c.in_ok-folder.field-0 _ c.args.lookups.now c.«open».new.lookups (c.in_ok-folder.ensures.asked honest trees has [])))

pub returns-then-has_file-clause-asked : goal.returns-then-has_file-clause-asked
returns-then-has_file-clause-asked g c = λ honest trees has. asked_whole (g.S.Lookup.table c.args.store.now) trees (slots_of c.«open».new.nodes.items) c.in_ok-folder.field-0 _ c.args.lookups.now c.«open».new.lookups (c.in_ok-folder.ensures.asked honest trees has [])

pub returns-clause-asked : goal.returns-clause-asked
returns-clause-asked g c = λ honest trees has. asked_whole (g.S.Lookup.table c.args.store.now) trees (slots_of c.«open».new.nodes.items) c.in_ok-folder.field-0 _ c.args.lookups.now c.«open».new.lookups (c.in_ok-folder.ensures.asked honest trees has [])

pub open-requires : goal.open-requires
open-requires g c = c.requires

pub returns-in_default-clause-plain : goal.returns-in_default-clause-plain
returns-in_default-clause-plain g c =
    let found = subst (IsFolderOf c.args.nodes.now.items c.«open».new.nodes.items c.args.at.0 c.args.name.now) c.in_default.is c.in_ok-folder.ensures.found in
    no_files (slots_of c.«open».new.nodes.items) c.args.at.0 c.args.name.now found.0

pub returns-clause-plain : goal.returns-clause-plain
returns-clause-plain g c = λ trees m rest.
    let found = subst (IsFolderOf c.args.nodes.now.items c.«open».new.nodes.items c.args.at.0 c.args.name.now) c.in-Some.is c.in_ok-folder.ensures.found in
    let new = c.«open».new.nodes.items in
    child_files trees (slots_of new) m rest (slots_of new c.args.at.0 c.args.name.now) c.in-Some.folder.0 found.0
    ∙ ap (λ ns. files_of_node trees (slots_of ns) c.in-Some.folder.0 (m ∷ rest)) (sym c.as_slice.ensures.value) ∙ c.has_file.ensures.none c.if-has_file.false trees m rest
