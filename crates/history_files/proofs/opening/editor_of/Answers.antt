use Rattle.std.proofs.Common.{◌∙◌, ap, sym, subst, arith, map, []}
use Rattle.std.specs.FinMap.{empty}
use Rattle.std.proofs.lemmas.Result.{err_from_is_err_and}
use Rattle.gix_hash.specs.Id.{id_of}
use Rattle.gix_object_tree.specs.Entry.{own_item}
use Rattle.gix_object_editor.specs.Entries.{ItemsHave}
use Rattle.gix_object_nodes.specs.Files.{files_of_tree, no_trees}
use Rattle.gix_object_nodes.specs.Nodes.{slots_of}
use Rattle.history_files.specs.Lookups.{root_into}
use Rattle.history_files.proofs.Unopened.{none_into, same_into}
use Rattle.history_files.specs.Editing.{IsBase, root_id}
use Rattle.history_files.specs.Entries.{names_only, own_folders}
use Rattle.history_files.specs.Opening.{EditsFiles}
use Rattle.history_files.proofs.EmptyFiles.{empty_map, empty_trees, empty_unfolds}
use Rattle.history_files.proofs.Named.{own_trees}
use Rattle.history_files.proofs.Standing.{base_standing}
use Rattle.history_files.proofs.Breaks.{root_broken}
use Rattle.history_files.proofs.opening.editor_of.Goals as goal
use Rattle.gix_object_nodes.proofs.WrittenFiles.{no_files}

pub returns-in_ok-open_editor-in-Some-clause-base : goal.returns-in_ok-open_editor-in-Some-clause-base
returns-in_ok-open_editor-in-Some-clause-base g c = λ honest kind files base.
    let table = g.S.Lookup.table c.args.store.now in
    let is = subst (λ root. IsBase table kind (root_id root) files) c.in-Some.is base in
    record {
      standing = base_standing table kind files is.map (own_trees kind table files is.map is.trees);
      unfolds = c.in_ok-open_editor-in-Some.ensures.files honest kind files is;
      each = c.in_ok-open_editor-in-Some.ensures.each honest kind files is;
    }

pub returns-in_ok-new-in-None-clause-base : goal.returns-in_ok-new-in-None-clause-base
returns-in_ok-new-in-None-clause-base g c = λ honest kind files base.
    let table = g.S.Lookup.table c.args.store.now in
    let is = subst (λ root. IsBase table kind (root_id root) files) c.in-None.is base in
    let none = c.new-entries.ensures.items in
    subst (λ m. EditsFiles table kind (own_folders m) m c.in_ok-new-in-None.field-0) (sym is) (record {
      standing = base_standing table kind empty empty_map (empty_trees kind table);
      unfolds = λ trees stored. empty_unfolds kind _ (λ q. c.in_ok-new-in-None.ensures.root.files trees q ∙ ap (λ es. files_of_tree trees (map own_item es) q) none ∙ no_files trees q);
      each = c.in_ok-new-in-None.ensures.root.each (names_only kind (own_folders empty)) (subst (λ es. ItemsHave (names_only kind (own_folders empty)) (map own_item es)) (sym none) (λ k d within. absurd (omega arith)));
    })

pub returns-in_ok-open_editor-in-Some-clause-unopened : goal.returns-in_ok-open_editor-in-Some-clause-unopened
returns-in_ok-open_editor-in-Some-clause-unopened g c = λ honest trees stored names.
    c.in_ok-open_editor-in-Some.ensures.unopened honest trees stored names ∙ ap (λ root. root_into trees (root_id root) names) (sym c.in-Some.is)

pub returns-in_ok-new-in-None-clause-unopened : goal.returns-in_ok-new-in-None-clause-unopened
returns-in_ok-new-in-None-clause-unopened g c = λ honest trees stored names.
    same_into trees (slots_of c.in_ok-new-in-None.field-0.nodes.items) []
    (λ q. c.in_ok-new-in-None.ensures.root.files no_trees q ∙ ap (λ es. files_of_tree no_trees (map own_item es) q) c.new-entries.ensures.items) names
    ∙ none_into trees names ∙ ap (λ root. root_into trees (root_id root) names) (sym c.in-None.is)

pub returns-in_err-open_editor-in-Some-clause-broken : goal.returns-in_err-open_editor-in-Some-clause-broken
returns-in_err-open_editor-in-Some-clause-broken g c =
    let store = c.args.store.now in
    let p = err_from_is_err_and c.from_residual.result c.from_residual.ensures.1 in
    rw (p.1, p.2) (root_broken (g.S.Lookup.is_honest store) (g.S.Lookup.may_fail store) (g.S.Lookup.table store) (id_of c.in-Some.root.now) _ c.in_err-open_editor-in-Some.ensures.refused)
