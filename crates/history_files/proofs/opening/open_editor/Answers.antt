use Rattle.std.proofs.Common.{◌≡◌, ◌∙◌, ap, sym, subst, refl, map}
use Rattle.std.proofs.lemmas.Result.{err_from_is_err_and}
use Rattle.gix_hash.specs.Id.{id_of}
use Rattle.gix_object_tree.specs.Entry.{item_of, own_item}
use Rattle.gix_object_tree.specs.WellFormed.{IsWellFormed}
use Rattle.gix_object_editor.specs.Asked.{ids_from}
use Rattle.gix_object_nodes.specs.Files.{files_of_tree, no_trees}
use Rattle.gix_object_nodes.specs.Nodes.{slots_of}
use Rattle.history_files.specs.Lookups.{items_into}
use Rattle.history_files.proofs.Unopened.{same_into}
use Rattle.gix_object_editor.specs.Editor.{files_of}
use Rattle.gix_object_editor.specs.Entries.{ItemsHave}
use Rattle.gix_object_lines.specs.declared.kind.Kind.TheVariants as objects
use Rattle.gix_object_any.specs.Object.{Tree}
use Rattle.gix_object_find.specs.Values.{StandsAs}
use Rattle.history_model.proofs.WholeLists.{clash}
use Rattle.history_model.proofs.WholeRoots.{has_all}
use Rattle.history_files.specs.Unfolding.{IsInTable}
use Rattle.history_files.specs.Entries.{names_only, own_folders}
use Rattle.history_files.proofs.Inside.{own_among}
use Rattle.history_files.proofs.Named.{items_have}
use Rattle.history_files.proofs.Items.{items}
use Rattle.history_files.proofs.AtNames.{tree_of_map}
use Rattle.history_files.proofs.Changes.{same_unfolded}
use Rattle.history_files.proofs.Read.{same_tree, not_opened}
use Rattle.history_files.proofs.Unfolded.{root_unfolds}
use Rattle.history_files.proofs.Opened.{own_root}
use Rattle.history_files.specs.declared.error.ReadError.TheVariants.{Broken}
use Rattle.history_files.proofs.opening.open_editor.Goals as goal

pub returns-in_err-entries-clause-refused : goal.returns-in_err-entries-clause-refused
returns-in_err-entries-clause-refused g c =
    let p = err_from_is_err_and c.from_residual.result c.from_residual.ensures.1 in
    rw (p.1, p.2) (not_opened (g.S.Lookup.is_honest c.args.store) (g.S.Lookup.may_fail c.args.store) (g.S.Lookup.table c.args.store) (id_of c.args.root.now) _ c.in_err-entries.ensures.refused)

pub returns-then-not-is_well_formed-clause-refused : goal.returns-then-not-is_well_formed-clause-refused
returns-then-not-is_well_formed-clause-refused g c = (
  refl,
  λ honest all stands fine.
      let table = g.S.Lookup.table c.args.store in
      let own : map own_item c.in_ok-tree.tree.entries.items ≡ all = c.in_ok-tree.ensures ∙ same_tree table (id_of c.args.root.now) (map item_of c.in_ok-entries.entries.items) all (c.in_ok-entries.ensures.read honest) stands in
      clash (c.is_well_formed.ensures.1 (subst IsWellFormed (sym own) fine)) c.if-not-is_well_formed.true,
)

pub returns-clause-files : goal.returns-clause-files
returns-clause-files g c = λ honest kind files is trees stored.
    let table = g.S.Lookup.table c.args.store in
    let here = subst (λ i. StandsAs table i objects.Tree (Tree (items kind files))) (sym is.id) (tree_of_map table kind files is.map (has_all (IsInTable table kind) files is.trees)) in
    let own : map own_item c.in_ok-tree.tree.entries.items ≡ items kind files =
    c.in_ok-tree.ensures ∙ same_tree table (id_of c.args.root.now) (map item_of c.in_ok-entries.entries.items) (items kind files) (c.in_ok-entries.ensures.read honest) here in
    same_unfolded kind files (files_of_tree trees (items kind files)) (files_of trees c.in_ok-new.field-0) (root_unfolds kind table trees stored files is.map is.trees)
    (λ q. c.in_ok-new.ensures.root.files trees q ∙ ap (λ all. files_of_tree trees all q) own)

pub returns-in_err-entries-clause-own : goal.returns-in_err-entries-clause-own
returns-in_err-entries-clause-own g c = λ honest kind files is.
    let p = err_from_is_err_and c.from_residual.result c.from_residual.ensures.1 in
    let table = g.S.Lookup.table c.args.store in
    rw (p.1, p.2) (own_root (g.S.Lookup.is_honest c.args.store) (g.S.Lookup.may_fail c.args.store) table kind files (id_of c.args.root.now) honest is _
    (not_opened (g.S.Lookup.is_honest c.args.store) (g.S.Lookup.may_fail c.args.store) table (id_of c.args.root.now) _ c.in_err-entries.ensures.refused))

pub returns-then-not-is_well_formed-clause-own : goal.returns-then-not-is_well_formed-clause-own
returns-then-not-is_well_formed-clause-own g c = λ honest kind files is.
    own_root (g.S.Lookup.is_honest c.args.store) (g.S.Lookup.may_fail c.args.store) (g.S.Lookup.table c.args.store) kind files (id_of c.args.root.now) honest is (Broken c.args.root.now)
    (returns-then-not-is_well_formed-clause-refused g c)

pub returns-clause-each : goal.returns-clause-each
returns-clause-each g c = λ honest kind files is.
    let table = g.S.Lookup.table c.args.store in
    let here = subst (λ i. StandsAs table i objects.Tree (Tree (items kind files))) (sym is.id) (tree_of_map table kind files is.map (has_all (IsInTable table kind) files is.trees)) in
    let own : map own_item c.in_ok-tree.tree.entries.items ≡ items kind files =
    c.in_ok-tree.ensures ∙ same_tree table (id_of c.args.root.now) (map item_of c.in_ok-entries.entries.items) (items kind files) (c.in_ok-entries.ensures.read honest) here in
    c.in_ok-new.ensures.root.each (names_only kind (own_folders files))
    (subst (ItemsHave (names_only kind (own_folders files))) (sym own) (items_have kind (own_folders files) files is.map (λ name file. own_among files name file)))

pub returns-clause-unopened : goal.returns-clause-unopened
returns-clause-unopened g c = λ honest trees stored names.
    let all = map item_of c.in_ok-entries.entries.items in
    let read = c.in_ok-entries.ensures.read honest in
    let there = stored (id_of c.args.root.now) read.0 all read.1 read.2.spelled in
    same_into trees (slots_of c.in_ok-new.field-0.nodes.items) all (λ q. c.in_ok-new.ensures.root.files no_trees q ∙ ap (λ own. files_of_tree no_trees own q) c.in_ok-tree.ensures) names
    ∙ sym (ap (λ o. ids_from o (λ own. items_into trees own names)) there)
