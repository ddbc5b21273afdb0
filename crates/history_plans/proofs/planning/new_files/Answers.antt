use Rattle.std.proofs.Common.{◌≡◌, List, sym, ◌∙◌, ap, subst, map, refl, Err, false}
use Rattle.std.specs.List.{list_any, flat_map}
use Rattle.std.specs.Prelude.{MatchResult, Ok, Result}
use Rattle.std.proofs.lemmas.Result.{err_from_is_err_and}
use Rattle.history_model.specs.Causes.{is_bad_path}
use Rattle.history_model.specs.CommandParts.{paths_in}
use Rattle.history_model.specs.Commands as commands
use Rattle.history_model.specs.FileMap as model
use Rattle.history_model.specs.Meaning.{parents_of, put_bytes}
use Rattle.history_model.specs.Repository as plain
use Rattle.history_store.specs.Stores.{AreObjectsOf}
use Rattle.history_files.specs.Laws.{table_of}
use Rattle.history_word.specs.Commands.{AreEdits}
use Rattle.history_word.specs.declared.command.Edit.{Edit}
use Rattle.history_plans.specs.Files.{AreChangesOf, AreReadAs, TellsEdited, kept_edit}
use Rattle.history_plans.specs.Plans.{AreNewFiles, IsUnplanned}
use Rattle.history_plans.specs.declared.editing.Changes.{Changes}
use Rattle.history_plans.specs.declared.editing.PathChange.{PathChange}
use Rattle.history_plans.specs.declared.planning.NewFiles.{NewFiles}
use Rattle.history_repository.specs.declared.stopped.Stopped.{Stopped}
use Rattle.history_repository.specs.declared.stopped.Stopped.TheVariants.{Refused}
use Rattle.history_plans.proofs.Edits.{edits_same, have_paths}
use Rattle.history_plans.proofs.Planned.{path_refused, reading_refused, edits_planned, nothing_refused, edits_pass, edits_meant}
use Rattle.history_plans.proofs.GraftPaths.{nothing_in}
use Rattle.history_plans.proofs.SourceLemmas.{sources_told}
use Rattle.history_plans.proofs.planning.new_files.Goals as goal

abbrev Gives : Type 0 → plain.Repository → commands.CommitCommand → Result NewFiles Stopped → Type 0
Gives MayFail r sent result = MatchResult result (AreNewFiles r sent) (IsUnplanned MayFail r sent)

pub returns-in_err-test_paths : goal.returns-in_err-test_paths
returns-in_err-test_paths g c = λ r sent asked.
    let h = asked.serves in
    let paths_of : AreEdits c.deref.result.now sent.edits = subst (λ (es : List Edit). AreEdits es sent.edits) (sym c.deref.ensures.value) asked.edits_are in
    let bad = c.in_err-test_paths.ensures sent.edits paths_of in
    let stopped = err_from_is_err_and c.from_residual.result c.from_residual.ensures.1 in
    subst (Gives g.F.Files.reading_may_fail r sent) (sym (stopped.1 ∙ ap Err (stopped.2 ∙ ap Refused bad.0)))
    (path_refused r sent asked.unrefused bad.1)

pub returns-in_err-changes : goal.returns-in_err-changes
returns-in_err-changes g c = λ r sent asked.
    let edits = c.args.edits.items in
    let paths_of : AreEdits c.deref.result.now sent.edits = subst (λ (es : List Edit). AreEdits es sent.edits) (sym c.deref.ensures.value) asked.edits_are in
    let good : list_any is_bad_path (paths_in (commands.Commit sent)) ≡ false = c.in_ok-test_paths.ensures sent.edits paths_of in
    let made = map (kept_edit r) edits in
    let told = c.in_err-changes.ensures.changes r sent.edits asked.serves asked.edits_are good (sources_told r sent asked.unrefused c.args.sources.now asked.sources_are asked.rooted) (c.new-read.ensures (table_of r)) in
    let stopped = err_from_is_err_and c.from_residual-in_err-changes.result c.from_residual-in_err-changes.ensures.1 in
    subst (Gives g.F.Files.reading_may_fail r sent) (sym (stopped.1 ∙ ap Err stopped.2))
    (reading_refused r sent asked.unrefused good edits asked.edits_are g.F.Files.reading_may_fail (λ (changes : Changes). AreReadAs r changes made) c.in_err-changes.field-0.0 told)

pub returns-in_err-edited : goal.returns-in_err-edited
returns-in_err-edited g c = λ r sent asked.
    let h = asked.serves in
    let edits = c.args.edits.items in
    let paths_of : AreEdits c.deref.result.now sent.edits = subst (λ (es : List Edit). AreEdits es sent.edits) (sym c.deref.ensures.value) asked.edits_are in
    let good : list_any is_bad_path (paths_in (commands.Commit sent)) ≡ false = c.in_ok-test_paths.ensures sent.edits paths_of in
    let made = map (kept_edit r) edits in
    let read = c.in_ok-changes.ensures.changes r sent.edits h asked.edits_are good (sources_told r sent asked.unrefused c.args.sources.now asked.sources_are asked.rooted) (c.new-read.ensures (table_of r)) in
    let trees = c.in_ok-changes.ensures.trees r h (c.new-read.ensures (table_of r)) in
    let changes : AreReadAs r c.in_ok-changes.changes made = read.1 in
    let ids = parents_of r sent in
    let are : AreChangesOf r c.deref-3.result.now made = subst (λ (cs : List PathChange). AreChangesOf r cs made) (sym c.deref-3.ensures.value) changes.changes_are in
    let told : TellsEdited g.F.Files.reading_may_fail r ids made (Err c.in_err-edited.field-0.0) = c.in_err-edited.ensures.edited r ids made h asked.tree_is are (have_paths r edits sent.edits asked.edits_are good) trees in
    let stopped = err_from_is_err_and c.from_residual-in_err-edited.result c.from_residual-in_err-edited.ensures.1 in
    subst (Gives g.F.Files.reading_may_fail r sent) (sym (stopped.1 ∙ ap Err stopped.2))
    (edits_planned r sent asked.unrefused good edits asked.edits_are read.0 ids refl g.F.Files.reading_may_fail c.in_err-edited.field-0.0 told)

pub returns-then-graft_nothing : goal.returns-then-graft_nothing
returns-then-graft_nothing g c = λ r sent asked.
    let h = asked.serves in
    let edits = c.args.edits.items in
    let paths_of : AreEdits c.deref.result.now sent.edits = subst (λ (es : List Edit). AreEdits es sent.edits) (sym c.deref.ensures.value) asked.edits_are in
    let good : list_any is_bad_path (paths_in (commands.Commit sent)) ≡ false = c.in_ok-test_paths.ensures sent.edits paths_of in
    let made = map (kept_edit r) edits in
    let read = c.in_ok-changes.ensures.changes r sent.edits h asked.edits_are good (sources_told r sent asked.unrefused c.args.sources.now asked.sources_are asked.rooted) (c.new-read.ensures (table_of r)) in
    let trees = c.in_ok-changes.ensures.trees r h (c.new-read.ensures (table_of r)) in
    let changes : AreReadAs r c.in_ok-changes.changes made = read.1 in
    let ids = parents_of r sent in
    let are : AreChangesOf r c.deref-3.result.now made = subst (λ (cs : List PathChange). AreChangesOf r cs made) (sym c.deref-3.ensures.value) changes.changes_are in
    let given : TellsEdited g.F.Files.reading_may_fail r ids made (Ok c.in_ok-edited.edited) = c.in_ok-edited.ensures.edited r ids made h asked.tree_is are (have_paths r edits sent.edits asked.edits_are good) trees in
    let there : AreChangesOf r c.deref-4.result.now made = subst (λ (cs : List PathChange). AreChangesOf r cs made) (sym c.deref-4.ensures.value) changes.changes_are in
    let nothing = sym (nothing_in r c.deref-4.result.now made there) ∙ sym c.graft_nothing.ensures in
    nothing_refused r sent asked.unrefused good edits asked.edits_are read.0 ids refl g.F.Files.reading_may_fail c.in_ok-edited.edited given (nothing ∙ c.if-graft_nothing.true)

pub returns : goal.returns
returns g c = λ r sent asked.
    let h = asked.serves in
    let edits = c.args.edits.items in
    let paths_of : AreEdits c.deref.result.now sent.edits = subst (λ (es : List Edit). AreEdits es sent.edits) (sym c.deref.ensures.value) asked.edits_are in
    let good : list_any is_bad_path (paths_in (commands.Commit sent)) ≡ false = c.in_ok-test_paths.ensures sent.edits paths_of in
    let made = map (kept_edit r) edits in
    let read = c.in_ok-changes.ensures.changes r sent.edits h asked.edits_are good (sources_told r sent asked.unrefused c.args.sources.now asked.sources_are asked.rooted) (c.new-read.ensures (table_of r)) in
    let trees = c.in_ok-changes.ensures.trees r h (c.new-read.ensures (table_of r)) in
    let changes : AreReadAs r c.in_ok-changes.changes made = read.1 in
    let ids = parents_of r sent in
    let are : AreChangesOf r c.deref-3.result.now made = subst (λ (cs : List PathChange). AreChangesOf r cs made) (sym c.deref-3.ensures.value) changes.changes_are in
    let given : TellsEdited g.F.Files.reading_may_fail r ids made (Ok c.in_ok-edited.edited) = c.in_ok-edited.ensures.edited r ids made h asked.tree_is are (have_paths r edits sent.edits asked.edits_are good) trees in
    let there : AreChangesOf r c.deref-4.result.now made = subst (λ (cs : List PathChange). AreChangesOf r cs made) (sym c.deref-4.ensures.value) changes.changes_are in
    let nothing = sym (nothing_in r c.deref-4.result.now made there) ∙ sym c.graft_nothing.ensures in
    record {
      paths = edits_pass r sent asked.unrefused good edits asked.edits_are read.0 ids refl g.F.Files.reading_may_fail c.in_ok-edited.edited given (nothing ∙ c.if-graft_nothing.false);
      long = c.have_long_content-has_long_content.ensures sent.edits (subst (λ (es : List Edit). AreEdits es sent.edits) (sym c.deref-2.ensures.value) asked.edits_are);
      blobs = λ short. subst (λ (es : List model.Edit). AreObjectsOf r.kind (flat_map put_bytes es) c.in_ok-changes.changes.blobs.items) (edits_same r edits sent.edits asked.edits_are good short) changes.blobs_are;
      edited = λ short. edits_meant r sent g.F.Files.reading_may_fail edits asked.edits_are good short ids refl c.in_ok-edited.edited given;
      trees = c.in_ok-edited.ensures.trees r h trees;
    }
