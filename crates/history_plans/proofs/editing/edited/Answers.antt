use Rattle.std.proofs.Common.{◌≡◌, refl, sym, ◌∙◌, ap, subst, map, Bor, Err}
use Rattle.std.specs.Prelude.{Option, Some, None, Result, option_copied, option_map}
use Rattle.gix_hash.specs.Id.{id_of}
use Rattle.gix_hash.specs.declared.object_id.ObjectId.{ObjectId}
use Rattle.history_files.specs.Editing.{NameEdits, root_id}
use Rattle.history_files.specs.Laws.{table_of}
use Rattle.history_plans.specs.Files.{TellsEdited, edit_parts}
use Rattle.history_files.specs.declared.trees.EditedFiles.{EditedFiles}
use Rattle.history_repository.specs.Reads.{AreTrees}
use Rattle.history_repository.specs.declared.stopped.Stopped.{Stopped}
use Rattle.history_repository.proofs.Tables.{holds_known}
use Rattle.history_plans.proofs.Edits.{changes_named}
use Rattle.history_plans.proofs.EditsTold.{edited_told, find_told, on_ok, refused_told, unmade_told}
use Rattle.history_plans.proofs.TreesRead.{read_trees, stored_trees}
use Rattle.history_plans.proofs.editing.edited.Goals as goal

root_so : (root : Option (Bor ObjectId)) → root_id root ≡ option_map id_of (option_copied root)
root_so None = refl
root_so (Some root) = refl

pub returns-in_err-read_for_edits-clause-edited : goal.returns-in_err-read_for_edits-clause-edited
returns-in_err-read_for_edits-clause-edited g c = λ r ids made s before are paths trees.
    find_told r g.F.Files.reading_may_fail ids made c.from_residual-in_err-read_for_edits.result c.in_err-read_for_edits.field-0.0 c.from_residual-in_err-read_for_edits.ensures.1 (λ same. c.in_err-read_for_edits.ensures.failed (ap Err same))

pub returns-in-Ok-clause-edited : goal.returns-in-Ok-clause-edited
returns-in-Ok-clause-edited g c = λ r ids made s before are paths trees.
    let own = c.args.repository.now in
    let kept = c.in_ok-read_for_edits.ensures.kept (holds_known _ _ own r s) (stored_trees _ _ own r s c.args.read.now trees) in
    let edits = c.deref-2.result.now in
    let named : NameEdits (table_of r) r.kind edits made = changes_named r edits c.args.changes.now made (ap (map edit_parts) c.deref-2.ensures.value ∙ c.in_ok-edits.ensures) are in
    edited_told _ _ own r s g.F.Files.reading_may_fail ids c.args.tree before edits made named c.kind.result (c.kind.ensures ∙ s.objects_kind)
    (root_id c.as_ref-2.result) (root_so c.as_ref-2.result ∙ ap (option_map id_of) c.as_ref-2.ensures.value) c.edit_files.result (λ known. c.edit_files.ensures.edited (known, kept)) c.in-Ok.edited c.in-Ok.is

pub returns-clause-edited : goal.returns-clause-edited
returns-clause-edited g c = λ r ids made s before are paths trees.
    let own = c.args.repository.now in
    let kept = c.in_ok-read_for_edits.ensures.kept (holds_known _ _ own r s) (stored_trees _ _ own r s c.args.read.now trees) in
    let edits = c.deref-2.result.now in
    let named : NameEdits (table_of r) r.kind edits made = changes_named r edits c.args.changes.now made (ap (map edit_parts) c.deref-2.ensures.value ∙ c.in_ok-edits.ensures) are in
    let fault = refused_told _ _ own r s g.F.Files.reading_may_fail ids c.args.tree before edits made named c.kind.result (c.kind.ensures ∙ s.objects_kind)
    (root_id c.as_ref-2.result) (root_so c.as_ref-2.result ∙ ap (option_map id_of) c.as_ref-2.ensures.value) c.edit_files.result (λ known. c.edit_files.ensures.refused (known, kept)) c.in-Err.error c.in-Err.is in
    subst (λ (x : Result (Option EditedFiles) Stopped). TellsEdited g.F.Files.reading_may_fail r ids made x) (sym c.unmade.ensures) (unmade_told r g.F.Files.reading_may_fail ids made paths c.in-Err.error fault)

pub returns-in-Ok-clause-trees : goal.returns-in-Ok-clause-trees
returns-in-Ok-clause-trees g c = λ r s trees.
    let own = c.args.repository.now in
    read_trees _ _ own r s c.read_for_edits.new.read (c.in_ok-read_for_edits.ensures.kept (holds_known _ _ own r s) (stored_trees _ _ own r s c.args.read.now trees))

pub returns-clause-trees : goal.returns-clause-trees
returns-clause-trees g c = λ r s trees.
    let own = c.args.repository.now in
    let kept = c.in_ok-read_for_edits.ensures.kept (holds_known _ _ own r s) (stored_trees _ _ own r s c.args.read.now trees) in
    on_ok c.unmade.result (AreTrees r c.read_for_edits.new.read) (read_trees _ _ own r s c.read_for_edits.new.read kept)
