use Rattle.std.proofs.Common.{sym, ◌∙◌, ap, subst, map, option_map, Err, List, Option}
use Rattle.std.specs.List.{AllByRecursion}
use Rattle.std.proofs.lemmas.Result.{err_from_is_err_and}
use Rattle.history_model.specs.Forms.{max_content}
use Rattle.history_model.specs.laws.Wholeness.{IsSound}
use Rattle.history_model.specs.Meaning.{new_commit}
use Rattle.history_layout.specs.OneNameSteps.{commit_move}
use Rattle.history_repository.specs.Meant.{peeled_id}
use Rattle.history_repository.specs.declared.stored.PeeledCommit.{PeeledCommit}
use Rattle.history_plans.specs.Bases.{IsRootedSource}
use Rattle.history_plans.specs.Plans.{IsMadeOf, IsMove, Plans}
use Rattle.history_plans.specs.declared.planning.Committed.{Committed}
use Rattle.history_repository.proofs.FieldLemmas.{kept_whole}
use Rattle.history_plans.proofs.FirstCauses.{refused_by_form}
use Rattle.history_plans.proofs.Planned.{base_planned, below_planned, below_told, commit_planned, none_refused, objects_are, is_plan}
use Rattle.history_plans.proofs.planning.plan_commit.Goals as goal

pub returns-in_err-base : goal.returns-in_err-base
returns-in_err-base g c = λ r sent asked.
    let h = asked.serves in
    let stopped = err_from_is_err_and c.from_residual.result c.from_residual.ensures.1 in
    base_planned r sent g.F.Files.reading_may_fail c.read_base.result c.from_residual.result c.in_err-base.field-0.0 c.in_err-base.was (stopped.1 ∙ ap Err stopped.2)
    (c.read_base.ensures r sent asked)

pub returns-in_err-files : goal.returns-in_err-files
returns-in_err-files g c = λ r sent asked.
    let base = c.in_ok-base.ensures r sent asked in
    let told = c.in_err-files.ensures r sent (record { serves = asked.serves; unrefused = base.0; tree_is = base.1.tree; sources_are = ap (map (option_map peeled_id)) c.deref.ensures.value ∙ base.1.sources; rooted = subst (λ (sources : List (Option PeeledCommit)). AllByRecursion (IsRootedSource r) sources) (sym c.deref.ensures.value) base.1.rooted; edits_are = asked.reads.edits }) in
    let stopped = err_from_is_err_and c.from_residual-in_err-files.result c.from_residual-in_err-files.ensures.1 in
    subst (Plans g.F.Files.reading_may_fail r sent) (sym (stopped.1 ∙ ap Err stopped.2)) told

pub returns-in_err-actors : goal.returns-in_err-actors
returns-in_err-actors g c = λ r sent asked.
    let h = asked.serves in
    let is = asked.reads in
    let base = c.in_ok-base.ensures r sent asked in
    let files = c.in_ok-files.ensures r sent (record { serves = h; unrefused = base.0; tree_is = base.1.tree; sources_are = ap (map (option_map peeled_id)) c.deref.ensures.value ∙ base.1.sources; rooted = subst (λ (sources : List (Option PeeledCommit)). AllByRecursion (IsRootedSource r) sources) (sym c.deref.ensures.value) base.1.rooted; edits_are = is.edits }) in
    let stopped = err_from_is_err_and c.from_residual-in_err-actors.result c.from_residual-in_err-actors.ensures.1 in
    subst (Plans g.F.Files.reading_may_fail r sent) (sym (stopped.1 ∙ ap Err stopped.2))
    (refused_by_form r sent c.in_err-actors.field-0.0 base.0 (c.in_err-actors.ensures r sent is.author is.committer is.message files.long files.paths))

pub returns-in_err-below : goal.returns-in_err-below
returns-in_err-below g c = λ r sent asked.
    let h = asked.serves in
    let is = asked.reads in
    let sound : IsSound r = record { whole = h.whole.whole; written = h.whole.written } in
    let base = c.in_ok-base.ensures r sent asked in
    let files = c.in_ok-files.ensures r sent (record { serves = h; unrefused = base.0; tree_is = base.1.tree; sources_are = ap (map (option_map peeled_id)) c.deref.ensures.value ∙ base.1.sources; rooted = subst (λ (sources : List (Option PeeledCommit)). AllByRecursion (IsRootedSource r) sources) (sym c.deref.ensures.value) base.1.rooted; edits_are = is.edits }) in
    let actors = c.in_ok-actors.ensures r sent is.author is.committer is.message files.long files.paths in
    let stopped = err_from_is_err_and c.from_residual-in_err-below.result c.from_residual-in_err-below.ensures.1 in
    subst (Plans g.F.Files.reading_may_fail r sent) (sym (stopped.1 ∙ ap Err stopped.2))
    (below_planned r sent actors.formed actors.contents base.0 g.F.Files.reading_may_fail sound c.in_ok-files.files.edited (files.edited actors.contents)
    c.in_ok-files.files.read c.in_ok-files.files.blobs.items c.in_err-below.field-0.0 c.in_err-below.ensures)

pub returns-in_err-committed : goal.returns-in_err-committed
returns-in_err-committed g c = λ r sent asked.
    let h = asked.serves in
    let is = asked.reads in
    let w = h.whole.whole.names in
    let sound : IsSound r = record { whole = h.whole.whole; written = h.whole.written } in
    let base = c.in_ok-base.ensures r sent asked in
    let files = c.in_ok-files.ensures r sent (record { serves = h; unrefused = base.0; tree_is = base.1.tree; sources_are = ap (map (option_map peeled_id)) c.deref.ensures.value ∙ base.1.sources; rooted = subst (λ (sources : List (Option PeeledCommit)). AllByRecursion (IsRootedSource r) sources) (sym c.deref.ensures.value) base.1.rooted; edits_are = is.edits }) in
    let actors = c.in_ok-actors.ensures r sent is.author is.committer is.message files.long files.paths in
    let below = below_told r sent actors.formed actors.contents base.0 sound c.in_ok-files.files.edited (files.edited actors.contents)
    c.in_ok-files.files.read files.trees c.in_ok-files.files.blobs.items (files.blobs actors.contents) c.in_ok-below.below c.in_ok-below.ensures in
    let message = c.into_kept-message.ensures ∙ kept_whole max_content c.args.command.message sent.message is.message actors.message in
    let stopped = err_from_is_err_and c.from_residual-in_err-committed.result c.from_residual-in_err-committed.ensures.1 in
    subst (Plans g.F.Files.reading_may_fail r sent) (sym (stopped.1 ∙ ap Err stopped.2))
    (commit_planned r sent actors.formed actors.contents base.0 g.F.Files.reading_may_fail Committed (λ (made : Committed). IsMadeOf r.kind (new_commit r sent) made.object × IsMove r (commit_move r sent) made.moves) c.in_err-committed.field-0.0
    (c.in_err-committed.ensures r sent h base.1 below.root_is actors message))

pub returns-in_err-push : goal.returns-in_err-push
returns-in_err-push g c = λ r sent asked.
    let stopped = err_from_is_err_and c.from_residual-in_err-push.result c.from_residual-in_err-push.ensures.1 in
    subst (Plans g.F.Files.reading_may_fail r sent) (sym (stopped.1 ∙ ap Err stopped.2)) tt

pub returns : goal.returns
returns g c = λ r sent asked.
    let h = asked.serves in
    let is = asked.reads in
    let w = h.whole.whole.names in
    let sound : IsSound r = record { whole = h.whole.whole; written = h.whole.written } in
    let base = c.in_ok-base.ensures r sent asked in
    let files = c.in_ok-files.ensures r sent (record { serves = h; unrefused = base.0; tree_is = base.1.tree; sources_are = ap (map (option_map peeled_id)) c.deref.ensures.value ∙ base.1.sources; rooted = subst (λ (sources : List (Option PeeledCommit)). AllByRecursion (IsRootedSource r) sources) (sym c.deref.ensures.value) base.1.rooted; edits_are = is.edits }) in
    let actors = c.in_ok-actors.ensures r sent is.author is.committer is.message files.long files.paths in
    let below = below_told r sent actors.formed actors.contents base.0 sound c.in_ok-files.files.edited (files.edited actors.contents)
    c.in_ok-files.files.read files.trees c.in_ok-files.files.blobs.items (files.blobs actors.contents) c.in_ok-below.below c.in_ok-below.ensures in
    let message = c.into_kept-message.ensures ∙ kept_whole max_content c.args.command.message sent.message is.message actors.message in
    let made = c.in_ok-committed.ensures r sent h base.1 below.root_is actors message in
    let none = none_refused r sent actors.formed actors.contents base.0 below.fit made.0 in (
      none,
      is_plan r sent below.folders below.new sound none _
          (objects_are r sent sound.whole.store below.folders c.in_ok-below.below.objects.items c.push.new.self.items c.in_ok-committed.committed.object below.put made.1.0 c.in_ok-push.ensures.items)
          made.1.1,
    )
