use Rattle.std.proofs.Common.{◌≡◌, ◌∙◌, [], ◌∷◌, ap, get_or, subst, sym, arith, List, None, ◌++◌, length, map, map-id, option_to_list, Err}
use Rattle.std.proofs.lemmas.Iterator.Adapters.{YieldsList-from_vec, YieldsList-from_once, fact_from_extend}
use Rattle.std.proofs.lemmas.Iterator.Consumers.{YieldsList-end, YieldsList-turn}
use Rattle.std.proofs.lemmas.List.{length-append}
use Rattle.std.proofs.lemmas.Result.{err_from_is_err_and}
use Rattle.history_word.specs.Commands.{AreEdits}
use Rattle.history_word.specs.declared.command.Edit.{Edit}
use Rattle.history_plans.specs.Files.{AreReadAs, HasSource, IsFoundFor, TellsRead, kept_edit}
use Rattle.history_plans.specs.declared.editing.Changes.{Changes}
use Rattle.history_plans.proofs.EditsRead.{ReadSoFar, all_read, all_sources, none_read, one_asked, one_read, one_stopped, one_there}
use Rattle.history_repository.proofs.Extended.{at_ok}
use Rattle.history_plans.proofs.editing.read_edits.Goals as goal

pub loop-edit-init : goal.loop-edit-init
loop-edit-init g c = (ap length c.in_ok-made.ensures.items, λ r lines h are good at trees. none_read r c.in_ok-made.made.items c.new-blobs.result.items c.in_ok-made.ensures.items c.new-blobs.ensures.items, λ r h trees. trees)

pub loop-edit-preserved : goal.loop-edit-preserved
loop-edit-preserved g c =
    let blob = c.read_edit-change.result.1 in
    let added : c.extend.new.self.items ≡ c.loop-edit.blobs.items ++ option_to_list blob =
    at_ok _ c.extend.result c.in_ok-extend.field-0 c.in_ok-extend.was
    (fact_from_extend (λ b. b) c.extend.result c.extend.ensures.ran (λ it b. YieldsList-from_once blob b.0) (λ blobs e h. h.0 ∙ ap (λ blobs. c.loop-edit.blobs.items ++ blobs) (sym (map-id blobs) ∙ e))) in
    let source = c.source_at-source.ensures ∙ ap (λ n. get_or c.args.sources.now n None) (c.len-at.ensures ∙ c.loop-edit.made.ok.0) in (
      omega (arith, ap length c.in_ok-push.ensures.items, length-append c.loop-edit.made.items (c.read_edit-change.result.0 ∷ []), length-append c.loop-edit.yielded (c.in-Some.edit ∷ []), c.loop-edit.invariant.0),
      λ r lines h are good at trees.
          let asked = one_asked g.F.Files.reading_may_fail r c.loop-edit.yielded c.in-Some.edit c.args.sources.now c.loop-edit.made.items c.loop-edit.blobs.items lines are good at
          (λ front are good at. c.loop-edit.invariant.1 r front h are good at trees) in
          let told = c.in_ok-found.ensures.found r asked.1.0 h asked.1.1 asked.1.2 (subst (HasSource r asked.1.0) (sym source) asked.1.3) (c.loop-edit.invariant.2 r h trees) in
          let kind = c.kind.ensures ∙ h.objects_kind in
          one_read g.F.Files.reading_may_fail r c.loop-edit.yielded c.in-Some.edit c.args.sources.now c.loop-edit.made.items c.loop-edit.blobs.items c.push.new.self.items c.read_edit-change.result.0 c.extend.new.self.items (option_to_list blob)
          asked.0 told.0 (c.read_edit-change.ensures.change r kind told.1) (c.read_edit-change.ensures.blob r kind) c.in_ok-push.ensures.items added,
      λ r h trees. c.in_ok-found.ensures.trees r h (c.loop-edit.invariant.2 r h trees),
    )

pub returns-in_err-found-clause-changes : goal.returns-in_err-found-clause-changes
returns-in_err-found-clause-changes g c = λ r lines h are good sources trees.
    let MayFail = g.F.Files.reading_may_fail in
    let edit = c.in-Some.edit in
    let gives = c.into_iter-edit-iterator.ensures.into_iter_gives in
    let yields = YieldsList-from_vec {s = c.into_iter-edit-iterator.result} c.args.edits.items gives.0 (omega (arith, gives.1, c.args.edits.ok.0)) in
    let turn = YieldsList-turn yields c.loop-edit.yielded c.loop-edit.edit-iterator c.loop-edit.yielded_by c.next.result c.next.new.self edit c.in-Some.is c.next.ensures.steps in
    let asked = one_there r c.args.edits.items lines c.args.sources.now are good (all_sources r lines c.args.sources.now sources) (length c.loop-edit.yielded) edit turn.0 turn.1 in
    let source = c.source_at-source.ensures ∙ ap (λ n. get_or c.args.sources.now n None) (c.len-at.ensures ∙ c.loop-edit.made.ok.0 ∙ c.loop-edit.invariant.0) in
    let told = c.in_err-found.ensures.found r asked.0 h asked.1 asked.2 (subst (HasSource r asked.0) (sym source) asked.3) (c.loop-edit.invariant.2 r h trees) in
    let made = map (kept_edit r) c.args.edits.items in
    let stopped = err_from_is_err_and c.from_residual-in_err-found.result c.from_residual-in_err-found.ensures.1 in
    subst (TellsRead MayFail made (λ (changes : Changes). AreReadAs r changes made)) (sym (stopped.1 ∙ ap Err stopped.2))
    (one_stopped MayFail r c.args.edits.items (length c.loop-edit.yielded) edit turn.0 turn.1 (IsFoundFor r edit) (λ (changes : Changes). AreReadAs r changes made) c.in_err-found.field-0.0 told)

pub returns-clause-changes : goal.returns-clause-changes
returns-clause-changes g c = λ r lines h are good sources trees.
    let gives = c.into_iter-edit-iterator.ensures.into_iter_gives in
    let ends = YieldsList-end (YieldsList-from_vec {s = c.into_iter-edit-iterator.result} c.args.edits.items gives.0 (omega (arith, gives.1, c.args.edits.ok.0))) c.loop-edit.yielded c.loop-edit.edit-iterator c.loop-edit.yielded_by c.next.result c.next.new.self c.in-None.is c.next.ensures.steps in
    let all : c.loop-edit.yielded ≡ c.args.edits.items = sym (map-id c.loop-edit.yielded) ∙ ends.0 in
    let read = c.loop-edit.invariant.1 r lines h (subst (λ (edits : List Edit). AreEdits edits lines) (sym all) are) good (all_sources r lines c.args.sources.now sources) trees in
    all_read g.F.Files.reading_may_fail r c.args.edits.items (record { made = c.loop-edit.made; blobs = c.loop-edit.blobs }) (subst (λ (edits : List Edit). ReadSoFar r edits c.loop-edit.made.items c.loop-edit.blobs.items) all read)

pub returns-clause-trees : goal.returns-clause-trees
returns-clause-trees g c = c.loop-edit.invariant.2
