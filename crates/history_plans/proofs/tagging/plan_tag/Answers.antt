use Rattle.std.proofs.Common.{◌≡◌, ◌∙◌, ap, option_map, subst, sym, unwrap_or, Ok, Err, true}
use Rattle.std.specs.Prelude.{Vec, ℕ}
use Rattle.std.specs.declared.alloc.Global.{Global}
use Rattle.std.proofs.lemmas.Result.{err_from_is_err_and}
use Rattle.gix_hash.specs.Id.{id_of, null_id}
use Rattle.history_model.specs.Forms.{max_content, title}
use Rattle.history_model.specs.Meaning.{tag_rest}
use Rattle.history_model.specs.declared.Cause.TheVariants.{BadName}
use Rattle.history_texts.specs.Formats.{actor_of}
use Rattle.history_repository.specs.Held.{held_id}
use Rattle.history_plans.specs.Tagging.{PlansTag, is_tag_place}
use Rattle.history_repository.specs.declared.stopped.Stopped.TheVariants.{Refused}
use Rattle.history_repository.proofs.FieldLemmas.{kept_whole}
use Rattle.history_plans.proofs.TagLemmas.{base_planned, entry_told, good_title, name_refused, name_told, none_told, nothing_told, object_planned, place_named, same_told, size_refused, tag_said, tag_told, tagger_refused}
use Rattle.history_plans.proofs.TimesLemmas.{absent}
use Rattle.history_plans.proofs.tagging.plan_tag.Goals as goal

pub returns-in_err-own : goal.returns-in_err-own
returns-in_err-own g c = λ r sent h is.
    let name : c.deref.result.now ≡ sent.name = c.deref.ensures.value ∙ is.name in
    let told = absent c.own_name.result c.in_err-own.field-0.0 BadName c.in_err-own.ensures.value in
    let bad = rw told.1 at c.own_name.ensures in
    let stopped = err_from_is_err_and c.from_residual.result c.from_residual.ensures.1 in
    subst (PlansTag g.F.Files.reading_may_fail r sent) (sym (stopped.1 ∙ ap Err (stopped.2 ∙ ap Refused told.0)))
    (name_refused r sent (ap is_tag_place (sym name) ∙ bad))

pub returns-in_err-tag_name : goal.returns-in_err-tag_name
returns-in_err-tag_name g c = λ r sent h is.
    let stopped = err_from_is_err_and c.from_residual-in_err-tag_name.result c.from_residual-in_err-tag_name.ensures.1 in
    subst (PlansTag g.F.Files.reading_may_fail r sent) (sym (stopped.1 ∙ ap Err stopped.2)) tt

pub returns-in_err-base : goal.returns-in_err-base
returns-in_err-base g c = λ r sent h is.
    let name : c.deref.result.now ≡ sent.name = c.deref.ensures.value ∙ is.name in
    let own = rw c.in_ok-own.ensures.ok_part at c.own_name.ensures in
    let place : is_tag_place sent.name ≡ true = ap is_tag_place (sym name) ∙ own.0 in
    let named = name_told r sent place in
    let stopped = err_from_is_err_and c.from_residual-in_err-base.result c.from_residual-in_err-base.ensures.1 in
    base_planned r sent named g.F.Files.reading_may_fail c.tag_base.result c.from_residual-in_err-base.result c.in_err-base.field-0.0 c.in_err-base.was (stopped.1 ∙ ap Err stopped.2)
    (c.tag_base.ensures r sent h (c.deref-2.ensures.value ∙ is.name) is.expect (c.deref-3.ensures.value ∙ is.word) (place_named sent.name place))

pub returns-in_err-tagger : goal.returns-in_err-tagger
returns-in_err-tagger g c = λ r sent h is.
    let name : c.deref.result.now ≡ sent.name = c.deref.ensures.value ∙ is.name in
    let own = rw c.in_ok-own.ensures.ok_part at c.own_name.ensures in
    let place : is_tag_place sent.name ≡ true = ap is_tag_place (sym name) ∙ own.0 in
    let named = name_told r sent place in
    let base = c.in_ok-base.ensures r sent h (c.deref-2.ensures.value ∙ is.name) is.expect (c.deref-3.ensures.value ∙ is.word) (place_named sent.name place) in
    let stopped = err_from_is_err_and c.from_residual-in_err-tagger.result c.from_residual-in_err-tagger.ensures.1 in
    subst (PlansTag g.F.Files.reading_may_fail r sent) (sym (stopped.1 ∙ ap Err stopped.2))
    (tagger_refused r sent named base.0 c.in_err-tagger.field-0.0 (c.in_err-tagger.ensures r sent is.tagger is.message))

pub returns-in_err-log_actor : goal.returns-in_err-log_actor
returns-in_err-log_actor g c = λ r sent h is.
    let stopped = err_from_is_err_and c.from_residual-in_err-log_actor.result c.from_residual-in_err-log_actor.ensures.1 in
    subst (PlansTag g.F.Files.reading_may_fail r sent) (sym (stopped.1 ∙ ap Err stopped.2)) tt

pub returns-in_err-title : goal.returns-in_err-title
returns-in_err-title g c = λ r sent h is.
    let stopped = err_from_is_err_and c.from_residual-in_err-title.result c.from_residual-in_err-title.ensures.1 in
    subst (PlansTag g.F.Files.reading_may_fail r sent) (sym (stopped.1 ∙ ap Err stopped.2)) tt

pub returns-in_err-object : goal.returns-in_err-object
returns-in_err-object g c = λ r sent h is.
    let name : c.deref.result.now ≡ sent.name = c.deref.ensures.value ∙ is.name in
    let own = rw c.in_ok-own.ensures.ok_part at c.own_name.ensures in
    let place : is_tag_place sent.name ≡ true = ap is_tag_place (sym name) ∙ own.0 in
    let named = name_told r sent place in
    let base = c.in_ok-base.ensures r sent h (c.deref-2.ensures.value ∙ is.name) is.expect (c.deref-3.ensures.value ∙ is.word) (place_named sent.name place) in
    let tagger = c.in_ok-tagger.ensures r sent is.tagger is.message in
    let message = c.into_kept-message.ensures ∙ kept_whole max_content c.args.command.message sent.message is.message tagger.message in
    let said = tag_said r sent h.whole.whole.store c.in_ok-base.base.commit base.1.commit place c.in_ok-tagger.tagger tagger.tagger (good_title r sent tagger.formed) c.in_ok-tag_name.tag_name.items c.deref-5.result.now
    (c.in_ok-tag_name.ensures.items ∙ own.1 ∙ ap tag_rest name) (c.deref-5.ensures.value ∙ message) in
    let stopped = err_from_is_err_and c.from_residual-in_err-object.result c.from_residual-in_err-object.ensures.1 in
    object_planned r sent (size_refused r sent named base.0 tagger.formed) g.F.Files.reading_may_fail c.tag_object.result c.from_residual-in_err-object.result c.in_err-object.field-0.0 c.in_err-object.was (stopped.1 ∙ ap Err stopped.2)
    (tag_told _ r sent h.objects_kind _ _ _ _ c.tag_object.result c.tag_object.ensures said)

pub returns-then-same_id : goal.returns-then-same_id
returns-then-same_id g c = λ r sent h is.
    let name : c.deref.result.now ≡ sent.name = c.deref.ensures.value ∙ is.name in
    let own = rw c.in_ok-own.ensures.ok_part at c.own_name.ensures in
    let place : is_tag_place sent.name ≡ true = ap is_tag_place (sym name) ∙ own.0 in
    let named = name_told r sent place in
    let base = c.in_ok-base.ensures r sent h (c.deref-2.ensures.value ∙ is.name) is.expect (c.deref-3.ensures.value ∙ is.word) (place_named sent.name place) in
    let tagger = c.in_ok-tagger.ensures r sent is.tagger is.message in
    let message = c.into_kept-message.ensures ∙ kept_whole max_content c.args.command.message sent.message is.message tagger.message in
    let said = tag_said r sent h.whole.whole.store c.in_ok-base.base.commit base.1.commit place c.in_ok-tagger.tagger tagger.tagger (good_title r sent tagger.formed) c.in_ok-tag_name.tag_name.items c.deref-5.result.now
    (c.in_ok-tag_name.ensures.items ∙ own.1 ∙ ap tag_rest name) (c.deref-5.ensures.value ∙ message) in
    let made = tag_told _ r sent h.objects_kind _ _ _ _ (Ok c.in_ok-object.object) c.in_ok-object.ensures said in
    nothing_told r sent named base.0 tagger.formed made.0 (sym (c.same_id.ensures ∙ same_told r sent c.in_ok-base.base.held c.id_held.result c.in_ok-object.object base.1.held c.id_held.ensures made.1) ∙ c.if-same_id.true)

pub returns : goal.returns
returns g c = λ r sent h is.
    let name : c.deref.result.now ≡ sent.name = c.deref.ensures.value ∙ is.name in
    let own = rw c.in_ok-own.ensures.ok_part at c.own_name.ensures in
    let place : is_tag_place sent.name ≡ true = ap is_tag_place (sym name) ∙ own.0 in
    let named = name_told r sent place in
    let base = c.in_ok-base.ensures r sent h (c.deref-2.ensures.value ∙ is.name) is.expect (c.deref-3.ensures.value ∙ is.word) (place_named sent.name place) in
    let tagger = c.in_ok-tagger.ensures r sent is.tagger is.message in
    let message = c.into_kept-message.ensures ∙ kept_whole max_content c.args.command.message sent.message is.message tagger.message in
    let said = tag_said r sent h.whole.whole.store c.in_ok-base.base.commit base.1.commit place c.in_ok-tagger.tagger tagger.tagger (good_title r sent tagger.formed) c.in_ok-tag_name.tag_name.items c.deref-5.result.now
    (c.in_ok-tag_name.ensures.items ∙ own.1 ∙ ap tag_rest name) (c.deref-5.ensures.value ∙ message) in
    let made = tag_told _ r sent h.objects_kind _ _ _ _ (Ok c.in_ok-object.object) c.in_ok-object.ensures said in
    let moves = c.moves_to-moves.ensures in
    record {
      none = none_told r sent named base.0 tagger.formed made.0 (sym (c.same_id.ensures ∙ same_told r sent c.in_ok-base.base.held c.id_held.result c.in_ok-object.object base.1.held c.id_held.ensures made.1) ∙ c.if-same_id.false);
      object = made.1;
      moves = record {
        name = ap (λ (name : Vec ℕ Global). name.items) moves.name ∙ is.name;
        entry = entry_told r sent c.in_ok-base.base.held c.in_ok-object.object c.moves_to-moves.result.entry base.1.held made.1
            (ap id_of moves.before ∙ c.id_before-before.ensures ∙ ap (λ kind. unwrap_or (option_map held_id c.in_ok-base.base.held) (null_id kind)) (c.kind.ensures ∙ h.objects_kind))
            moves.after (ap actor_of moves.actor ∙ c.in_ok-log_actor.ensures ∙ tagger.tagger)
            (ap (λ (message : Vec ℕ Global). message.items) moves.message ∙ c.in_ok-title.ensures.items ∙ c.title.ensures ∙ ap title (c.deref-4.ensures.value ∙ message));
      };
    }
