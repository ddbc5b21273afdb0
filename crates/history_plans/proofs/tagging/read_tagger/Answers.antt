use Rattle.std.proofs.Common.{◌∙◌, ap, length, subst, sym, Err}
use Rattle.history_model.specs.Causes.{is_bad_actor, is_bad_title}
use Rattle.history_model.specs.Forms.{max_content, title}
use Rattle.history_model.specs.declared.Cause.TheVariants.{BadActor, BadTime}
use Rattle.std.proofs.lemmas.Bool.{not-false, not-true}
use Rattle.history_plans.specs.CommitCauses.{ReadsTime}
use Rattle.history_plans.specs.Tagging.{TellsTagger}
use Rattle.history_repository.proofs.FieldLemmas.{not_beyond, over}
use Rattle.history_plans.proofs.TagLemmas.{actor_refused, length_refused, message_refused, none_refused, time_refused}
use Rattle.history_plans.proofs.Tested.{only_error}
use Rattle.history_plans.proofs.TimesLemmas.{absent, never_absent, time_good}
use Rattle.history_plans.proofs.TitleLemmas.{bad_kept}
use Rattle.history_plans.proofs.tagging.read_tagger.Goals as goal

pub returns-then-not-has_good_names : goal.returns-then-not-has_good_names
returns-then-not-has_good_names c = λ r sent is message.
    actor_refused r sent (not-false (is_bad_actor sent.tagger) (sym (c.has_good_names.ensures sent.tagger is) ∙ c.if-not-has_good_names.true))

pub returns-in_err-time : goal.returns-in_err-time
returns-in_err-time c = λ r sent is message.
    let actor = not-true (is_bad_actor sent.tagger) (sym (c.has_good_names.ensures sent.tagger is) ∙ c.if-not-has_good_names.false) in
    let told = absent c.time_of.result c.in_err-time.field-0.0 BadTime c.in_err-time.ensures.value in
    let time = subst (ReadsTime sent.tagger) told.1 (c.time_of.ensures sent.tagger is) in
    subst (TellsTagger r sent c.args.message.now) (sym (only_error _ c.in_err-time.field-0.0 c.from_residual.ensures.1 ∙ ap Err told.0)) (time_refused r sent actor time)

pub returns-then-is_bad_title : goal.returns-then-is_bad_title
returns-then-is_bad_title c = λ r sent is message.
    let actor = not-true (is_bad_actor sent.tagger) (sym (c.has_good_names.ensures sent.tagger is) ∙ c.if-not-has_good_names.false) in
    let read = subst (ReadsTime sent.tagger) c.in_ok-time.ensures.ok_part (c.time_of.ensures sent.tagger is) in
    let told = sym (bad_kept max_content c.args.message.now sent.message message) ∙ (λ i. is_bad_title (title (sym c.kept.ensures i))) ∙ ap is_bad_title (sym c.title.ensures) ∙ sym c.is_bad_title.ensures in
    message_refused r sent actor (time_good sent.tagger c.in_ok-time.time read) (told ∙ c.if-is_bad_title.true)

pub returns-then-is_too_long : goal.returns-then-is_too_long
returns-then-is_too_long c = λ r sent is message.
    let actor = not-true (is_bad_actor sent.tagger) (sym (c.has_good_names.ensures sent.tagger is) ∙ c.if-not-has_good_names.false) in
    let read = subst (ReadsTime sent.tagger) c.in_ok-time.ensures.ok_part (c.time_of.ensures sent.tagger is) in
    let told = sym (bad_kept max_content c.args.message.now sent.message message) ∙ (λ i. is_bad_title (title (sym c.kept.ensures i))) ∙ ap is_bad_title (sym c.title.ensures) ∙ sym c.is_bad_title.ensures in
    length_refused r sent actor (time_good sent.tagger c.in_ok-time.time read) (told ∙ c.if-is_bad_title.false)
    (over max_content (length sent.message) (sym (c.is_too_long.ensures max_content sent.message message) ∙ c.if-is_too_long.true))

pub returns-in_err-ok_or : goal.returns-in_err-ok_or
returns-in_err-ok_or c = λ r sent is message.
    let actor = not-true (is_bad_actor sent.tagger) (sym (c.has_good_names.ensures sent.tagger is) ∙ c.if-not-has_good_names.false) in
    let read = subst (ReadsTime sent.tagger) c.in_ok-time.ensures.ok_part (c.time_of.ensures sent.tagger is) in
    absurd (never_absent _ c.actor_at.result c.in_err-ok_or.field-0.0 BadActor c.in_err-ok_or.ensures.value (c.actor_at.ensures sent.tagger is actor read))

pub returns : goal.returns
returns c = λ r sent is message.
    let actor = not-true (is_bad_actor sent.tagger) (sym (c.has_good_names.ensures sent.tagger is) ∙ c.if-not-has_good_names.false) in
    let read = subst (ReadsTime sent.tagger) c.in_ok-time.ensures.ok_part (c.time_of.ensures sent.tagger is) in
    let told = sym (bad_kept max_content c.args.message.now sent.message message) ∙ (λ i. is_bad_title (title (sym c.kept.ensures i))) ∙ ap is_bad_title (sym c.title.ensures) ∙ sym c.is_bad_title.ensures in
    record {
      formed = none_refused r sent actor (time_good sent.tagger c.in_ok-time.time read) (told ∙ c.if-is_bad_title.false);
      message = not_beyond max_content (length sent.message) (sym (c.is_too_long.ensures max_content sent.message message) ∙ c.if-is_too_long.false);
      tagger = rw c.in_ok-ok_or.ensures.ok_part at (c.actor_at.ensures sent.tagger is actor read);
    }
