use Rattle.std.proofs.Common.{◌∙◌, ap, subst, sym, Err}
use Rattle.history_model.specs.Causes.{is_bad_actor}
use Rattle.history_model.specs.Forms.{max_content}
use Rattle.history_model.specs.declared.Cause.TheVariants.{BadActor, BadTime}
use Rattle.std.proofs.lemmas.Bool.{not-false, not-true}
use Rattle.history_plans.specs.CommitCauses.{ReadsTime}
use Rattle.history_plans.specs.Moving.{TellsTeller}
use Rattle.history_plans.proofs.LineLemmas.{actor_refused, message_refused, none_refused, time_refused}
use Rattle.history_plans.proofs.Tested.{only_error}
use Rattle.history_plans.proofs.TimesLemmas.{absent, never_absent, time_good}
use Rattle.history_plans.proofs.TitleLemmas.{good_line_kept}
use Rattle.history_plans.proofs.moving.read_teller.Goals as goal

pub returns-then-not-has_good_names : goal.returns-then-not-has_good_names
returns-then-not-has_good_names c = λ r sent is message.
    actor_refused r sent (not-false (is_bad_actor sent.actor) (sym (c.has_good_names.ensures sent.actor is) ∙ c.if-not-has_good_names.true))

pub returns-in_err-time : goal.returns-in_err-time
returns-in_err-time c = λ r sent is message.
    let actor = not-true (is_bad_actor sent.actor) (sym (c.has_good_names.ensures sent.actor is) ∙ c.if-not-has_good_names.false) in
    let told = absent c.time_of.result c.in_err-time.field-0.0 BadTime c.in_err-time.ensures.value in
    let time = subst (ReadsTime sent.actor) told.1 (c.time_of.ensures sent.actor is) in
    subst (TellsTeller r sent c.args.message.now) (sym (only_error _ c.in_err-time.field-0.0 c.from_residual.ensures.1 ∙ ap Err told.0)) (time_refused r sent actor time)

pub returns-then-is_bad_message : goal.returns-then-is_bad_message
returns-then-is_bad_message c = λ r sent is message.
    let actor = not-true (is_bad_actor sent.actor) (sym (c.has_good_names.ensures sent.actor is) ∙ c.if-not-has_good_names.false) in
    let read = subst (ReadsTime sent.actor) c.in_ok-time.ensures.ok_part (c.time_of.ensures sent.actor is) in
    message_refused r sent actor (time_good sent.actor c.in_ok-time.time read) (sym (c.is_bad_message.ensures r sent message) ∙ c.if-is_bad_message.true)

pub returns-in_err-ok_or : goal.returns-in_err-ok_or
returns-in_err-ok_or c = λ r sent is message.
    let actor = not-true (is_bad_actor sent.actor) (sym (c.has_good_names.ensures sent.actor is) ∙ c.if-not-has_good_names.false) in
    let read = subst (ReadsTime sent.actor) c.in_ok-time.ensures.ok_part (c.time_of.ensures sent.actor is) in
    absurd (never_absent _ c.actor_at.result c.in_err-ok_or.field-0.0 BadActor c.in_err-ok_or.ensures.value (c.actor_at.ensures sent.actor is actor read))

pub returns : goal.returns
returns c = λ r sent is message.
    let actor = not-true (is_bad_actor sent.actor) (sym (c.has_good_names.ensures sent.actor is) ∙ c.if-not-has_good_names.false) in
    let read = subst (ReadsTime sent.actor) c.in_ok-time.ensures.ok_part (c.time_of.ensures sent.actor is) in
    let good = sym (c.is_bad_message.ensures r sent message) ∙ c.if-is_bad_message.false in (
      none_refused r sent actor (time_good sent.actor c.in_ok-time.time read) good,
      record {
        actor_is = rw c.in_ok-ok_or.ensures.ok_part at (c.actor_at.ensures sent.actor is actor read);
        message_is = good_line_kept max_content c.args.message.now sent.message (omega Rattle.std.proofs.Common.arith) message good;
      },
    )
