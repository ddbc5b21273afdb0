use Rattle.std.proofs.Common.{◌∙◌, sym, ap, subst, length, Err}
use Rattle.history_model.specs.Forms.{max_content, title}
use Rattle.history_model.specs.Causes.{is_bad_actor, is_bad_title}
use Rattle.history_model.specs.declared.Cause.TheVariants.{BadTime}
use Rattle.history_plans.specs.CommitCauses.{AreTimes, ReadsTime}
use Rattle.history_repository.proofs.FieldLemmas.{not_beyond, over}
use Rattle.history_plans.proofs.FirstCauses.{long_content, long_message}
use Rattle.history_plans.proofs.Tested.{only_error}
use Rattle.history_plans.proofs.TimesLemmas.{actor_refused, time_refused, title_refused, size_refused, all_formed, some_bad, other_bad, neither_bad, time_good, absent}
use Rattle.history_plans.proofs.TitleLemmas.{bad_kept}
use Rattle.history_plans.proofs.causes.read_times.Goals as goal
use Rattle.history_plans.proofs.causes.read_times.Goals.{then-not-has_good_names-via-then-not-has_good_names, then-not-has_good_names-via-else-not-has_good_names+then-not-has_good_names-2, then-is_too_long-via-then-is_too_long, then-is_too_long-via-else-is_too_long+then-has_long_content}
use Rattle.std.proofs.lemmas.Bool.{not-false, not-true}

pub returns-then-not-has_good_names : goal.returns-then-not-has_good_names
returns-then-not-has_good_names c = λ r sent is_author is_committer is_message is_long paths.
    elim c.then-not-has_good_names.branch [
      | then-not-has_good_names-via-then-not-has_good_names w ↦
          actor_refused r sent paths (some_bad _ _ (not-false (is_bad_actor sent.author) (sym (c.has_good_names.ensures sent.author is_author) ∙ w.if-not-has_good_names.true)))
      | then-not-has_good_names-via-else-not-has_good_names+then-not-has_good_names-2 w ↦
          actor_refused r sent paths (other_bad _ _ (not-false (is_bad_actor sent.committer) (sym (w.has_good_names-else-not-has_good_names.ensures sent.committer is_committer) ∙ w.if-not-has_good_names-2.true)))
    ]

pub returns-in_err-author : goal.returns-in_err-author
returns-in_err-author c = λ r sent is_author is_committer is_message is_long paths.
    let actors = neither_bad _ _ (not-true (is_bad_actor sent.author) (sym (c.has_good_names.ensures sent.author is_author) ∙ c.if-not-has_good_names.false))
    (not-true (is_bad_actor sent.committer) (sym (c.has_good_names-else-not-has_good_names.ensures sent.committer is_committer) ∙ c.if-not-has_good_names-2.false)) in
    let told = absent c.time_of.result c.in_err-author.field-0.0 BadTime c.in_err-author.ensures.value in
    let time = subst (ReadsTime sent.author) told.1 (c.time_of.ensures sent.author is_author) in
    subst (AreTimes r sent) (sym (only_error _ c.in_err-author.field-0.0 c.from_residual.ensures.1 ∙ ap Err told.0))
    (time_refused r sent paths actors (some_bad _ _ time))

pub returns-in_err-committer : goal.returns-in_err-committer
returns-in_err-committer c = λ r sent is_author is_committer is_message is_long paths.
    let actors = neither_bad _ _ (not-true (is_bad_actor sent.author) (sym (c.has_good_names.ensures sent.author is_author) ∙ c.if-not-has_good_names.false))
    (not-true (is_bad_actor sent.committer) (sym (c.has_good_names-else-not-has_good_names.ensures sent.committer is_committer) ∙ c.if-not-has_good_names-2.false)) in
    let told = absent c.time_of-2.result c.in_err-committer.field-0.0 BadTime c.in_err-committer.ensures.value in
    let time = subst (ReadsTime sent.committer) told.1 (c.time_of-2.ensures sent.committer is_committer) in
    subst (AreTimes r sent) (sym (only_error _ c.in_err-committer.field-0.0 c.from_residual-in_err-committer.ensures.1 ∙ ap Err told.0))
    (time_refused r sent paths actors (other_bad _ _ time))

pub returns-then-is_bad_title : goal.returns-then-is_bad_title
returns-then-is_bad_title c = λ r sent is_author is_committer is_message is_long paths.
    let actors = neither_bad _ _ (not-true (is_bad_actor sent.author) (sym (c.has_good_names.ensures sent.author is_author) ∙ c.if-not-has_good_names.false))
    (not-true (is_bad_actor sent.committer) (sym (c.has_good_names-else-not-has_good_names.ensures sent.committer is_committer) ∙ c.if-not-has_good_names-2.false)) in
    let author = subst (ReadsTime sent.author) c.in_ok-author.ensures.ok_part (c.time_of.ensures sent.author is_author) in
    let committer = subst (ReadsTime sent.committer) c.in_ok-committer.ensures.ok_part (c.time_of-2.ensures sent.committer is_committer) in
    let times = neither_bad _ _ (time_good sent.author c.in_ok-author.author author) (time_good sent.committer c.in_ok-committer.committer committer) in
    let told = c.is_bad_title.ensures ∙ ap is_bad_title (c.title.ensures ∙ ap title c.kept.ensures) ∙ bad_kept max_content c.args.message.now sent.message is_message in
    title_refused r sent paths actors times (sym told ∙ c.if-is_bad_title.true)

pub returns-then-is_too_long : goal.returns-then-is_too_long
returns-then-is_too_long c = λ r sent is_author is_committer is_message is_long paths.
    let actors = neither_bad _ _ (not-true (is_bad_actor sent.author) (sym (c.has_good_names.ensures sent.author is_author) ∙ c.if-not-has_good_names.false))
    (not-true (is_bad_actor sent.committer) (sym (c.has_good_names-else-not-has_good_names.ensures sent.committer is_committer) ∙ c.if-not-has_good_names-2.false)) in
    let author = subst (ReadsTime sent.author) c.in_ok-author.ensures.ok_part (c.time_of.ensures sent.author is_author) in
    let committer = subst (ReadsTime sent.committer) c.in_ok-committer.ensures.ok_part (c.time_of-2.ensures sent.committer is_committer) in
    let times = neither_bad _ _ (time_good sent.author c.in_ok-author.author author) (time_good sent.committer c.in_ok-committer.committer committer) in
    let told = c.is_bad_title.ensures ∙ ap is_bad_title (c.title.ensures ∙ ap title c.kept.ensures) ∙ bad_kept max_content c.args.message.now sent.message is_message in
    elim c.then-is_too_long.branch [
      | then-is_too_long-via-then-is_too_long w ↦
          size_refused r sent paths actors times (sym told ∙ c.if-is_bad_title.false) (long_message r sent (over max_content (length sent.message) (sym (c.is_too_long.ensures max_content sent.message is_message) ∙ w.if-is_too_long.true)))
      | then-is_too_long-via-else-is_too_long+then-has_long_content w ↦
          size_refused r sent paths actors times (sym told ∙ c.if-is_bad_title.false)
          (long_content r sent (sym is_long ∙ w.if-has_long_content.true))
    ]

pub returns : goal.returns
returns c = λ r sent is_author is_committer is_message is_long paths.
    let actors = neither_bad _ _ (not-true (is_bad_actor sent.author) (sym (c.has_good_names.ensures sent.author is_author) ∙ c.if-not-has_good_names.false))
    (not-true (is_bad_actor sent.committer) (sym (c.has_good_names-else-not-has_good_names.ensures sent.committer is_committer) ∙ c.if-not-has_good_names-2.false)) in
    let author = subst (ReadsTime sent.author) c.in_ok-author.ensures.ok_part (c.time_of.ensures sent.author is_author) in
    let committer = subst (ReadsTime sent.committer) c.in_ok-committer.ensures.ok_part (c.time_of-2.ensures sent.committer is_committer) in
    let times = neither_bad _ _ (time_good sent.author c.in_ok-author.author author) (time_good sent.committer c.in_ok-committer.committer committer) in
    let told = c.is_bad_title.ensures ∙ ap is_bad_title (c.title.ensures ∙ ap title c.kept.ensures) ∙ bad_kept max_content c.args.message.now sent.message is_message in
    record {
      formed = all_formed r sent paths actors times (sym told ∙ c.if-is_bad_title.false);
      message = not_beyond max_content (length sent.message) (sym (c.is_too_long.ensures max_content sent.message is_message) ∙ c.if-is_too_long.false);
      contents = sym is_long ∙ c.if-has_long_content.false;
      author = author;
      committer = committer;
    }
