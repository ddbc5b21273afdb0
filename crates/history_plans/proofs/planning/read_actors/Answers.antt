use Rattle.std.proofs.Common.{sym, subst}
use Rattle.history_model.specs.declared.Cause.TheVariants.{BadActor}
use Rattle.history_plans.specs.Plans.{AreActors}
use Rattle.history_plans.proofs.FirstCauses.{good_actors}
use Rattle.history_plans.proofs.Tested.{only_error}
use Rattle.history_plans.proofs.TimesLemmas.{never_absent}
use Rattle.history_plans.proofs.planning.read_actors.Goals as goal

pub returns-in_err-times : goal.returns-in_err-times
returns-in_err-times c = λ r sent is_author is_committer is_message is_long paths.
    subst (AreActors r sent) (sym (only_error _ c.in_err-times.field-0.0 c.from_residual.ensures.1))
    (c.in_err-times.ensures r sent is_author is_committer is_message is_long paths)

pub returns-in_err-author : goal.returns-in_err-author
returns-in_err-author c = λ r sent is_author is_committer is_message is_long paths.
    let times = c.in_ok-times.ensures r sent is_author is_committer is_message is_long paths in
    let actors = good_actors r sent times.formed in
    absurd (never_absent _ c.actor_at.result c.in_err-author.field-0.0 BadActor c.in_err-author.ensures.value (c.actor_at.ensures sent.author is_author actors.0 times.author))

pub returns-in_err-committer : goal.returns-in_err-committer
returns-in_err-committer c = λ r sent is_author is_committer is_message is_long paths.
    let times = c.in_ok-times.ensures r sent is_author is_committer is_message is_long paths in
    let actors = good_actors r sent times.formed in
    absurd (never_absent _ c.actor_at-2.result c.in_err-committer.field-0.0 BadActor c.in_err-committer.ensures.value (c.actor_at-2.ensures sent.committer is_committer actors.1 times.committer))

pub returns : goal.returns
returns c = λ r sent is_author is_committer is_message is_long paths.
    let times = c.in_ok-times.ensures r sent is_author is_committer is_message is_long paths in
    let actors = good_actors r sent times.formed in
    record {
      formed = times.formed;
      message = times.message;
      contents = times.contents;
      author = rw c.in_ok-author.ensures.ok_part at (c.actor_at.ensures sent.author is_author actors.0 times.author);
      committer = rw c.in_ok-committer.ensures.ok_part at (c.actor_at-2.ensures sent.committer is_committer actors.1 times.committer);
    }
