use Rattle.std.proofs.Common.{◌≡◌, ◌∙◌, ap, sym, subst, codes, rules, Err, Some}
use Rattle.std.specs.Prelude.{FitsSigned}
use Rattle.std.specs.Int.{w64}
use Rattle.std.proofs.lemmas.Int.{to_z-of_z}
use Rattle.std.proofs.lemmas.Result.{err_from_is_err_and}
use Rattle.std.specs.Option.{ok_or}
use Rattle.history_model.specs.declared.Cause.TheVariants.{BadTime}
use Rattle.history_texts.specs.Actors.{IsNoTime, IsTimeOf}
use Rattle.history_queries.specs.Logs.{IsSince}
use Rattle.history_queries.proofs.OrderLemmas.{bad_cutoff, good_cutoff}
use Rattle.history_queries.proofs.logs.since_of.Goals as goal

pub returns-in_err-time-in-NewestSince : goal.returns-in_err-time-in-NewestSince
returns-in_err-time-in-NewestSince c = λ line sent.
    let read = c.parse_time.ensures in
    let none = rw c.in_err-time-in-NewestSince.ensures.ok_part at read in
    let bad = bad_cutoff c.args.order.now line c.in-NewestSince.word c.in-NewestSince.is sent (subst (λ word. IsNoTime word (codes "+0000")) c.deref.ensures.value none) in
    let stopped = err_from_is_err_and c.from_residual.result c.from_residual.ensures.1 in
    let told = c.in_err-time-in-NewestSince.ensures in
    let same = told.value ∙ ap (λ found. ok_or found BadTime) told.ok_part in
    let cause : c.in_err-time-in-NewestSince.field-0.0 ≡ BadTime = cc in
    let refused : c.from_residual.result ≡ Err BadTime = stopped.1 ∙ ap Err (stopped.2 ∙ cause) in
    rw refused bad

pub returns-in_ok-time-in-NewestSince : goal.returns-in_ok-time-in-NewestSince
returns-in_ok-time-in-NewestSince c = λ line sent.
    let time = c.in_ok-time-in-NewestSince.time in
    let read = c.parse_time.ensures in
    let some = rw c.in_ok-time-in-NewestSince.ensures.ok_part at read in
    let good = good_cutoff c.args.order.now line c.in-NewestSince.word c.in-NewestSince.is sent time (subst (λ word. IsTimeOf word (codes "+0000") time) c.deref.ensures.value some) in
    let fits : FitsSigned w64 time.seconds = search rules in
    (good.0, subst (λ seconds. IsSince line (Some seconds)) (sym (to_z-of_z w64 time.seconds fits)) good.1)
