use Rattle.std.proofs.Common.{◌≡◌, ◌∙◌, ◌==◌, ap, sym, subst, filter, map, length, true, false}
use Rattle.gix_hash.specs.Id.{id_of}
use Rattle.history_model.specs.Answers.{differs_at, kept}
use Rattle.history_model.specs.Commands.{Log}
use Rattle.history_model.specs.Replies.{LogIs, reply_text}
use Rattle.history_repository.specs.Fields.{kept_bytes}
use Rattle.history_queries.specs.Walked.{AllHold}
use Rattle.history_queries.proofs.Answered.{handed_on, reading_fault}
use Rattle.history_queries.proofs.LogLemmas.{good_paths, kept_all, kept_some, log_answered, unwalked, whole_paths}
use Rattle.history_queries.proofs.logs.log.Goals as goal

pub returns-in_err-walked : goal.returns-in_err-walked
returns-in_err-walked g c = λ r sent s is.
    handed_on g.F.Files.reading_may_fail r (Log sent) c.from_residual.result _ c.from_residual.ensures.1
    (unwalked g.F.Files.reading_may_fail r sent _ (c.in_err-walked.ensures r sent s is))

pub returns-then-is_empty : goal.returns-then-is_empty
returns-then-is_empty g c = λ r sent s is.
    let walked = c.in_ok-walked.ensures r sent s is in
    let fields = c.args.command.now.paths in
    let ids = map id_of c.in_ok-walked.walked.ids.items in
    let none : (length fields.items == 0) ≡ true = sym (c.is_empty.ensures ∙ ap (λ n. n == 0) fields.ok.0) ∙ c.if-is_empty.true in
    log_answered g.F.Files.reading_may_fail r sent c.in_ok-walked.walked.ids.items c.in_ok-walked.walked.ids.items c.in_ok-log_text.field-0 walked.0 walked.1 (sym (kept_all r fields.items sent.paths ids is.paths none))
    (c.in_ok-log_text.ensures ∙ ap (λ ids. reply_text (LogIs (map id_of ids))) c.deref.ensures.value)

pub returns-in_err-listed : goal.returns-in_err-listed
returns-in_err-listed g c = λ r sent s is.
    let walked = c.in_ok-walked.ensures r sent s is in
    let hold = subst (AllHold r) (sym c.deref-3.ensures.value) (walked.1).hold in
    handed_on g.F.Files.reading_may_fail r (Log sent) c.from_residual-in_err-listed.result _ c.from_residual-in_err-listed.ensures.1
    (reading_fault g.F.Files.reading_may_fail r (Log sent) _ (c.in_err-listed.ensures r s walked.2 hold))

pub returns : goal.returns
returns g c = λ r sent s is.
    let walked = c.in_ok-walked.ensures r sent s is in
    let fields = c.args.command.now.paths in
    let ids = map id_of c.in_ok-walked.walked.ids.items in
    let some : (length fields.items == 0) ≡ false = sym (c.is_empty.ensures ∙ ap (λ n. n == 0) fields.ok.0) ∙ c.if-is_empty.false in
    let hold = subst (AllHold r) (sym c.deref-3.ensures.value) (walked.1).hold in
    let paths : map (λ path. path.now) c.deref-4.result.now ≡ sent.paths =
    ap (map (λ path. path.now)) c.deref-4.ensures.value ∙ c.in_ok-paths.ensures ∙ ap (map kept_bytes) c.deref-2.ensures.value ∙ whole_paths fields.items sent.paths is.paths (good_paths r sent walked.0) in
    let listed : map id_of c.in_ok-listed.listed.items ≡ kept r sent.paths ids =
    c.in_ok-listed.ensures r s walked.2 hold ∙ (λ i. filter (differs_at r (paths i)) (map id_of (c.deref-3.ensures.value i))) ∙ sym (kept_some r fields.items sent.paths ids is.paths some) in
    log_answered g.F.Files.reading_may_fail r sent c.in_ok-walked.walked.ids.items c.in_ok-listed.listed.items c.in_ok-log_text-2.field-0 walked.0 walked.1 listed
    (c.in_ok-log_text-2.ensures ∙ ap (λ ids. reply_text (LogIs (map id_of ids))) c.deref-5.ensures.value)
