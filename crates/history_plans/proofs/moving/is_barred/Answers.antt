use Rattle.std.proofs.Common.{◌≡◌, ◌∙◌, ap, subst, sym, Err}
use Rattle.std.proofs.lemmas.Result.{err_from_is_err_and}
use Rattle.history_model.specs.Bytes.{Bytes}
use Rattle.history_store.specs.AllNames.{TellsMeeting}
use Rattle.history_repository.specs.Face.{names_part}
use Rattle.history_plans.specs.Moving.{bars}
use Rattle.history_plans.proofs.LineLemmas.{file_fails, new_bars, standing_bars}
use Rattle.history_repository.proofs.ReadingFaults.{gives_fault}
use Rattle.history_plans.proofs.PlaceLemmas.{collision_told}
use Rattle.history_plans.proofs.moving.is_barred.Goals as goal

pub returns-then-is_some : goal.returns-then-is_some
returns-then-is_some g c = λ r to h is named. standing_bars r to c.args.line.now is (sym c.is_some.ensures ∙ c.if-is_some.true)

pub returns-in_err-collides_any : goal.returns-in_err-collides_any
returns-in_err-collides_any g c = λ r to h is named.
    let MayFail = g.F.Files.reading_may_fail in
    let stopped = err_from_is_err_and c.from_residual.result c.from_residual.ensures.1 in
    gives_fault MayFail (λ barred. barred ≡ bars r to) c.from_residual.result _ (stopped.1 ∙ ap Err stopped.2)
    (file_fails MayFail c.collides_any.result c.in_err-collides_any.field-0.0 c.in_err-collides_any.was c.collides_any.ensures.failed)

pub returns : goal.returns
returns g c = λ r to h is named.
    let place : c.deref.result.now ≡ to.name = c.deref.ensures.value ∙ is.name in
    let found = c.in_ok-collides_any.ensures.found h.honest_names h.records in
    new_bars r to c.args.line.now is (sym c.is_some.ensures ∙ c.if-is_some.false) c.in_ok-collides_any.field-0
    (collision_told g.F.Files.is_honest g.F.Files.history c.args.repository.now r h to.name named c.in_ok-collides_any.field-0
    (subst (λ (n : Bytes). TellsMeeting c.args.repository.now.names.kind n (g.F.Files.history (names_part c.args.repository.now)).tree c.in_ok-collides_any.field-0) place found))
