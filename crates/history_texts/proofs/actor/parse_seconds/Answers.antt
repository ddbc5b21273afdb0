use Rattle.std.proofs.Common.{◌≡◌, ◌∙◌, sym, arith}
use Rattle.std.proofs.lemmas.Fmt.{decimal_injective}
use Rattle.history_texts.proofs.actor.parse_seconds.Goals as goal

pub returns-in_err-seconds : goal.returns-in_err-seconds
returns-in_err-seconds c = rw c.from_residual.ensures (λ seconds small is. c.in_err-seconds.ensures seconds (omega (arith, small)) is)

pub returns-else-seconds-le-MAX_SECONDS : goal.returns-else-seconds-le-MAX_SECONDS
returns-else-seconds-le-MAX_SECONDS c = λ seconds small is.
    let same : c.in_ok-seconds.seconds ≡ seconds = decimal_injective _ seconds (omega arith) (omega (arith, small)) (sym c.in_ok-seconds.ensures ∙ is) in
    absurd (omega (arith, same, small, c.if-seconds-le-MAX_SECONDS.false))
